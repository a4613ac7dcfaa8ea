-- Going through a text a turn at a time.
use Rattle.std.specs.Prelude.{List, ℕ, zero, suc, length}

-- one turn: on to a further place, or out with an answer
pub data Turn (A : Type 0) : Type 0 where
  on : ℕ → Turn A
  out : A → Turn A

abbrev pub after_turn : {A : Type 0} → Turn A → (ℕ → A) → A
after_turn (on j) f = f j
after_turn (out a) f = a

-- at most n turns
unfoldable pub run_turns : {A : Type 0} → A → (ℕ → Turn A) → ℕ → ℕ → A
run_turns z turn zero at = z
run_turns z turn (suc n) at = after_turn (turn at) (λ j. run_turns z turn n j)

-- Turns from `at` on in the text s. Where each turn that goes on passes a byte of s (`Advances`, proofs/TurnLaws.antt),
-- `suc (length s)` turns are enough; z is the answer of a walk that has none left.
unfoldable pub run_text : {A : Type 0} → List ℕ → A → (ℕ → Turn A) → ℕ → A
run_text s z turn at = run_turns z turn (suc (length s)) at
