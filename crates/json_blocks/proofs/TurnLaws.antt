-- A run does not depend on how many turns it is allowed, once they are enough: a turn that goes on leaves the run's answer
-- as it is.
use mathlib.Core.Path.{◌≡◌, refl, sym, ap, ◌∙◌}
use mathlib.Core.List.{List}
use Prim.Native.Nat.{ℕ, zero, suc, ◌<◌, ◌-◌}
use native.Mathlib.Omega.{arith}
use lib.ListN.{length}
use Rattle.json_blocks.specs.Turns.{Turn, on, out, after_turn, run_turns, run_text}

-- each turn that goes on passes a byte of s
abbrev pub Advances : {A : Type 0} → List ℕ → (ℕ → Turn A) → Type 0
Advances s turn = (i j : ℕ) → turn i ≡ on j → (i < j) × (i < length s)

module _ {A : Type 0} (s : List ℕ) (z : A) (turn : ℕ → Turn A) where
  pub run_out : (i : ℕ) (a : A) → turn i ≡ out a → a ≡ run_text s z turn i
  unfolding run_text run_turns
  run_out i a e = rw e

  module _ (adv : Advances s turn) where
    both : (n m : ℕ) (t : Turn A) → ((j : ℕ) → t ≡ on j → run_turns z turn n j ≡ run_turns z turn m j)
        → after_turn t (λ j. run_turns z turn n j) ≡ after_turn t (λ j. run_turns z turn m j)
    both n m (on j) h = h j refl
    both n m (out a) h = refl

    same : (n m i : ℕ) → length s - i < n → length s - i < m → run_turns z turn n i ≡ run_turns z turn m i
    unfolding run_turns
    same zero m i h k = absurd (omega arith)
    same (suc n) zero i h k = absurd (omega arith)
    same (suc n) (suc m) i h k =
        both n m (turn i)
        (λ j e. let p = (adv i j e).0 in let q = (adv i j e).1 in same n m j (omega arith) (omega arith))

    pub run_on : (i j : ℕ) → turn i ≡ on j → run_text s z turn j ≡ run_text s z turn i
    unfolding run_text run_turns
    run_on i j e =
        let p = (adv i j e).0 in
        let q = (adv i j e).1 in
        same (suc (length s)) (length s) j (omega arith) (omega arith) ∙ sym (step e)
      where
        step : turn i ≡ on j → run_turns z turn (suc (length s)) i ≡ run_turns z turn (length s) j
        step e = ap (λ (t : Turn A). after_turn t (λ k. run_turns z turn (length s) k)) e
