-- Numbers: what is accepted is a number's rest and what is accepted after it.
use Rattle.json_blocks.specs.declared.Cursor.{Cursor}
use Rattle.std.specs.Prelude.{Option}
use mathlib.Core.Path.{◌≡◌, refl, sym, ◌∙◌}
use mathlib.Core.Bool.{Bool, true, false}
use mathlib.Core.List.{List}
use Prim.Native.Nat.{ℕ, ◌<◌, ◌+◌}
use native.Mathlib.Omega.{arith}
use lib.ListN.{length}
use lib.Dec.{eqb, ltb}
use borrow.Author.Tests.{eqb-true, ltb-true, ltb-false}
use Rattle.json_blocks.specs.TextBytes.{byte, within}
use Rattle.json_tokens.specs.Number.{digit, digits_at, integer_at, fraction_at, skip_sign, exponent_at, skip_minus, number_at}
use Rattle.json_blocks.proofs.ByteLaws.{cond_elim, inside}
use Rattle.json_tokens.proofs.NumberLaws.{no_digit}
use Rattle.json_automaton.specs.Token.{bad, byte_move, minus_move, exponent_move, fraction_move, sign_move, token_moves, token_move, whole}
use Rattle.json_automaton.specs.declared.Control.{Control}
use Rattle.json_automaton.specs.Control.{control, moved, move, number_move, accepting}
use Rattle.json_automaton.proofs.Accept.{accepts_at, then_at, then_then, then_same, cond_both, accepts_lost, accepts_inside, accepts_past, accepts_skip, skip_ended, token_step}

-- ---- numbers that may end
module _ (s : List ℕ) (o t : ℕ) (w : whole t ≡ true) (i : ℕ) where
  -- the byte is none of the number's
  ends : token_move t (byte s i) ≡ bad → accepts_at s (control 5 t o) i ≡ accepts_at s (control 5 0 o) i
  unfolding move moved accepting token_move token_moves whole
  ends e = go (ltb i (length s)) refl where
    go : (b : Bool) → ltb i (length s) ≡ b → accepts_at s (control 5 t o) i ≡ accepts_at s (control 5 0 o) i
    go true h =
        accepts_inside s (control 5 t o) i (ltb-true _ _ h) ∙ rw (w, e) (sym (accepts_inside s (control 5 0 o) i (ltb-true _ _ h)))
    go false h =
        accepts_past s (control 5 t o) i (ltb-false _ _ h) ∙ rw w (sym (accepts_past s (control 5 0 o) i (ltb-false _ _ h)))

  -- the number goes on as n
  goes_on : (n : ℕ) → 0 < byte s i → token_move t (byte s i) ≡ n → eqb n bad ≡ false → accepts_at s (control 5 t o) i ≡ accepts_at s (control 5 n o) (i + 1)
  unfolding move moved
  goes_on n h e q = accepts_inside s (control 5 t o) i (inside s i (byte s i) refl h) ∙ rw (e, q)

module _ (s : List ℕ) (o : ℕ) where
  -- digits, and the token n stays n over digits
  some_digits : (n i : ℕ) → eqb n bad ≡ false → ((b : ℕ) → digit b ≡ true → move (control 5 n o) b ≡ control 5 n o)
      → accepts_at s (moved 5 o false (byte_move 0x30 0x39 n (byte s i)) (byte s i)) (i + 1) ≡ then_at (digits_at s i) (accepts_at s (control 5 n o))
  unfolding byte_move digits_at moved
  some_digits n i q stays =
      cond_both (λ (m : ℕ) (r : Option Cursor). accepts_at s (moved 5 o false m (byte s i)) (i + 1) ≡ then_at r (accepts_at s (control 5 n o))) (digit (byte s i))
      (λ _. rw q (accepts_skip s digit no_digit (control 5 n o) stays (i + 1))) (λ _. accepts_lost s (i + 1))

  -- after digits stands another byte
  digits_then : (i : ℕ) {f g : ℕ → Bool} → ((k : ℕ) → digit (byte s k) ≡ false → f k ≡ g k) → then_at (digits_at s i) f ≡ then_at (digits_at s i) g
  unfolding digits_at
  digits_then i {f} {g} h =
      cond_elim (λ (r : Option Cursor). then_at r f ≡ then_at r g) (digit (byte s i)) _ _ (λ _. h _ (skip_ended digit no_digit s (i + 1))) (λ _. refl)

  stays : (n : ℕ) → ((b : ℕ) → digit b ≡ true → token_move n b ≡ n) → eqb n bad ≡ false → (b : ℕ) → digit b ≡ true → move (control 5 n o) b ≡ control 5 n o
  unfolding move moved
  stays n f q b h = rw (f b h, q)

  -- ---- exponents
  exponent_digits : (i : ℕ) → accepts_at s (moved 5 o false (byte_move 0x30 0x39 28 (byte s i)) (byte s i)) (i + 1) ≡ then_at (digits_at s i) (accepts_at s (control 5 0 o))
  unfolding token_move token_moves byte_move whole
  exponent_digits i =
      some_digits 28 i refl (stays 28 (λ b h. rw h) refl) ∙ digits_then i (λ k e. ends s o 28 refl k (rw e))

  sign_accepts : (i : ℕ) → accepts_at s (control 5 26 o) i ≡ then_at (digits_at s (skip_sign s i)) (accepts_at s (control 5 0 o))
  unfolding token_move token_moves whole sign_move skip_sign moved byte_move within
  sign_accepts i =
      token_step s 5 o 26 refl i refl
      ∙ cond_both R (eqb (byte s i) 0x2B) (λ _. signed) (λ _. cond_both R (eqb (byte s i) 0x2D) (λ _. signed) (λ _. exponent_digits i))
    where
      R : ℕ → ℕ → Type 0
      R m k = accepts_at s (moved 5 o false m (byte s i)) (i + 1) ≡ then_at (digits_at s k) (accepts_at s (control 5 0 o))

      signed : accepts_at s (control 5 27 o) (i + 1) ≡ then_at (digits_at s (i + 1)) (accepts_at s (control 5 0 o))
      signed = token_step s 5 o 27 refl (i + 1) refl ∙ exponent_digits (i + 1)

  exponent : (t i : ℕ) → whole t ≡ true → token_move t (byte s i) ≡ exponent_move (byte s i) → accepts_at s (control 5 t o) i ≡ then_at (exponent_at s i) (accepts_at s (control 5 0 o))
  unfolding exponent_at exponent_move
  exponent t i w e =
      cond_elim P (eqb (byte s i) 0x65) _ _ (λ h. let y = eqb-true (byte s i) 0x65 h in goes_on s o t w i 26 (omega arith) (e ∙ rw h) refl ∙ sign_accepts (i + 1))
      (λ g. cond_elim P (eqb (byte s i) 0x45) _ _ (λ h. let y = eqb-true (byte s i) 0x45 h in goes_on s o t w i 26 (omega arith) (e ∙ rw (g, h)) refl ∙ sign_accepts (i + 1))
      (λ h. ends s o t w i (e ∙ rw (g, h))))
    where
      P : Option Cursor → Type 0
      P r = accepts_at s (control 5 t o) i ≡ then_at r (accepts_at s (control 5 0 o))

  -- ---- fractions, and what follows
  abbrev rest_of : ℕ → Bool
  rest_of k = then_at (exponent_at s k) (accepts_at s (control 5 0 o))

  point_accepts : (i : ℕ) → accepts_at s (control 5 24 o) i ≡ then_at (digits_at s i) rest_of
  unfolding token_move token_moves whole byte_move within
  point_accepts i =
      token_step s 5 o 24 refl i refl ∙ some_digits 25 i refl (stays 25 (λ b h. rw h) refl) ∙ digits_then i (λ k e. exponent 25 k refl (rw e))

  fraction : (t i : ℕ) → whole t ≡ true → token_move t (byte s i) ≡ fraction_move (byte s i) → accepts_at s (control 5 t o) i ≡ then_at (fraction_at s i) rest_of
  unfolding fraction_at fraction_move
  fraction t i w e =
      cond_elim (λ (r : Option Cursor). accepts_at s (control 5 t o) i ≡ then_at r rest_of) (eqb (byte s i) 0x2E) _ _
      (λ h. let y = eqb-true (byte s i) 0x2E h in goes_on s o t w i 24 (omega arith) (e ∙ rw h) refl ∙ point_accepts (i + 1))
      (λ h. exponent t i w (e ∙ rw h))

  -- ---- integers, and what follows
  integer : (i : ℕ) → accepts_at s (moved 5 o false (minus_move (byte s i)) (byte s i)) (i + 1) ≡ then_at (integer_at s i) (λ j. then_at (fraction_at s j) rest_of)
  unfolding minus_move integer_at moved token_move token_moves whole
  integer i =
      cond_both (λ (m : ℕ) (r : Option Cursor). accepts_at s (moved 5 o false m (byte s i)) (i + 1) ≡ then_at r (λ j. then_at (fraction_at s j) rest_of)) (eqb (byte s i) 0x30)
      (λ _. fraction 22 (i + 1) refl refl)
      (λ _. some_digits 23 i refl (stays 23 (λ b h. rw h) refl) ∙ digits_then i (λ j e. fraction 23 j refl (rw e)))

  pub number_accepts : (i : ℕ) → accepts_at s (number_move o (byte s i)) (i + 1) ≡ then_at (number_at s i) (accepts_at s (control 5 0 o))
  unfolding number_move number_at skip_minus moved token_move token_moves whole minus_move byte_move within
  number_accepts i =
      cond_both (λ (c : Control) (k : ℕ). accepts_at s c (i + 1) ≡ then_at (integer_at s k) (λ j. then_at (fraction_at s j) rest_of)) (eqb (byte s i) 0x2D)
      (λ _. token_step s 5 o 21 refl (i + 1) refl ∙ integer (i + 1)) (λ _. integer i)
      ∙ sym (then_then (integer_at s (skip_minus s i)) _ _ ∙ then_same (integer_at s (skip_minus s i)) (λ j. then_then (fraction_at s j) (exponent_at s) _))
