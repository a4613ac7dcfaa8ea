-- Laws of tests.
use Prim.Native.Nat.{ℕ, ◌≤◌, ◌<◌}
use mathlib.Core.Path.{◌≡◌, refl, sym, ◌∙◌}
use mathlib.Core.Bool.{Bool, true, false, ◌&&◌, false≢true}
use native.Mathlib.Omega.{arith}
use native.Mathlib.Decide.{dec_le}
use lib.Dec.{leb}
use borrow.Author.Tests.{le-leb, lt-leb}

pub and_left : (a b : Bool) → a && b ≡ true → a ≡ true
and_left true b e = refl
and_left false b e = e

pub and_right : (a b : Bool) → a && b ≡ true → b ≡ true
and_right true b e = e
and_right false b e = absurd (false≢true e)

pub and_false : (a : Bool) → a && false ≡ false
and_false true = refl
and_false false = refl

-- two tests of which each follows from the other are equal
pub leb_same : (a b c d : ℕ) → (a ≤ b → c ≤ d) → (c ≤ d → a ≤ b) → leb a b ≡ leb c d
leb_same a b c d f g = elim (dec_le a b) [ yes h ↦ le-leb a b h ∙ sym (le-leb c d (f h)) | no h ↦ far h ]
  where
    far : (a ≤ b → ⊥) → leb a b ≡ leb c d
    far h =
        let l : b < a = omega arith in
        let m : d < c = elim (dec_le c d) [ yes k ↦ absurd (h (g k)) | no k ↦ omega arith ] in
        lt-leb a b l ∙ sym (lt-leb c d m)

-- a test that holds exactly when another does is that test
pub same_test : (a b : Bool) → (a ≡ true → b ≡ true) → (a ≡ false → b ≡ true → ⊥) → a ≡ b
same_test true b f g = sym (f refl)
same_test false true f g = absurd (g refl refl)
same_test false false f g = refl
