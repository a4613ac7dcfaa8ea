-- Steps of the definitions of specs/Values.antt and specs/ValueCode.antt, on plain variables.
use Rattle.std.specs.Prelude.{None, Option, Some}
use mathlib.Core.Path.{◌≡◌, refl, sym, ap, ◌∙◌}
use mathlib.Core.Bool.{Bool, true, false, cond, ◌&&◌}
use mathlib.Core.List.{List, [], ◌∷◌}
use Prim.Native.Nat.{ℕ, ◌≤◌, ◌<◌, ◌+◌, ◌-◌, ◌*◌, ◌^◌}
use native.Mathlib.Omega.{arith}
use native.Mathlib.Numerals.{add-one}
use lib.ListN.{length, take, drop, drop_of_length-le, length-drop}
use lib.Seq.{drop-cons, take_all}
use lib.Dec.{ltb}
use borrow.Author.Tests.{lt-ltb, le-ltb}
use Rattle.json_blocks.specs.TextBytes.{byte}
use Rattle.json_blocks.specs.Lists.{all, number_from}
use Rattle.json_tokens.specs.Number.{digit}
use Rattle.refusals.specs.Answer.{accepted, refused}
use Rattle.sigmf_values.specs.Values.{part_of, is_uint, uint_of, uint_says, uint_answer}
use Rattle.sigmf_values.specs.ValueCode.{digits_from, is_value}

-- a part of a text whose end is past the text's
pub part_rest : (s : List ℕ) (at end : ℕ) → length s ≤ end → take (length s - at) (drop at s) ≡ part_of s at end
part_rest s at end h =
    take_all (length s - at) (drop at s) (omega (arith, length-drop at s)) ∙ sym (take_all (end - at) (drop at s) (omega (arith, length-drop at s)))

-- more digits make no smaller number
number_onward : (n : ℕ) (l : List ℕ) → n ≤ number_from n l
unfolding number_from
number_onward n [] = omega arith
number_onward n (b ∷ l) = omega (arith, number_onward (n * 10 + (b - 0x30)) l)

too_large : (m : ℕ) (l : List ℕ) → 2 ^ 64 ≤ m → None ≡ digits_from m l
unfolding digits_from
too_large m l q = let k = number_onward m l in go (all digit l) (le-ltb (number_from m l) (2 ^ 64) (omega arith)) where
  go : (t : Bool) → ltb (number_from m l) (2 ^ 64) ≡ false → None ≡ cond (t && ltb (number_from m l) (2 ^ 64)) (Some (number_from m l)) None
  go true e = rw e
  go false e = refl

-- ---- the digits of p from i on, after those that make n
module _ (p : List ℕ) (n i : ℕ) where
  pub digits_end : length p ≤ i → n < 2 ^ 64 → Some n ≡ digits_from n (drop i p)
  unfolding digits_from all number_from
  digits_end h l = rw (drop_of_length-le p h, lt-ltb _ _ l)

  module _ (h : i < length p) where
    pub digits_not : digit (byte p i) ≡ false → None ≡ digits_from n (drop i p)
    unfolding digits_from all
    digits_not e = rw (drop-cons p i 0 h, e)

    pub digits_on : (m : ℕ) → m ≡ n * 10 + (byte p i - 0x30) → digit (byte p i) ≡ true → digits_from m (drop (i + 1) p) ≡ digits_from n (drop i p)
    unfolding digits_from all number_from
    digits_on m q e = rw (add-one i, drop-cons p i 0 h, e, q)

    pub digits_over : 2 ^ 64 ≤ n * 10 + (byte p i - 0x30) → digit (byte p i) ≡ true → None ≡ digits_from n (drop i p)
    digits_over q e = too_large (n * 10 + (byte p i - 0x30)) (drop (i + 1) p) q ∙ digits_on _ refl e

-- ---- what the answer of a uint says
module _ (p : List ℕ) where
  uint_same : uint_says (uint_of p) ≡ uint_answer p
  unfolding uint_of
  uint_same = go (is_uint p) where
    go : (t : Bool) → uint_says (cond t (Some (number_from 0 p)) None) ≡ cond t (accepted (number_from 0 p)) (refused 7)
    go true = refl
    go false = refl

  pub uint_typed : is_value (uint_of p) ≡ is_uint p
  unfolding uint_of
  uint_typed = go (is_uint p) where
    go : (t : Bool) → is_value (cond t (Some (number_from 0 p)) None) ≡ t
    go true = refl
    go false = refl

  pub uint_of_lem : (r : Option ℕ) → uint_says r ≡ uint_answer p → r ≡ uint_of p
  uint_of_lem r e = go r (uint_of p) (e ∙ sym uint_same) where
    go : (a b : Option ℕ) → uint_says a ≡ uint_says b → a ≡ b
    go (Some n) (Some m) e = let z : n ≡ m = cc in ap Some z
    go (Some n) None e = let z : ◌≡◌ {A = ℕ} 0 1 = cc in absurd (omega arith)
    go None (Some m) e = let z : ◌≡◌ {A = ℕ} 0 1 = cc in absurd (omega arith)
    go None None e = refl
