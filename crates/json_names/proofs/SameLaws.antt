-- Steps of the definitions of specs/Same.antt and specs/Keys.antt, on plain variables.
use mathlib.Core.Path.{◌≡◌, refl, ◌∙◌}
use mathlib.Core.Bool.{Bool, true, false, not, ◌&&◌}
use mathlib.Core.List.{List, [], ◌∷◌}
use Prim.Native.Nat.{ℕ, ◌<◌, ◌+◌, ◌*◌, ◌%◌}
use native.Mathlib.Omega.{arith}
use native.Mathlib.Numerals.{add-one}
use lib.ListN.{length, get_or, drop}
use lib.Seq.{drop-cons}
use lib.Dec.{eqb}
use borrow.Author.Tests.{eq-eqb, ne_eqb, eqb-true}
use Rattle.std.specs.Option.{is_some}
use Rattle.std.specs.Prelude.{None, Option, Some}
use Rattle.json_strings.specs.declared.Position.{Position}
use Rattle.json_strings.specs.Stream.{stream, next_byte}
use Rattle.json_strings.proofs.DecodeLaws.{streamed_next, streamed_end}
use Rattle.json_names.specs.Same.{same}
use Rattle.json_names.specs.Keys.{key_from}

-- ---- equal lists
pub same_is : (k l : List ℕ) → same k l ≡ true → k ≡ l
unfolding same
same_is [] [] e = refl
same_is [] (b ∷ l) e = let z : ◌≡◌ {A = ℕ} 0 1 = cc in absurd (omega arith)
same_is (a ∷ k) [] e = let z : ◌≡◌ {A = ℕ} 0 1 = cc in absurd (omega arith)
same_is (a ∷ k) (b ∷ l) e = go (eqb a b) refl e (same_is k l) where
  go : (t : Bool) → eqb a b ≡ t → (t && same k l) ≡ true → (same k l ≡ true → k ≡ l) → a ∷ k ≡ b ∷ l
  go true q e f = let p : a ≡ b = eqb-true _ _ q in let r = f e in cc
  go false q e f = let z : ◌≡◌ {A = ℕ} 0 1 = cc in absurd (omega arith)

pub same_ne : (k l : List ℕ) → (k ≡ l → ⊥) → same k l ≡ false
same_ne k l f = go (same k l) refl where
  go : (t : Bool) → same k l ≡ t → t ≡ false
  go true e = absurd (f (same_is k l e))
  go false e = refl

module _ (x w : List ℕ) (i : ℕ) where
  pub is_short : x ≡ [] → i < length w → false ≡ same x (drop i w)
  unfolding same
  is_short e h = rw (e, drop-cons w i 0 h)

  module _ (b : ℕ) (y : List ℕ) (e : x ≡ b ∷ y) where
    pub is_not : i < length w → (b ≡ get_or w i 0 → ⊥) → false ≡ same x (drop i w)
    unfolding same
    is_not h f = rw (e, drop-cons w i 0 h, ne_eqb _ _ f)

    pub is_on : i < length w → b ≡ get_or w i 0 → same y (drop (i + 1) w) ≡ same x (drop i w)
    unfolding same
    is_on h f = rw (e, add-one i, drop-cons w i 0 h, eq-eqb _ _ f)

module _ (x z : List ℕ) where
  pub both_end : x ≡ [] → z ≡ [] → true ≡ same x z
  unfolding same
  both_end e f = rw (e, f)

  pub left_end : (b : ℕ) (y : List ℕ) → x ≡ [] → z ≡ b ∷ y → false ≡ same x z
  unfolding same
  left_end b y e f = rw (e, f)

  module _ (b : ℕ) (y : List ℕ) (e : x ≡ b ∷ y) where
    pub right_end : z ≡ [] → false ≡ same x z
    unfolding same
    right_end f = rw (e, f)

    module _ (c : ℕ) (v : List ℕ) (f : z ≡ c ∷ v) where
      pub both_not : (b ≡ c → ⊥) → false ≡ same x z
      unfolding same
      both_not h = rw (e, f, ne_eqb _ _ h)

      pub both_on : b ≡ c → same y v ≡ same x z
      unfolding same
      both_on h = rw (e, f, eq-eqb _ _ h)

-- one text has ended, and the other has where there is no next byte
no_more : {A : Type 0} (g : Option A) (t : Bool) → is_some g ≡ not t → t ≡ not (is_some g)
no_more g true e = rw e
no_more g false e = rw e

module _ (s : List ℕ) (p : Position) (g : Option (ℕ × Position)) (e : g ≡ next_byte s p) (t : Bool) (f : is_some g ≡ not t) (x : List ℕ) (h : x ≡ []) where
  pub end_right : t ≡ same (stream s p) x
  unfolding same
  end_right = no_more g t f ∙ go g refl where
    go : (r : Option (ℕ × Position)) → g ≡ r → not (is_some r) ≡ same (stream s p) x
    go None q = rw (streamed_end s p g e q, h)
    go (Some (b, c)) q = rw (streamed_next s p g e b c q, h)

-- ---- keys
module _ (m h : ℕ) (x : List ℕ) where
  pub key_end : x ≡ [] → h ≡ key_from m h x
  unfolding key_from
  key_end e = rw e

  pub key_on : (b : ℕ) (y : List ℕ) → x ≡ b ∷ y → (k : ℕ) → k ≡ (h * m + b) % 4294967296 → key_from m k y ≡ key_from m h x
  unfolding key_from
  key_on b y e k f = rw (e, f)
