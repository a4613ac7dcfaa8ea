-- The lists of specs/Names.antt; steps of the definitions there, on plain variables.
use mathlib.Core.Path.{◌≡◌, refl, sym, ap, ◌∙◌}
use mathlib.Core.Bool.{Bool, true, false, cond, ◌&&◌, ◌||◌, and-true, and_assoc, false≢true}
use mathlib.Core.List.{List, [], ◌∷◌}
use Prim.Native.Nat.{ℕ, zero, suc, ◌≤◌, ◌<◌, ◌+◌}
use native.Mathlib.Omega.{arith}
use native.Mathlib.Numerals.{add-one}
use lib.ListN.{length, get_or, drop, get_or-eq_default, drop_of_length-le}
use lib.Seq.{drop-cons}
use lib.Dec.{eqb, ltb, leb}
use borrow.Author.Tests.{ne_eqb, eqb-false, lt-leb, ltb-true, ltb-false}
use Rattle.json_blocks.specs.TextBytes.{within}
use Rattle.json_blocks.specs.Lists.{all}
use Rattle.json_blocks.proofs.BlockLaws.{and_left, and_right}
use Rattle.json_names.specs.Same.{same}
use Rattle.json_names.proofs.SameLaws.{same_is, same_ne}
use Rattle.sigmf_datatypes.proofs.Laws.{all_at_lem}
use Rattle.sigmf_texts.specs.Lookup.{index_in}
use Rattle.sigmf_texts.specs.Form.{name_byte, namespace_byte, namespace_of, after_colon, form_ok}
use Rattle.sigmf_texts.proofs.LookupLaws.{index_same}
use Rattle.sigmf_names.specs.declared.Object.{Object}
use Rattle.sigmf_names.specs.declared.Object.TheVariants as O
use Rattle.sigmf_values.specs.declared.FieldType.{FieldType}
use Rattle.sigmf_values.specs.declared.FieldType.TheVariants as T
use Rattle.sigmf_names.specs.declared.NameLookup.{NameLookup}
use Rattle.sigmf_names.specs.Lookup.{names_of_length, lookup_in}
use Rattle.sigmf_names.specs.LookupCode.{one_more}
use Rattle.sigmf_names.specs.Names.{Core, global_fields, capture_fields, annotation_fields, core_of, other_field, core_name, core_at, type_at}

-- ---- past the end of a list
pub type_over : (cs : List Core) (i : ℕ) → length cs ≤ i → T.Any ≡ type_at cs i
unfolding type_at core_at
type_over cs i h = ap (λ (c : Core). c.type) (sym (get_or-eq_default cs other_field h))

-- ---- n fields of a list, from the a-th on, have one type
unfoldable pub Typed : FieldType → ℕ → ℕ → List Core → Type 0
Typed t a zero cs = Unit {0}
Typed t a (suc n) [] = ⊥
Typed t (suc a) (suc n) (c ∷ cs) = Typed t a (suc n) cs
Typed t zero (suc n) (c ∷ cs) = (t ≡ c.type) × Typed t zero n cs

pub typed : (t : FieldType) (a n : ℕ) (cs : List Core) (i : ℕ) → Typed t a n cs → a ≤ i → i < a + n → t ≡ type_at cs i
unfolding Typed type_at core_at
typed t a zero cs i h l m = absurd (omega arith)
typed t a (suc n) [] i h l m = absurd h
typed t (suc a) (suc n) (c ∷ cs) (suc i) h l m = typed t a (suc n) cs i h (omega arith) (omega arith)
typed t (suc a) (suc n) (c ∷ cs) zero h l m = absurd (omega arith)
typed t zero (suc n) (c ∷ cs) zero h l m = h.0
typed t zero (suc n) (c ∷ cs) (suc i) h l m = typed t zero n cs i h.1 (omega arith) (omega arith)

-- the last n fields, from the a-th on, and what is past the end
pub type_rest : (cs : List Core) (a n i : ℕ) → Typed T.Any a n cs → length cs ≤ a + n → a ≤ i → T.Any ≡ type_at cs i
type_rest cs a n i t e l = go (ltb i (a + n)) refl where
  go : (b : Bool) → ltb i (a + n) ≡ b → T.Any ≡ type_at cs i
  go true q = typed T.Any a n cs i t l (ltb-true _ _ q)
  go false q = type_over cs i (omega (arith, ltb-false _ _ q))

-- ---- a test that every name of a list passes is passed by every known name
known : (f : List ℕ → Bool) (cs : List Core) (d : List ℕ) → all (λ (c : Core). f (core_name c)) cs ≡ true → index_in core_name cs d < length cs → f d ≡ true
known f cs d e h =
    ap f (same_is d _ (index_same core_name other_field cs d h)) ∙ all_at_lem (λ (c : Core). f (core_name c)) cs (index_in core_name cs d) other_field e h

-- every known name has the form of a field name
pub known_formed : (kind : Object) (d : List ℕ) → index_in core_name (core_of kind) d < length (core_of kind) → form_ok d ≡ true
unfolding global_fields capture_fields annotation_fields all form_ok name_byte namespace_byte namespace_of after_colon within
known_formed O.Global d h = known form_ok global_fields d refl h
known_formed O.Capture d h = known form_ok capture_fields d refl h
known_formed O.Annotation d h = known form_ok annotation_fields d refl h

-- ---- texts of two lengths are apart
length_apart : (a b : List ℕ) → (length a ≡ length b → ⊥) → false ≡ same a b
length_apart a b f = sym (same_ne a b (λ e. f (ap length e)))

-- ---- looking a name d up among the names that have its length n: the place in the list, from k on
unfoldable pub place_from : ℕ → ℕ → List Core → List ℕ → ℕ
place_from k n [] d = k
place_from k n (c ∷ cs) d = cond (eqb (length (core_name c)) n) (cond (same d (core_name c)) k (place_from (suc k) n cs d)) (place_from (suc k) n cs d)

place_is : (k : ℕ) (cs : List Core) (d : List ℕ) → place_from k (length d) cs d ≡ k + index_in core_name cs d
unfolding place_from index_in
place_is k [] d = omega arith
place_is k (c ∷ cs) d = go (eqb (length (core_name c)) (length d)) refl (place_is (suc k) cs d) where
  same_go : (t : Bool) → place_from (suc k) (length d) cs d ≡ suc k + index_in core_name cs d
      → cond t k (place_from (suc k) (length d) cs d) ≡ k + cond t 0 (suc (index_in core_name cs d))
  same_go true e = omega arith
  same_go false e = omega (arith, e)

  go : (t : Bool) → eqb (length (core_name c)) (length d) ≡ t → place_from (suc k) (length d) cs d ≡ suc k + index_in core_name cs d
      → cond t (cond (same d (core_name c)) k (place_from (suc k) (length d) cs d)) (place_from (suc k) (length d) cs d)
      ≡ k + cond (same d (core_name c)) 0 (suc (index_in core_name cs d))
  go true q e = same_go (same d (core_name c)) e
  go false q e =
      rw (sym (length_apart d (core_name c) (λ l. eqb-false _ _ q (sym l)))) (omega (arith, e))

-- so that only the names of length n are asked
pub by_length : (cs : List Core) (n : ℕ) (d : List ℕ) → n ≡ length d
    → ◌≡◌ {A = NameLookup} (record { number = place_from 0 n cs d; compared = names_of_length cs n }) (lookup_in cs d)
by_length cs n d e = let p : place_from 0 (length d) cs d ≡ index_in core_name cs d = omega (arith, place_is 0 cs d) in rw (e, p)

-- one name after another
pub then : (b : Bool) (i : ℕ) {r x y : NameLookup} → r ≡ one_more b i x → x ≡ y → r ≡ one_more b i y
then b i e f = e ∙ ap (one_more b i) f

-- ---- a name whose length is none of the names'
-- a test of lengths that every name of a list passes, and d does not
module _ (f : ℕ → Bool) (d : List ℕ) (h : f (length d) ≡ false) where
  other_length : (c : Core) → f (length (core_name c)) ≡ true → length (core_name c) ≡ length d → ⊥
  other_length c e q = false≢true (sym h ∙ ap f (sym q) ∙ e)

  apart_from : (cs : List Core) → all (λ (c : Core). f (length (core_name c))) cs ≡ true
      → (index_in core_name cs d ≡ length cs) × (names_of_length cs (length d) ≡ 0)
  unfolding all index_in names_of_length
  apart_from [] e = (refl, refl)
  apart_from (c ∷ cs) e =
      let a = other_length c (and_left _ _ e) in
      let r = apart_from cs (and_right (f (length (core_name c))) _ e) in
      (rw (sym (length_apart d (core_name c) (λ q. a (sym q)))) (ap suc r.0), rw (ne_eqb _ _ a) r.1)

  none_of_length : (cs : List Core) → all (λ (c : Core). f (length (core_name c))) cs ≡ true
      → ◌≡◌ {A = NameLookup} (record { number = length cs; compared = 0 }) (lookup_in cs d)
  none_of_length cs e = let r = apart_from cs e in rw (r.0, r.1)

-- n is one of some numbers; n is none of them, as a match says it
unfoldable pub one_of : List ℕ → ℕ → Bool
one_of [] n = false
one_of (l ∷ ls) n = eqb n l || one_of ls n

unfoldable pub NoneOf : List ℕ → ℕ → Type 0
NoneOf [] n = Unit {0}
NoneOf (l ∷ ls) n = NoneOf ls n × (n ≡ l → ⊥)

none_of : (ls : List ℕ) (n : ℕ) → NoneOf ls n → one_of ls n ≡ false
unfolding one_of NoneOf
none_of [] n h = refl
none_of (l ∷ ls) n h = rw (ne_eqb n l h.1) (none_of ls n h.0)

pub none_compared : (cs : List Core) (ls : List ℕ) (d : List ℕ) → all (λ (c : Core). one_of ls (length (core_name c))) cs ≡ true → NoneOf ls (length d)
    → ◌≡◌ {A = NameLookup} (record { number = length cs; compared = 0 }) (lookup_in cs d)
none_compared cs ls d e h = none_of_length (one_of ls) d (none_of ls (length d) h) cs e

-- no core name has more than 20 bytes
pub none_longer : (kind : Object) (d : List ℕ) → 20 < length d
    → ◌≡◌ {A = NameLookup} (record { number = length (core_of kind); compared = 0 }) (lookup_in (core_of kind) d)
unfolding global_fields capture_fields annotation_fields all
none_longer O.Global d h = none_of_length (λ n. leb n 20) d (lt-leb _ _ h) global_fields refl
none_longer O.Capture d h = none_of_length (λ n. leb n 20) d (lt-leb _ _ h) capture_fields refl
none_longer O.Annotation d h = none_of_length (λ n. leb n 20) d (lt-leb _ _ h) annotation_fields refl

-- ---- two texts of one length, from i on; t says that they are equal up to there
module _ (a b : List ℕ) (i : ℕ) (t : Bool) where
  pub equal_end : length a ≡ length b → length b ≤ i → t ≡ (t && same (drop i a) (drop i b))
  unfolding same
  equal_end e h =
      let k : length a ≤ i = omega arith in
      rw (drop_of_length-le a k, drop_of_length-le b h) (sym (and-true t))

  pub equal_on : length a ≡ length b → i < length b
      → ((t && eqb (get_or a i 0) (get_or b i 0)) && same (drop (i + 1) a) (drop (i + 1) b)) ≡ (t && same (drop i a) (drop i b))
  unfolding same
  equal_on e h =
      let k : i < length a = omega arith in
      rw (add-one i, drop-cons a i 0 k, drop-cons b i 0 h)
      (and_assoc t (eqb (get_or a i 0) (get_or b i 0)) (same (drop (suc i) a) (drop (suc i) b)))
