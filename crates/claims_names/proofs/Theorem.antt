-- specs/LookedUp.antt, shown.
use mathlib.Core.Path.{◌≡◌, refl, ap, subst, ◌∙◌}
use mathlib.Core.Bool.{Bool, true, false, ◌&&◌}
use mathlib.Core.List.{List, [], ◌∷◌, ◌++◌}
use Prim.Native.Nat.{ℕ, zero, suc, ◌<◌, ◌+◌}
use native.Mathlib.Omega.{arith}
use lib.ListN.{length, get_or}
use lib.Dec.{eqb, ltb}
use borrow.Author.Tests.{eqb-true, ltb-true, ltb-false}
use Rattle.json_blocks.proofs.BlockLaws.{and_left, and_right}
use Rattle.json_grammar.specs.Grammar.{CodeUnit, code_unit}
use Rattle.json_strings.specs.Meaning.{Meaning, plain, multibyte, short, unit, surrogates, Means, nothing, next}
use Rattle.json_strings.proofs.Theorem.{body_is_characters, means_decoded, body_means}
use Rattle.json_names.specs.Same.{same}
use Rattle.json_names.proofs.SameLaws.{same_is}
use Rattle.sigmf_texts.specs.Lookup.{index_in}
use Rattle.sigmf_texts.specs.Texts.{name_text}
use Rattle.sigmf_texts.proofs.LookupLaws.{index_most, index_same}
use Rattle.sigmf_names.specs.declared.Object.{Object}
use Rattle.sigmf_names.specs.declared.Object.TheVariants as O
use Rattle.sigmf_names.specs.Names.{Core, global_fields, capture_fields, annotation_fields, core_of, other_field, core_name, core_at}
use Rattle.sigmf_names.specs.Lookup.{lookup_in, lookup_answer}
use Rattle.claims_names.specs.LookedUp.{NoBackslash, Names, LookedUp, NamesLookedUp}

-- ---- a name without a backslash is its own decoded text
no_backslash_left : (c s : List ℕ) → NoBackslash (c ++ s) → NoBackslash c
unfolding NoBackslash
no_backslash_left [] s h = tt
no_backslash_left (b ∷ c) s h = (h.0, no_backslash_left c s h.1)

no_backslash_right : (c s : List ℕ) → NoBackslash (c ++ s) → NoBackslash s
unfolding NoBackslash
no_backslash_right [] s h = h
no_backslash_right (b ∷ c) s h = no_backslash_right c s h.1

code_unit_not : {u : List ℕ} {n : ℕ} → CodeUnit u n → NoBackslash u → ⊥
unfolding NoBackslash
code_unit_not (code_unit a b c d) h = h.0 refl

meaning_itself : {c t : List ℕ} → Meaning c t → NoBackslash c → t ≡ c
unfolding NoBackslash
meaning_itself (plain a f g) h = refl
meaning_itself (multibyte m) h = refl
meaning_itself (short l) h = absurd (h.0 refl)
meaning_itself (unit u s) h = absurd (code_unit_not u h)
meaning_itself (surrogates {u} {v} a b c d) h = absurd (code_unit_not a (no_backslash_left u v h))

pub means_itself : {s t : List ℕ} → Means s t → NoBackslash s → t ≡ s
means_itself nothing h = refl
means_itself (next {c} {t} {cs} {ts} m r) h =
    ap (λ (x : List ℕ). x ++ ts) (meaning_itself m (no_backslash_left c cs h))
    ∙ ap (λ (x : List ℕ). c ++ x) (means_itself r (no_backslash_right c cs h))

-- ---- no two fields of a kind have one name: the place of field i's name is i
-- f gives the rows their numbers, from k on
unfoldable numbered : {A : Type 0} → (A → ℕ) → ℕ → List A → Bool
numbered f k [] = true
numbered f k (x ∷ xs) = eqb (f x) k && numbered f (suc k) xs

number_at : {A : Type 0} (f : A → ℕ) (k : ℕ) (xs : List A) (i : ℕ) (z : A) → numbered f k xs ≡ true → i < length xs
    → f (get_or xs i z) ≡ k + i
unfolding numbered
number_at f k [] i z e h = absurd (omega arith)
number_at f k (x ∷ xs) zero z e h = let p : f x ≡ k = eqb-true _ _ (and_left (eqb (f x) k) _ e) in omega arith
number_at f k (x ∷ xs) (suc i) z e h = let p = number_at f (suc k) xs i z (and_right (eqb (f x) k) _ e) (omega arith) in omega arith

own : (cs : List Core) (i : ℕ) → numbered (λ (c : Core). index_in core_name cs (core_name c)) 0 cs ≡ true → i < length cs
    → index_in core_name cs (core_name (core_at cs i)) ≡ i
unfolding core_at
own cs i e h = let p = number_at (λ (c : Core). index_in core_name cs (core_name c)) 0 cs i other_field e h in omega arith

own_place : (kind : Object) (i : ℕ) → i < length (core_of kind) → index_in core_name (core_of kind) (core_name (core_at (core_of kind) i)) ≡ i
unfolding global_fields capture_fields annotation_fields numbered index_in same
own_place O.Global i h = own global_fields i refl h
own_place O.Capture i h = own capture_fields i refl h
own_place O.Annotation i h = own annotation_fields i refl h

-- ---- a text that is no field's name has no place
no_place : (kind : Object) (d : List ℕ) → ((i : ℕ) → Names kind i d → ⊥) → index_in core_name (core_of kind) d ≡ length (core_of kind)
unfolding core_at
no_place kind d f = go (ltb (index_in core_name cs d) (length cs)) refl where
  cs : List Core
  cs = core_of kind

  go : (t : Bool) → ltb (index_in core_name cs d) (length cs) ≡ t → index_in core_name cs d ≡ length cs
  go true e =
      let l = ltb-true _ _ e in
      absurd (f (index_in core_name cs d) (l, same_is d _ (index_same core_name other_field cs d l)))
  go false e = let l = ltb-false (index_in core_name cs d) (length cs) e in omega (arith, index_most core_name cs d)

-- ---- by the text that the name means
by_text : (kind : Object) (raw : List ℕ) → Means raw (name_text raw) → LookedUp kind raw (name_text raw) (lookup_answer kind raw)
by_text kind raw m = record {
  known = λ i n. ap (index_in core_name (core_of kind)) n.1 ∙ own_place kind i n.0;
  unknown = no_place kind (name_text raw);
  compared = refl;
  itself = means_itself m;
  alike = λ h. ap (lookup_in (core_of kind)) (means_itself m h);
}

pub looked_up : NamesLookedUp
looked_up kind raw p =
    let m = body_means raw ((body_is_characters raw).1 p) in
    (m, λ d n. subst (λ (x : List ℕ). LookedUp kind raw x (lookup_answer kind raw)) (means_decoded n) (by_text kind raw m))
