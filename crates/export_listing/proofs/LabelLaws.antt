-- The answer of a label's lookup, as C gets it.
use mathlib.Core.Path.{◌≡◌, refl, sym, ap, ◌∙◌}
use mathlib.Core.Bool.{Bool, true, false, cond}
use mathlib.Core.List.{List, [], ◌∷◌}
use Prim.Native.Nat.{ℕ, zero, suc}
use native.Mathlib.Omega.{arith}
use lib.ListN.{length, take, drop}
use lib.Dec.{ltb}
use Rattle.table.specs.declared.Place.{Place}
use Rattle.table.specs.declared.Summary.{Summary}
use Rattle.table.specs.declared.Annotation.{Annotation}
use Rattle.table.specs.Rows.{annotation_at, table}
use Rattle.table.specs.Table.{well_formed}
use Rattle.table.specs.Place.{absent}
use Rattle.listing_labels.specs.Text.{part, stands}
use Rattle.listing_labels.specs.Label.{Found, no_label, label_refused, label_found, label_of, label_answer}
use Rattle.export_listing.specs.declared.Labelled.{Labelled}
use Rattle.export_listing.specs.LabelPlace.{labelled_at, labelled}

-- it has no label, or one and no refusal
data Told : Found → Type 0 where
  without : (n : ℕ) → Told (label_refused n)
  with : (l : List ℕ) → Told (label_found l)

pick : (P : Found → Type 0) (b : Bool) (x y : Found) → P x → P y → P (cond b x y)
pick P true x y p q = p
pick P false x y p q = q

told_of : (s : List ℕ) (r : Annotation) → Told (label_of s r)
unfolding label_of
told_of s r =
    pick Told (absent r.texts.label) no_label (cond (stands s r.texts.label) (label_found (part s r.texts.label)) (label_refused 18))
    (without 0)
    (pick Told (stands s r.texts.label) (label_found (part s r.texts.label)) (label_refused 18) (with (part s r.texts.label)) (without 18))

told : (t : Summary) (caps notes s : List ℕ) (n : ℕ) → Told (label_answer (table t caps notes) s n)
unfolding label_answer
told t caps notes s n =
    pick Told (well_formed (table t caps notes)) (cond (ltb n t.annotations) (label_of s (annotation_at notes n)) (label_refused 19)) (label_refused 18)
    (pick Told (ltb n t.annotations) (label_of s (annotation_at notes n)) (label_refused 19) (told_of s (annotation_at notes n)) (without 19))
    (without 18)

module _ (w : Place) (r p : ℕ) where
  placed_here : (l : List ℕ) (f : Found) → Told f → l ≡ f.label → r ≡ f.refusal → p ≡ f.present → p ≡ 1
      → record { refusal = r; present = 1; label = record { at = w.at; len = length l } } ≡ labelled_at f w
  placed_here l f (without n) el er ep e = absurd (omega (arith, ep, e))
  placed_here l f (with k) el er ep e = rw (el, er) refl

  placed_none : (f : Found) → Told f → r ≡ f.refusal → p ≡ f.present → (p ≡ 1 → ⊥) → record { refusal = r; present = 0; label = record { at = 0; len = 0 } } ≡ labelled_at f w
  placed_none f (without n) er ep e = rw er refl
  placed_none f (with k) er ep e = absurd (e ep)

module _ (t : Summary) (caps notes s : List ℕ) (n r p : ℕ) (er : r ≡ (label_answer (table t caps notes) s n).refusal) (ep : p ≡ (label_answer (table t caps notes) s n).present) where
  pub label_here : (l : List ℕ) → l ≡ (label_answer (table t caps notes) s n).label → p ≡ 1 → (x : Annotation) → x ≡ annotation_at notes n
      → record { refusal = r; present = 1; label = record { at = x.texts.label.at; len = length l } } ≡ labelled (table t caps notes) s n
  unfolding labelled
  label_here l el e x ex = rw ex (placed_here (annotation_at notes n).texts.label r p l (label_answer (table t caps notes) s n) (told t caps notes s n) el er ep e)

  pub label_none : (p ≡ 1 → ⊥) → record { refusal = r; present = 0; label = record { at = 0; len = 0 } } ≡ labelled (table t caps notes) s n
  unfolding labelled
  label_none e = placed_none (annotation_at notes n).texts.label r p (label_answer (table t caps notes) s n) (told t caps notes s n) er ep e

-- ---- the place and the length are those of the label
take_length : (n : ℕ) (l : List ℕ) → take (length (take n l)) l ≡ take n l
take_length zero l = refl
take_length (suc n) [] = refl
take_length (suc n) (b ∷ l) = ap (λ (m : List ℕ). b ∷ m) (take_length n l)

abbrev Stands : List ℕ → Place → Found → Type 0
Stands s p f = part s (labelled_at f p).label ≡ f.label

stands_of : (s : List ℕ) (r : Annotation) → Stands s r.texts.label (label_of s r)
unfolding label_of
stands_of s r =
    pick (Stands s r.texts.label) (absent r.texts.label) no_label (cond (stands s r.texts.label) (label_found (part s r.texts.label)) (label_refused 18))
    refl
    (pick (Stands s r.texts.label) (stands s r.texts.label) (label_found (part s r.texts.label)) (label_refused 18) (take_length r.texts.label.len (drop r.texts.label.at s)) refl)

-- for every table, metadata and number
pub labelled_part : (t : Summary) (caps notes s : List ℕ) (n : ℕ)
    → part s (labelled (table t caps notes) s n).label ≡ (label_answer (table t caps notes) s n).label
unfolding labelled label_answer
labelled_part t caps notes s n =
    pick (Stands s (annotation_at notes n).texts.label) (well_formed (table t caps notes)) (cond (ltb n t.annotations) (label_of s (annotation_at notes n)) (label_refused 19)) (label_refused 18)
    (pick (Stands s (annotation_at notes n).texts.label) (ltb n t.annotations) (label_of s (annotation_at notes n)) (label_refused 19) (stands_of s (annotation_at notes n)) refl)
    refl
