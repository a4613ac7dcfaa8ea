-- Document 01, "Rows, pieces, cuts": the label of annotation n; 18, 19.
use Rattle.std.specs.Prelude.{ℕ, Bool, true, ◌&&◌, cond, List, [], ◌∷◌, eqb, ltb}
use Rattle.table.specs.declared.Annotation.{Annotation}
use Rattle.table.specs.Rows.{annotation_at, Table}
use Rattle.table.specs.Table.{well_formed}
use Rattle.table.specs.Place.{absent}
use Rattle.listing_labels.specs.Text.{part, stands, text_good}

-- "18 unless each present label's place .."
abbrev pub label_ok : List ℕ → Annotation → Bool
label_ok s r = text_good s r.texts.label

unfoldable pub labels_ok : List ℕ → List Annotation → Bool
labels_ok s [] = true
labels_ok s (r ∷ t) = label_ok s r && labels_ok s t

-- the answer of a lookup: the refusal, 1 if there is a label and 0 if not, and the raw label
pub record Found : Type 0 where
  pub refusal : ℕ
  pub present : ℕ
  pub label : List ℕ

-- "A refusal gives that number, 0 in every other number of the answer and an empty part"
abbrev pub label_refused : ℕ → Found
label_refused n = record { refusal = n; present = 0; label = [] }

-- "An absent one is answered as absent with an empty part; an empty label is present"
abbrev pub no_label : Found
no_label = record { refusal = 0; present = 0; label = [] }

abbrev pub label_found : List ℕ → Found
label_found l = record { refusal = 0; present = 1; label = l }

-- where the part handed back begins in the metadata: at the label's place. Document 01 leaves free where the empty part of an absent
-- or refused one stands: at the front.
abbrev pub label_from : Found → ℕ → ℕ
label_from f at = cond (eqb f.present 1) at 0

-- the label of one annotation
unfoldable pub label_of : List ℕ → Annotation → Found
label_of s r =
    cond (absent r.texts.label) no_label
    (cond (stands s r.texts.label) (label_found (part s r.texts.label))
    (label_refused 18))

-- "an annotation number is outside the table": 19; "Annotations are numbered from 0"
unfoldable pub label_answer : Table → List ℕ → ℕ → Found
label_answer t s n =
    cond (well_formed t)
    (cond (ltb n t.summary.annotations)
    (label_of s (annotation_at t.annotations n))
    (label_refused 19))
    (label_refused 18)

-- where in the metadata the part handed back for annotation n begins
abbrev pub label_start : Table → List ℕ → ℕ → ℕ
label_start t s n = label_from (label_answer t s n) (annotation_at t.annotations n).texts.label.at
