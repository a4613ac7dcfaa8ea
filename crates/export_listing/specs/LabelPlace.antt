-- A label as C gets it: the number of refusal, 1 if there is a label and 0 if not, and its place and length in the metadata.
use Rattle.std.specs.Prelude.{ℕ, List, length}
use Rattle.table.specs.declared.Place.{Place}
use Rattle.table.specs.Rows.{annotation_at, Table}
use Rattle.listing_labels.specs.Label.{Found, label_from, label_answer}
use Rattle.export_listing.specs.declared.Labelled.{Labelled}

-- the label of a row with a place
abbrev pub labelled_at : Found → Place → Labelled
labelled_at f p = record {
  refusal = f.refusal;
  present = f.present;
  label = record { at = label_from f p.at; len = length f.label };
}

unfoldable pub labelled : Table → List ℕ → ℕ → Labelled
labelled t s n = labelled_at (label_answer t s n) (annotation_at t.annotations n).texts.label
