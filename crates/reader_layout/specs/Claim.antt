-- What the theorem on layouts says.
use Rattle.std.specs.Prelude.{ℕ, ◌≡◌, Bool, true, ◌&&◌, List, [], ◌∷◌}
use Rattle.table.specs.Rows.{Table, table, captures_of, annotations_of}
use Rattle.table.specs.Place.{ends_within}
use Rattle.table.specs.Table.{texts_ok, well_formed}
use Rattle.table.specs.declared.AnnotationEntry.{AnnotationEntry}
use Rattle.reader_layout.specs.Layout.{Contents, captures_in, annotations_in, summary_in, layout_answer, captures_after, annotations_after}

-- "text places end within 61,440": those of labels, and that of the sample rate
unfoldable pub entry_texts_ok : List AnnotationEntry → Bool
entry_texts_ok [] = true
entry_texts_ok (a ∷ t) = texts_ok a.texts && entry_texts_ok t

unfoldable pub places_ok : Contents → Bool
places_ok k = ends_within k.globals.rate && entry_texts_ok k.annotations

-- the answer with both memories afterwards
abbrev pub table_after : Contents → ℕ → List ℕ → List ℕ → Table
table_after k d caps notes = table (layout_answer k d caps notes) (captures_after k d caps notes) (annotations_after k d caps notes)

-- the answer is the recording's summary; with the memory after it, it is a well-formed table, whose rows are the recording's
pub record LaidOut (k : Contents) (d : ℕ) (caps notes : List ℕ) : Type 0 where
  pub answer : layout_answer k d caps notes ≡ summary_in k d
  pub table : well_formed (table_after k d caps notes) ≡ true
  pub capture_rows : captures_of (table_after k d caps notes) ≡ captures_in k d
  pub annotation_rows : annotations_of (table_after k d caps notes) ≡ annotations_in k d
