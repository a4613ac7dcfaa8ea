-- Document 01, "Rows, pieces, cuts": the rows of a table, read off flat memory.
use Rattle.std.specs.Prelude.{ℕ, zero, suc, ◌-◌, List, [], ◌∷◌, ◌++◌, get_or}
use Rattle.table.specs.declared.Capture.{Capture}
use Rattle.table.specs.declared.Annotation.{Annotation}
use Rattle.table.specs.declared.Summary.{Summary}
use Rattle.table.specs.Memory.{row}

-- "Capture row, four u64: start, end, first byte, header bytes"
abbrev pub capture_width : ℕ
capture_width = 4

abbrev pub capture_numbers : Capture → List ℕ
capture_numbers r = r.start ∷ r.end ∷ r.first ∷ r.header ∷ []

abbrev pub capture_of : List ℕ → Capture
capture_of l = record { start = get_or l 0 0; end = get_or l 1 0; first = get_or l 2 0; header = get_or l 3 0 }

unfoldable pub capture_at : List ℕ → ℕ → Capture
capture_at m i = capture_of (row capture_width m i)

-- "Annotation row, four u64: start, end, place and length of the raw label between its quotes; 0, 0 if absent"
abbrev pub annotation_width : ℕ
annotation_width = 4

abbrev pub annotation_numbers : Annotation → List ℕ
annotation_numbers r = r.start ∷ r.end ∷ r.texts.label.at ∷ r.texts.label.len ∷ []

abbrev pub annotation_of : List ℕ → Annotation
annotation_of l = record { start = get_or l 0 0; end = get_or l 1 0; texts = record { label = record { at = get_or l 2 0; len = get_or l 3 0 } } }

unfoldable pub annotation_at : List ℕ → ℕ → Annotation
annotation_at m i = annotation_of (row annotation_width m i)

module _ {A : Type 0} where
  -- k rows from row i on
  unfoldable pub rows_from : (ℕ → A) → ℕ → ℕ → List A
  rows_from at zero i = []
  rows_from at (suc k) i = at i ∷ rows_from at k (suc i)

  -- what is left of n rows from row i on
  abbrev pub rest : (ℕ → A) → ℕ → ℕ → List A
  rest at n i = rows_from at (n - i) i

  -- rows as flat numbers, in file order
  unfoldable pub flat : (A → List ℕ) → List A → List ℕ
  flat f [] = []
  flat f (r ∷ t) = f r ++ flat f t

-- the first n capture rows of a memory, and the first n annotation rows
abbrev pub captures : List ℕ → ℕ → List Capture
captures m n = rest (capture_at m) n 0

abbrev pub annotations : List ℕ → ℕ → List Annotation
annotations m n = rest (annotation_at m) n 0

-- a table: the summary, and the lent memories with its capture rows and its annotation rows
pub record Table : Type 0 where
  pub summary : Summary
  pub captures : List ℕ
  pub annotations : List ℕ

abbrev pub table : Summary → List ℕ → List ℕ → Table
table t caps notes = record { summary = t; captures = caps; annotations = notes }

-- its rows: as many as its summary counts
abbrev pub captures_of : Table → List Capture
captures_of t = captures t.captures t.summary.captures

abbrev pub annotations_of : Table → List Annotation
annotations_of t = annotations t.annotations t.summary.annotations
