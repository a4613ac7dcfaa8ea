-- What captures and annotations say, kept in flat memory: as the reader hands it to `lay`, and as contracts of layout have it.
use Rattle.std.specs.Prelude.{ℕ, cond, List, [], ◌∷◌, get_or, eqb, None, Option, Some}
use Rattle.table.specs.Memory.{row}
use Rattle.table.specs.Rows.{rest}
use Rattle.reader_layout.specs.Layout.{Contents}
use Rattle.table.specs.declared.Globals.{Globals}
use Rattle.table.specs.declared.CaptureEntry.{CaptureEntry}
use Rattle.table.specs.declared.AnnotationEntry.{AnnotationEntry}

abbrev pub entry_width : ℕ
entry_width = 2

abbrev pub entry_numbers : CaptureEntry → List ℕ
entry_numbers e = e.start ∷ e.header ∷ []

abbrev pub capture_entry_of : List ℕ → CaptureEntry
capture_entry_of l = record { start = get_or l 0 0; header = get_or l 1 0 }

unfoldable pub entry_at : List ℕ → ℕ → CaptureEntry
entry_at m i = capture_entry_of (row entry_width m i)

-- whether a count is given, and the count
abbrev pub count_given : Option ℕ → ℕ
count_given (Some n) = 1
count_given None = 0

abbrev pub count_number : Option ℕ → ℕ
count_number (Some n) = n
count_number None = 0

unfoldable pub stored_count : ℕ → ℕ → Option ℕ
stored_count given n = cond (eqb given 0) None (Some n)

abbrev pub note_width : ℕ
note_width = 5

abbrev pub note_numbers : AnnotationEntry → List ℕ
note_numbers e = e.start ∷ count_given e.count ∷ count_number e.count ∷ e.texts.label.at ∷ e.texts.label.len ∷ []

abbrev pub note_of : List ℕ → AnnotationEntry
note_of l = record { start = get_or l 0 0; count = stored_count (get_or l 1 0) (get_or l 2 0); texts = record { label = record { at = get_or l 3 0; len = get_or l 4 0 } } }

unfoldable pub note_at : List ℕ → ℕ → AnnotationEntry
note_at m i = note_of (row note_width m i)

-- the first n entries of a memory
abbrev pub capture_entries : List ℕ → ℕ → List CaptureEntry
capture_entries m n = rest (entry_at m) n 0

abbrev pub annotation_entries : List ℕ → ℕ → List AnnotationEntry
annotation_entries m n = rest (note_at m) n 0

-- the contents that the first n entries of one memory and the first m of another make
abbrev pub stored_contents : Globals → List ℕ → ℕ → List ℕ → ℕ → Contents
stored_contents g caps n anns m = record { globals = g; captures = capture_entries caps n; annotations = annotation_entries anns m }
