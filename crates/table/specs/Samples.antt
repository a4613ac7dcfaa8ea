-- Document 01, "Where samples lie": the rows that starts, headers and counts give, and the place of a sample.
use Rattle.std.specs.Prelude.{ℕ, ◌+◌, ◌-◌, ◌*◌, Bool, true, cond, ◌&&◌, List, [], ◌∷◌, leb, None, Option, Some}
use Rattle.table.specs.declared.Capture.{Capture}
use Rattle.table.specs.declared.Annotation.{Annotation}
use Rattle.table.specs.declared.CaptureEntry.{CaptureEntry}
use Rattle.table.specs.declared.AnnotationEntry.{AnnotationEntry}

-- ---- captures, by their starts and headers
-- "H = sum of all header_bytes"
unfoldable pub header_sum : List CaptureEntry → ℕ
header_sum [] = 0
header_sum (c ∷ t) = c.header + header_sum t

-- "A capture ends where the next starts, the last at O + N"
unfoldable pub next_start : ℕ → List CaptureEntry → ℕ
next_start e [] = e
next_start e (c ∷ t) = c.start

-- "start, end, first byte, header bytes, where first byte counts the headers up to and including this capture's own"; h of them before
unfoldable pub capture_rows : ℕ → ℕ → ℕ → ℕ → List CaptureEntry → List Capture
capture_rows o w e h [] = []
capture_rows o w e h (c ∷ t) =
    record { start = c.start; end = next_start e t; first = (c.start - o) * w + (h + c.header); header = c.header } ∷ capture_rows o w e (h + c.header) t

-- ---- annotations, by their starts and counts
-- "An annotation without a count runs to the end of the dataset"
abbrev pub note_end : ℕ → ℕ → Option ℕ → ℕ
note_end e s (Some n) = s + n
note_end e s None = e

-- "start, end, place and length of the raw label between its quotes; 0, 0 if absent"
abbrev pub annotation_row : ℕ → AnnotationEntry → Annotation
annotation_row e a = record { start = a.start; end = note_end e a.start a.count; texts = a.texts }

-- ---- their order and range
-- "ascending by start"
unfoldable pub ascending_from : ℕ → List ℕ → Bool
ascending_from lo [] = true
ascending_from lo (x ∷ t) = leb lo x && ascending_from x t

abbrev pub ascending : List ℕ → Bool
ascending xs = ascending_from 0 xs

-- "Every start s has O ≤ s ≤ O + N"
abbrev pub start_ok : ℕ → ℕ → ℕ → Bool
start_ok o e s = leb o s && leb s e

-- "with one, start + count ≤ O + N"
abbrev pub note_ok : ℕ → ℕ → AnnotationEntry → Bool
note_ok o e a = start_ok o e a.start && leb (note_end e a.start a.count) e

unfoldable pub all_entries : ℕ → ℕ → List CaptureEntry → Bool
all_entries o e [] = true
all_entries o e (c ∷ t) = start_ok o e c.start && all_entries o e t

unfoldable pub all_notes : ℕ → ℕ → List AnnotationEntry → Bool
all_notes o e [] = true
all_notes o e (a ∷ t) = note_ok o e a && all_notes o e t

-- ---- samples
-- "the headers of all captures with start ≤ i"
unfoldable pub headers_to : List Capture → ℕ → ℕ
headers_to [] i = 0
headers_to (r ∷ t) i = cond (leb r.start i) r.header 0 + headers_to t i

-- "Sample i starts at byte (i − O)·W + the headers of all captures with start ≤ i"
unfoldable pub place : ℕ → ℕ → List Capture → ℕ → ℕ
place o w rs i = (i - o) * w + headers_to rs i
