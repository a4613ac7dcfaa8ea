-- Document 01, "Rows, pieces, cuts": "A table is well formed if ..", with the rules of rows from "Where samples lie".
use Rattle.std.specs.Prelude.{ℕ, ◌+◌, ◌-◌, ◌*◌, ◌^◌, Bool, true, false, ◌&&◌, List, [], ◌∷◌, map, length, leb, eqb, Some}
use Rattle.limits.specs.Limits.{dataset, channels}
use Rattle.sigmf_datatypes.specs.Datatypes.{is_listed, width_of}
use Rattle.table.specs.declared.Capture.{Capture}
use Rattle.table.specs.declared.Texts.{Texts}
use Rattle.table.specs.declared.Annotation.{Annotation}
use Rattle.table.specs.declared.Summary.{Summary}
use Rattle.table.specs.declared.CaptureEntry.{CaptureEntry}
use Rattle.table.specs.declared.AnnotationEntry.{AnnotationEntry}
use Rattle.table.specs.Rows.{capture_width, annotation_width, Table, captures_of, annotations_of}
use Rattle.table.specs.Samples.{header_sum, capture_rows, annotation_row, ascending, all_entries, all_notes}
use Rattle.table.specs.Place.{nowhere, ends_within}

-- ---- rows by themselves
-- what a row says of its own start and header, or start and count
abbrev pub own_entry : Capture → CaptureEntry
own_entry r = record { start = r.start; header = r.header }

abbrev pub own_entries : List Capture → List CaptureEntry
own_entries rs = map own_entry rs

abbrev pub own_note : Annotation → AnnotationEntry
own_note r = record { start = r.start; count = Some (r.end - r.start); texts = r.texts }

abbrev pub own_notes : List Annotation → List AnnotationEntry
own_notes rs = map own_note rs

-- start, header and texts are the row's own: its end, and a capture's first byte, are those of the row q
abbrev pub like_capture : Capture → Capture → Bool
like_capture r q = eqb r.end q.end && eqb r.first q.first

abbrev pub like_annotation : Annotation → Annotation → Bool
like_annotation r q = eqb r.end q.end

unfoldable pub all_like : {A : Type 0} → (A → A → Bool) → List A → List A → Bool
all_like f [] [] = true
all_like f [] (q ∷ u) = false
all_like f (r ∷ t) [] = false
all_like f (r ∷ t) (q ∷ u) = f r q && all_like f t u

-- captures of a recording from o to e: in order, inside, and their rows are those that their own starts and headers give
unfoldable pub captures_obey : ℕ → ℕ → ℕ → List Capture → Bool
captures_obey o e w rs =
    ascending (map (λ r. r.start) rs) && all_entries o e (own_entries rs) && all_like like_capture rs (capture_rows o w e 0 (own_entries rs))

-- annotations: the same, of their own starts and counts
unfoldable pub annotations_obey : ℕ → ℕ → List Annotation → Bool
annotations_obey o e rs =
    ascending (map (λ r. r.start) rs) && all_notes o e (own_notes rs) && all_like like_annotation rs (map (annotation_row e) (own_notes rs))

-- the texts of an annotation: "text places end within 61,440"
unfoldable pub texts_ok : Texts → Bool
texts_ok x = ends_within x.label

unfoldable pub all_texts : List Annotation → Bool
all_texts [] = true
all_texts (r ∷ t) = texts_ok r.texts && all_texts t

-- ---- the table, clause by clause
-- "its code is a listed one, channels are 1 to 1,024 and W follows from both"
unfoldable pub format_ok : Summary → Bool
format_ok t = is_listed t.datatype && (leb 1 t.channels && leb t.channels channels) && eqb t.width (width_of t.datatype t.channels)

-- "its counts fit the lent rows"
unfoldable pub counts_ok : Table → Bool
counts_ok t = leb (capture_width * t.summary.captures) (length t.captures) && leb (annotation_width * t.summary.annotations) (length t.annotations)

-- "T + H + N·W = D ≤ 2^48, O + N ≤ 2^64 − 1"
unfoldable pub sizes_ok : Table → Bool
sizes_ok t =
    eqb (t.summary.trailing + header_sum (own_entries (captures_of t)) + t.summary.samples * t.summary.width) t.summary.size
    && leb t.summary.size dataset && leb (t.summary.offset + t.summary.samples) (2 ^ 64 - 1)

-- "rows obey the rules above, and text places end within 61,440"
unfoldable pub rows_ok : Table → Bool
rows_ok t =
    captures_obey t.summary.offset (t.summary.offset + t.summary.samples) t.summary.width (captures_of t)
    && annotations_obey t.summary.offset (t.summary.offset + t.summary.samples) (annotations_of t)
    && (all_texts (annotations_of t) && ends_within t.summary.rate)

-- "A table is well formed if it says acceptance, its code is a listed one, channels are 1 to 1,024 and W follows from both, its counts
-- fit the lent rows, T + H + N·W = D ≤ 2^48, O + N ≤ 2^64 − 1, rows obey the rules above, and text places end within 61,440"
unfoldable pub well_formed : Table → Bool
well_formed t = eqb t.summary.refusal 0 && format_ok t.summary && counts_ok t && sizes_ok t && rows_ok t

-- "A refusal gives that number, 0 in every other number of the answer"
abbrev pub no_table : ℕ → Summary
no_table n = record {
  refusal = n;
  datatype = 0;
  channels = 0;
  width = 0;
  offset = 0;
  trailing = 0;
  samples = 0;
  size = 0;
  captures = 0;
  annotations = 0;
  rate = nowhere;
}
