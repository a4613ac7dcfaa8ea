-- Document 01, "Where samples lie", refusals 15 to 17, and the rows and summary of a recording ("Rows, pieces, cuts"), over the
-- numbers that the metadata give and the length d of the dataset.
use Rattle.std.specs.Prelude.{ℕ, ◌+◌, ◌-◌, ◌*◌, ◌/◌, ◌%◌, ◌^◌, Bool, cond, not, ◌&&◌, ◌||◌, List, [], ◌∷◌, ◌++◌, map, length, leb, ltb, eqb}
use Rattle.limits.specs.Limits.{dataset, channels}
use Rattle.json_blocks.specs.TextBytes.{within}
use Rattle.refusals.specs.Refusals.{Rule, rule, lowest}
use Rattle.sigmf_datatypes.specs.Datatypes.{is_listed, width_of}
use Rattle.table.specs.declared.Capture.{Capture}
use Rattle.table.specs.declared.Annotation.{Annotation}
use Rattle.table.specs.declared.Summary.{Summary}
use Rattle.table.specs.Memory.{written}
use Rattle.table.specs.Rows.{capture_width, capture_numbers, annotation_width, annotation_numbers, flat}
use Rattle.table.specs.Samples.{header_sum, capture_rows, annotation_row, ascending, all_entries, all_notes}
use Rattle.table.specs.Table.{no_table}
use Rattle.table.specs.declared.Globals.{Globals}
use Rattle.table.specs.declared.CaptureEntry.{CaptureEntry}
use Rattle.table.specs.declared.AnnotationEntry.{AnnotationEntry}

-- what the metadata say of samples: the global object, each capture, each annotation
pub record Contents : Type 0 where
  pub globals : Globals
  pub captures : List CaptureEntry
  pub annotations : List AnnotationEntry

-- "W = component bytes × (2 if complex) × channels"
abbrev pub width_in : Globals → ℕ
width_in g = width_of g.datatype g.channels

-- "headers and trailer"
abbrev pub headers_and_trailer : Contents → ℕ
headers_and_trailer k = k.globals.trailing + header_sum k.captures

-- "N = (D − T − H) / W"
unfoldable pub samples_in : Contents → ℕ → ℕ
samples_in k d = (d - headers_and_trailer k) / width_in k.globals

-- O + N
abbrev pub end_index : Contents → ℕ → ℕ
end_index k d = k.globals.offset + samples_in k d

-- ---- 15: "captures or annotations not ascending by start"
unfoldable pub unordered : Contents → Bool
unordered k = not (ascending (map (λ c. c.start) k.captures) && ascending (map (λ a. a.start) k.annotations))

-- ---- 16: "headers and trailer exceed D, or the rest isn't whole samples"
unfoldable pub not_whole : Contents → ℕ → Bool
not_whole k d = ltb d (headers_and_trailer k) || not (eqb ((d - headers_and_trailer k) % width_in k.globals) 0)

-- ---- 17: "an index outside the dataset, or the end index above 2^64 − 1"
unfoldable pub index_outside : Contents → ℕ → Bool
index_outside k d =
    not (leb (end_index k d) (2 ^ 64 - 1)
    && all_entries k.globals.offset (end_index k d) k.captures && all_notes k.globals.offset (end_index k d) k.annotations)

-- ---- the rows
abbrev pub captures_in : Contents → ℕ → List Capture
captures_in k d = capture_rows k.globals.offset (width_in k.globals) (end_index k d) 0 k.captures

abbrev pub annotations_in : Contents → ℕ → List Annotation
annotations_in k d = map (annotation_row (end_index k d)) k.annotations

-- "Summary: refusal, datatype code, channels, W, O, T, N, D, both counts, place and length of sample_rate (0, 0 if absent)"
unfoldable pub summary_in : Contents → ℕ → Summary
summary_in k d = record {
  refusal = 0;
  datatype = k.globals.datatype;
  channels = k.globals.channels;
  width = width_in k.globals;
  offset = k.globals.offset;
  trailing = k.globals.trailing;
  samples = samples_in k d;
  size = d;
  captures = length k.captures;
  annotations = length k.annotations;
  rate = k.globals.rate;
}

-- ---- the answer
-- 1, 9 and 10, as far as they speak of these numbers
abbrev pub format_rules : Globals → ℕ → List Rule
format_rules g d = rule 1 (ltb dataset d) ∷ rule 9 (not (is_listed g.datatype)) ∷ rule 10 (not (within 1 channels g.channels)) ∷ []

-- 15 to 17, here and in the reader
abbrev pub sample_rules : Contents → ℕ → List Rule
sample_rules k d = rule 15 (unordered k) ∷ rule 16 (not_whole k d) ∷ rule 17 (index_outside k d) ∷ []

abbrev pub layout_rules : Contents → ℕ → List Rule
layout_rules k d = format_rules k.globals d ++ sample_rules k d

-- 20: "the answer needs more rows .. than the lent memory holds"
unfoldable pub too_many : Contents → List ℕ → List ℕ → Bool
too_many k caps notes =
    not (leb (capture_width * length k.captures) (length caps) && leb (annotation_width * length k.annotations) (length notes))

abbrev pub summary_or : ℕ → Contents → ℕ → Summary
summary_or n k d = cond (eqb n 0) (summary_in k d) (no_table n)

-- without rows
unfoldable pub judged_layout : Contents → ℕ → Summary
judged_layout k d = summary_or (lowest (layout_rules k d)) k d

-- with rows, into lent memory
unfoldable pub layout_refusal : Contents → ℕ → List ℕ → List ℕ → ℕ
layout_refusal k d caps notes = lowest (layout_rules k d ++ (rule 20 (too_many k caps notes) ∷ []))

unfoldable pub layout_answer : Contents → ℕ → List ℕ → List ℕ → Summary
layout_answer k d caps notes = summary_or (layout_refusal k d caps notes) k d

-- what the lent memory holds afterwards
unfoldable pub captures_after : Contents → ℕ → List ℕ → List ℕ → List ℕ
captures_after k d caps notes = cond (eqb (layout_refusal k d caps notes) 0) (written (flat capture_numbers (captures_in k d)) caps) caps

unfoldable pub annotations_after : Contents → ℕ → List ℕ → List ℕ → List ℕ
annotations_after k d caps notes = cond (eqb (layout_refusal k d caps notes) 0) (written (flat annotation_numbers (annotations_in k d)) notes) notes
