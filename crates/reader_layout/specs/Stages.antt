-- For the code: how it divides the rules of a layout.
use Rattle.std.specs.Prelude.{ℕ, ◌+◌, ◌-◌, ◌*◌, ◌/◌, ◌%◌, ◌^◌, ◌≤◌, ◌<◌, ◌≡◌, Bool, true, cond, not, ◌&&◌, ◌||◌, List, map, length, leb, ltb, eqb, Option, Some, None}
use Rattle.table.specs.declared.Summary.{Summary}
use Rattle.table.specs.declared.Globals.{Globals}
use Rattle.table.specs.declared.CaptureEntry.{CaptureEntry}
use Rattle.table.specs.declared.AnnotationEntry.{AnnotationEntry}
use Rattle.table.specs.Memory.{written}
use Rattle.table.specs.Rows.{capture_width, capture_numbers, annotation_width, flat}
use Rattle.table.specs.Samples.{header_sum, capture_rows, all_entries, all_notes}

-- 15
abbrev pub capture_starts : List CaptureEntry → List ℕ
capture_starts cs = map (λ c. c.start) cs

abbrev pub note_starts : List AnnotationEntry → List ℕ
note_starts ns = map (λ a. a.start) ns

-- 16: the whole samples, if x of the d bytes are taken
abbrev pub whole_in : ℕ → ℕ → ℕ → Option ℕ
whole_in x w d = cond (ltb d x || not (eqb ((d - x) % w) 0)) None (Some ((d - x) / w))

-- 17: of n samples from o on
abbrev pub inside_ok : ℕ → ℕ → List CaptureEntry → List AnnotationEntry → Bool
inside_ok o n cs ns = leb (o + n) (2 ^ 64 - 1) && all_entries o (o + n) cs && all_notes o (o + n) ns

-- an accepted summary, of n samples of w bytes, with c captures and a annotations
abbrev pub accepted_summary : Globals → ℕ → ℕ → ℕ → ℕ → ℕ → Summary
accepted_summary g w n d c a = record {
  refusal = 0;
  datatype = g.datatype;
  channels = g.channels;
  width = w;
  offset = g.offset;
  trailing = g.trailing;
  samples = n;
  size = d;
  captures = c;
  annotations = a;
  rate = g.rate;
}

-- ---- rows into memory: what is asked of the entries and the memory, and what the memory holds afterwards
abbrev pub CapturesFit : Summary → List CaptureEntry → List ℕ → Type 0
CapturesFit t cs out =
    (t.offset + t.samples < 2 ^ 64)
    × (t.samples * t.width + header_sum cs < 2 ^ 63)
    × (all_entries t.offset (t.offset + t.samples) cs ≡ true)
    × (capture_width * t.captures ≤ length out)

abbrev pub captures_written : Summary → List CaptureEntry → List ℕ → List ℕ
captures_written t cs out = written (flat capture_numbers (capture_rows t.offset t.width (t.offset + t.samples) 0 cs)) out

abbrev pub AnnotationsFit : Summary → List AnnotationEntry → List ℕ → Type 0
AnnotationsFit t ns out =
    (t.offset + t.samples < 2 ^ 64) × (all_notes t.offset (t.offset + t.samples) ns ≡ true) × (annotation_width * t.annotations ≤ length out)
