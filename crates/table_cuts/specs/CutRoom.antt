-- For the code: memory with room for the rows that a cut keeps.
use Rattle.std.specs.Prelude.{ℕ, ◌*◌, ◌≤◌, List, length}
use Rattle.table.specs.declared.Capture.{Capture}
use Rattle.table.specs.declared.Annotation.{Annotation}
use Rattle.table.specs.Rows.{capture_width, annotation_width}
use Rattle.table_cuts.specs.Cut.{cut_captures, cut_annotations}

abbrev pub CutFits : ℕ → ℕ → ℕ → List Capture → List Annotation → List ℕ → List ℕ → Type 0
CutFits a b w cs ns m k = (capture_width * length (cut_captures a b w cs) ≤ length m) × (annotation_width * length (cut_annotations a b ns) ≤ length k)
