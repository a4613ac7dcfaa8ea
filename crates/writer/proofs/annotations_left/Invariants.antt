use lib.ListN.{length}
use mathlib.Core.Path.{◌≡◌}
use Rattle.table.specs.Rows.{annotation_at, rest, flat}
use Rattle.writer.specs.TextParts.{item}
use Rattle.writer.specs.Metadata.{annotation_text}
use Rattle.output.specs.Left.{left_after}
use Rattle.writer.proofs.annotations_left.Given as goal

abbrev pub invariant-loop-k : goal.invariant-loop-k
invariant-loop-k l = left_after l.left (length (flat (λ l. l) (rest (item (annotation_text l.s) (annotation_at l.notes)) l.n l.k))) ≡ left_after l.room (length (flat (λ l. l) (rest (item (annotation_text l.s) (annotation_at l.notes)) l.n 0)))
