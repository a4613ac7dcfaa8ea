use lib.ListN.{length}
use mathlib.Core.Path.{◌≡◌}
use Rattle.table.specs.Rows.{annotation_at, rest, flat}
use Rattle.output.specs.Left.{left_after}
use Rattle.listing.specs.Lines.{annotation_line}
use Rattle.listing.proofs.annotations_left.Given as goal

abbrev pub invariant-loop-k : goal.invariant-loop-k
invariant-loop-k l = left_after l.left (length (flat (annotation_line l.s) (rest (annotation_at l.notes) l.n l.k))) ≡ left_after l.room (length (flat (annotation_line l.s) (rest (annotation_at l.notes) l.n 0)))
