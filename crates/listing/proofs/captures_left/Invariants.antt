use lib.ListN.{length}
use mathlib.Core.Path.{◌≡◌}
use Rattle.output.specs.Left.{left_after}
use Rattle.listing.specs.Lines.{capture_line}
use Rattle.table.specs.Rows.{capture_at, rest, flat}
use Rattle.listing.proofs.captures_left.Given as goal

abbrev pub invariant-loop-k : goal.invariant-loop-k
invariant-loop-k l = left_after l.left (length (flat capture_line (rest (capture_at l.caps) l.n l.k))) ≡ left_after l.room (length (flat capture_line (rest (capture_at l.caps) l.n 0)))
