use lib.ListN.{length}
use mathlib.Core.Path.{◌≡◌}
use Rattle.json_strings.specs.Stream.{stream}
use Rattle.table.specs.Rows.{flat}
use Rattle.output.specs.Left.{left_after}
use Rattle.listing_text.specs.Shown.{shown_byte, quoted}
use Rattle.listing_text.proofs.quoted_left.Given as goal

abbrev pub invariant-loop-b : goal.invariant-loop-b
invariant-loop-b l = left_after l.left (length (flat shown_byte (stream l.raw l.p))) ≡ left_after l.room (length (quoted l.raw))

abbrev pub decreases-loop-b : goal.decreases-loop-b
decreases-loop-b l = length (stream l.raw l.p)
