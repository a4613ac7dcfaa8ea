use lib.ListN.{length}
use Rattle.output.proofs.Writing.{Writes}
use Rattle.listing_text.specs.Shown.{shown_byte}
use Rattle.table.specs.Rows.{flat}
use Rattle.json_strings.specs.Decode.{decoded_from}
use Rattle.json_strings.specs.Stream.{stream}
use mathlib.Core.List.{[], ◌∷◌}
use Rattle.listing_text.proofs.put_shown.Given as goal

abbrev pub invariant-loop-b : goal.invariant-loop-b
invariant-loop-b l = Writes (flat shown_byte (decoded_from l.raw 0)) l.initial.out l.out l.n (flat shown_byte (stream l.raw l.p) ∷ [])

abbrev pub decreases-loop-b : goal.decreases-loop-b
decreases-loop-b l = length (stream l.raw l.p)
