use Rattle.output.proofs.Writing.{Writes}
use Rattle.listing.specs.Lines.{capture_line}
use Rattle.table.specs.Rows.{capture_at, rest, flat}
use mathlib.Core.List.{[], ◌∷◌}
use Rattle.listing.proofs.write_captures.Given as goal

abbrev pub invariant-loop-k : goal.invariant-loop-k
invariant-loop-k l = Writes (flat capture_line (rest (capture_at l.caps) l.n 0)) l.initial.out l.out l.used (flat capture_line (rest (capture_at l.caps) l.n l.k) ∷ [])
