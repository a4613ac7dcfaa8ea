use Rattle.output.proofs.Writing.{Writes}
use Rattle.listing.specs.Lines.{annotation_line}
use Rattle.table.specs.Rows.{annotation_at, rest, flat}
use mathlib.Core.List.{[], ◌∷◌}
use Rattle.listing.proofs.write_annotations.Given as goal

abbrev pub invariant-loop-k : goal.invariant-loop-k
invariant-loop-k l = Writes (flat (annotation_line l.s) (rest (annotation_at l.notes) l.n 0)) l.initial.out l.out l.used (flat (annotation_line l.s) (rest (annotation_at l.notes) l.n l.k) ∷ [])
