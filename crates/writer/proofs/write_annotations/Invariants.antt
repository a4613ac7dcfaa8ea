use Rattle.output.proofs.Writing.{Writes}
use Rattle.table.specs.Rows.{annotation_at, rest, flat}
use Rattle.writer.specs.TextParts.{item}
use Rattle.writer.specs.Metadata.{annotation_text}
use mathlib.Core.List.{[], ◌∷◌}
use Rattle.writer.proofs.write_annotations.Given as goal

abbrev pub invariant-loop-k : goal.invariant-loop-k
invariant-loop-k l = Writes (flat (λ l. l) (rest (item (annotation_text l.s) (annotation_at l.notes)) l.n 0)) l.initial.out l.out l.used (flat (λ l. l) (rest (item (annotation_text l.s) (annotation_at l.notes)) l.n l.k) ∷ [])
