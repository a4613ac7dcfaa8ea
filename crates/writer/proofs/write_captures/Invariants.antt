use Rattle.output.proofs.Writing.{Writes}
use Rattle.table.specs.Rows.{capture_at, rest, flat}
use Rattle.writer.specs.TextParts.{item}
use Rattle.writer.specs.Metadata.{capture_text}
use mathlib.Core.List.{[], ◌∷◌}
use Rattle.writer.proofs.write_captures.Given as goal

abbrev pub invariant-loop-k : goal.invariant-loop-k
invariant-loop-k l = Writes (flat (λ l. l) (rest (item capture_text (capture_at l.caps)) l.n 0)) l.initial.out l.out l.used (flat (λ l. l) (rest (item capture_text (capture_at l.caps)) l.n l.k) ∷ [])
