use mathlib.Core.Path.{◌≡◌}
use Rattle.table.specs.Rows.{annotation_at, rest, annotations}
use Rattle.table.specs.Judge.{annotations_ok}
use Rattle.table.proofs.rows.annotations_ok.Given as goal

abbrev pub invariant-loop-i : goal.invariant-loop-i
invariant-loop-i g l = let numbers = g.N.Numbers.numbers l.notes in annotations_ok l.e l.s (rest (annotation_at numbers) l.n l.i) ≡ annotations_ok l.e l.o (annotations numbers l.n)
