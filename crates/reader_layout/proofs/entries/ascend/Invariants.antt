use mathlib.Core.Path.{◌≡◌}
use mathlib.Core.List.{map}
use Rattle.table.specs.Rows.{rest}
use Rattle.table.specs.Samples.{ascending_from, ascending}
use Rattle.reader_layout.proofs.entries.ascend.Given as goal

abbrev pub invariant-loop-i : goal.invariant-loop-i
invariant-loop-i g l =
    let entries = g.E.Entry.at l.m in
    ascending_from l.s (map g.E.Entry.start (rest entries l.n l.i)) ≡ ascending (map g.E.Entry.start (rest entries l.n 0))
