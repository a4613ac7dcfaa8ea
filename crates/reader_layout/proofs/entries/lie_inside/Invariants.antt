use mathlib.Core.Path.{◌≡◌}
use Rattle.std.specs.List.{list_all}
use Rattle.table.specs.Rows.{rest}
use Rattle.reader_layout.proofs.entries.lie_inside.Given as goal

abbrev pub invariant-loop-i : goal.invariant-loop-i
invariant-loop-i g l =
    let entries = g.E.Entry.at l.m in
    list_all (g.E.Entry.inside l.o l.e) (rest entries l.n l.i) ≡ list_all (g.E.Entry.inside l.o l.e) (rest entries l.n 0)
