use Rattle.table.specs.Rows.{capture_at}
use Rattle.table_cuts.specs.Cut.{shares_capture}
use Rattle.table_cuts.proofs.KeepLaws.{Counting}
use Rattle.table_cuts.proofs.count_captures.Given as goal

abbrev pub invariant-loop-k : goal.invariant-loop-k
invariant-loop-k l = Counting (capture_at l.caps) (shares_capture l.a l.b) l.n l.c l.k
