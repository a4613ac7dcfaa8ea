use Prim.Native.Nat.{◌+◌}
use Rattle.table.specs.Rows.{capture_at, rest}
use Rattle.table.specs.Samples.{header_sum}
use Rattle.table_pieces.specs.Run.{run_from}
use Rattle.table_pieces.proofs.Walk.{Finding}
use Rattle.table.specs.Table.{own_entries}
use Rattle.table_pieces.proofs.next_run.Given as goal

abbrev pub invariant-loop-j : goal.invariant-loop-j
invariant-loop-j l = Finding l.caps l.n l.b l.i l.k l.j l.g (l.h + header_sum (own_entries (rest (capture_at l.caps) l.n l.k))) (run_from l.b l.i l.h l.k (rest (capture_at l.caps) l.n l.k))
