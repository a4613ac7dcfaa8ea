use Rattle.table.specs.Rows.{capture_width, capture_at, capture_numbers}
use Rattle.table_cuts.specs.Cut.{shares_capture, clip_capture}
use Rattle.table_cuts.proofs.KeepLaws.{Keeping}
use Rattle.table_cuts.proofs.write_captures.Given as goal

abbrev pub invariant-loop-k : goal.invariant-loop-k
invariant-loop-k l = Keeping (capture_at l.caps) (shares_capture l.a l.b) (clip_capture l.a l.b l.w) capture_numbers capture_width l.initial.out l.n l.out l.c l.k
