use Rattle.table_cuts.proofs.KeepLaws.{count_begin, count_yes, count_no, count_done}
use Rattle.table_cuts.proofs.count_captures.Goals as goal
use Rattle.table_cuts.proofs.count_captures.Goals.{then-shares_sample, else-shares_sample}

pub loop-k-init : goal.loop-k-init
loop-k-init c = search count_begin

pub loop-k-preserved : goal.loop-k-preserved
loop-k-preserved c = elim c.if-shares_sample.branch [ then-shares_sample w ↦ rw w.c-is (search count_yes) | else-shares_sample w ↦ rw w.c-is (search count_no) ]

pub returns : goal.returns
returns c = search count_done
