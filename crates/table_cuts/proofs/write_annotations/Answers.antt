use Rattle.table_cuts.proofs.KeepLaws.{keep_begin, keep_yes, keep_no, keep_c, keep_end}
use Rattle.table_cuts.proofs.write_annotations.Goals as goal
use Rattle.table_cuts.proofs.write_annotations.Goals.{then-shares_sample, else-shares_sample}

pub loop-k-init : goal.loop-k-init
loop-k-init c = search keep_begin

pub overflow_add-c : goal.overflow_add-c
overflow_add-c c = search keep_c

pub loop-k-preserved : goal.loop-k-preserved
loop-k-preserved c = elim c.if-shares_sample.branch [ then-shares_sample w ↦ rw (w.out-is, w.c-is) (search keep_yes) | else-shares_sample w ↦ rw (w.out-is, w.c-is) (search keep_no) ]

pub returns : goal.returns
returns c = search keep_end
