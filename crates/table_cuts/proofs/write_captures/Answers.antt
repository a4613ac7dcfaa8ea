use Rattle.table_cuts.proofs.CutCode.{clip_below}
use Rattle.table_cuts.proofs.KeepLaws.{keep_begin, keep_yes, keep_no, keep_c, keep_end}
use Rattle.table_cuts.proofs.write_captures.Goals as goal
use Rattle.table_cuts.proofs.write_captures.Goals.{then-shares_sample, else-shares_sample}
use borrow.Author.Rules.{rules}

pub loop-k-init : goal.loop-k-init
loop-k-init c = search keep_begin

pub clip_capture-requires : goal.clip_capture-requires
clip_capture-requires c = (search rules, search clip_below)

pub overflow_add-c : goal.overflow_add-c
overflow_add-c c = search keep_c

pub loop-k-preserved : goal.loop-k-preserved
loop-k-preserved c = elim c.if-shares_sample.branch [ then-shares_sample w ↦ rw (w.out-is, w.c-is) (search keep_yes) | else-shares_sample w ↦ rw (w.out-is, w.c-is) (search keep_no) ]

pub returns : goal.returns
returns c = search keep_end
