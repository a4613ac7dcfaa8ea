use Rattle.reader_layout.proofs.StageLaws.{sum_done, sum_over, sum_on}
use Rattle.reader_layout.proofs.header_sum.Goals as goal

pub returns-then-x-most : goal.returns-then-x-most
returns-then-x-most c = search sum_over

pub loop-i-preserved : goal.loop-i-preserved
loop-i-preserved c = search sum_on

pub returns : goal.returns
returns c = search sum_done
