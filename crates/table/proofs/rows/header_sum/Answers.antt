use Rattle.table.proofs.TableLaws.{sum_done, sum_over, sum_bad, sum_on}
use Rattle.table.proofs.rows.header_sum.Goals as goal

pub returns-then-x-cap : goal.returns-then-x-cap
returns-then-x-cap g c = search sum_over

pub loop-i-preserved : goal.loop-i-preserved
loop-i-preserved g c = search sum_on

pub returns-then-not-capture_ok : goal.returns-then-not-capture_ok
returns-then-not-capture_ok g c = search sum_bad

pub returns : goal.returns
returns g c = search sum_done
