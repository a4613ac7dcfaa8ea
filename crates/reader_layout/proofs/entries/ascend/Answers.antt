use Rattle.reader_layout.proofs.StageLaws.{up_done, up_bad, up_on}
use Rattle.reader_layout.proofs.entries.ascend.Goals as goal

pub returns-then-start-s : goal.returns-then-start-s
returns-then-start-s g c = search up_bad

pub loop-i-preserved : goal.loop-i-preserved
loop-i-preserved g c = search up_on

pub returns : goal.returns
returns g c = search up_done
