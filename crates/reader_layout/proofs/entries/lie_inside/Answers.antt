use Rattle.reader_layout.proofs.StageLaws.{all_done, all_bad, all_on}
use Rattle.reader_layout.proofs.entries.lie_inside.Goals as goal

pub returns-then-not-is_inside : goal.returns-then-not-is_inside
returns-then-not-is_inside g c = search all_bad

pub loop-i-preserved : goal.loop-i-preserved
loop-i-preserved g c = search all_on

pub returns : goal.returns
returns g c = search all_done
