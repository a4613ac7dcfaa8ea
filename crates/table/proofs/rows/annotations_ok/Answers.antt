use Rattle.table.proofs.TableLaws.{note_bad, note_on, note_done}
use Rattle.table.proofs.rows.annotations_ok.Goals as goal

pub loop-i-preserved : goal.loop-i-preserved
loop-i-preserved g c = search note_on

pub returns-then-not-annotation_ok : goal.returns-then-not-annotation_ok
returns-then-not-annotation_ok g c = search note_bad

pub returns : goal.returns
returns g c = search note_done
