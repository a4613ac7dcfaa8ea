use Rattle.table.proofs.TableLaws.{next_some, next_none}
use Rattle.table.proofs.rows.next_start.Goals as goal

pub returns-then-i-n : goal.returns-then-i-n
returns-then-i-n g c = search next_some

pub returns-else-i-n : goal.returns-else-i-n
returns-else-i-n g c = search next_none
