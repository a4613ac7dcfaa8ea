use Rattle.reader_layout.proofs.WriteLaws.{next_some, next_none}
use Rattle.reader_layout.proofs.next_start.Goals as goal

pub returns-then-i-n : goal.returns-then-i-n
returns-then-i-n c = search next_some

pub returns-else-i-n : goal.returns-else-i-n
returns-else-i-n c = search next_none
