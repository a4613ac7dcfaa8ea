use Rattle.table_pieces.proofs.Walk.{find_begin, find_none, find_past, find_break, find_on, find_fits}
use Rattle.table_pieces.proofs.next_run.Goals as goal

pub loop-j-init : goal.loop-j-init
loop-j-init c = search find_begin

pub returns-then-b-x : goal.returns-then-b-x
returns-then-b-x c = search find_past

pub returns-then-breaks_run : goal.returns-then-breaks_run
returns-then-breaks_run c = search find_break

pub overflow_add-g : goal.overflow_add-g
overflow_add-g c = search find_fits

pub loop-j-preserved : goal.loop-j-preserved
loop-j-preserved c = search find_on

pub returns : goal.returns
returns c = search find_none
