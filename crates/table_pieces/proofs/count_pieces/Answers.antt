use Rattle.table_pieces.proofs.PiecesLaws.{count_begin, walk_sum, run_less, count_on, count_done}
use Rattle.table_pieces.proofs.count_pieces.Goals as goal

pub loop-i-init : goal.loop-i-init
loop-i-init c = search count_begin

pub next_run-r-requires : goal.next_run-r-requires
next_run-r-requires c = search walk_sum

pub loop-i-smaller : goal.loop-i-smaller
loop-i-smaller c = search run_less

pub loop-i-preserved : goal.loop-i-preserved
loop-i-preserved c = search count_on

pub returns : goal.returns
returns c = search count_done
