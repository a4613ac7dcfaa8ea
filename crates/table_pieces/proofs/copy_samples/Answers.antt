use Rattle.table_pieces.proofs.PiecesLaws.{walk_sum, walk_low_lem, run_up, run_less}
use Rattle.table_pieces.proofs.CopyCode.{copy_begin, copy_done, run_in, run_room, copy_on}
use Rattle.table_pieces.proofs.copy_samples.Goals as goal

pub loop-i-init : goal.loop-i-init
loop-i-init c = search copy_begin

pub next_run-r-requires : goal.next_run-r-requires
next_run-r-requires c = search walk_sum

pub copy_run-p-requires : goal.copy_run-p-requires
copy_run-p-requires c = (search walk_low_lem, search run_up, search run_in, search run_room)

pub loop-i-smaller : goal.loop-i-smaller
loop-i-smaller c = search run_less

pub loop-i-preserved : goal.loop-i-preserved
loop-i-preserved c = search copy_on

pub returns : goal.returns
returns c = search copy_done
