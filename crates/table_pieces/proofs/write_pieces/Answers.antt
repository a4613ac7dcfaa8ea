use Rattle.table_pieces.proofs.PiecesLaws.{write_begin, walk_sum, walk_low_lem, run_up, run_first, run_len, run_less, write_room, write_c, write_on, write_done}
use Rattle.table_pieces.proofs.write_pieces.Goals as goal

pub loop-i-init : goal.loop-i-init
loop-i-init c = search write_begin

pub next_run-r-requires : goal.next_run-r-requires
next_run-r-requires c = search walk_sum

pub put_piece-requires : goal.put_piece-requires
put_piece-requires c = (search write_room, search walk_low_lem, search run_up, search run_first, search run_len)

pub overflow_add-c : goal.overflow_add-c
overflow_add-c c = search write_c

pub loop-i-smaller : goal.loop-i-smaller
loop-i-smaller c = search run_less

pub loop-i-preserved : goal.loop-i-preserved
loop-i-preserved c = search write_on

pub returns : goal.returns
returns c = search write_done
