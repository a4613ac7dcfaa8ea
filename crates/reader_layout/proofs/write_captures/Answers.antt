use Rattle.reader_layout.proofs.WriteLaws.{rows_end, row_low, row_fits, row_below, row_on}
use Rattle.reader_layout.proofs.write_captures.Goals as goal

pub overflow_add-h : goal.overflow_add-h
overflow_add-h c = search row_fits

pub capture_row-requires : goal.capture_row-requires
capture_row-requires c = (search row_low, search row_below)

pub loop-i-preserved : goal.loop-i-preserved
loop-i-preserved c = search row_on

pub returns : goal.returns
returns c = search rows_end
