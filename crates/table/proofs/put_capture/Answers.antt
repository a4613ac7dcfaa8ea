use Rattle.table.proofs.RowLaws.{put_in, put_out}
use Rattle.table.proofs.put_capture.Goals as goal

pub returns-then-i-out : goal.returns-then-i-out
returns-then-i-out c = put_in c.args.out.now c.args.i _ _ _ _ c.if-i-out.true

pub returns-else-i-out : goal.returns-else-i-out
returns-else-i-out c = put_out c.args.out.now c.args.i _ c.if-i-out.false
