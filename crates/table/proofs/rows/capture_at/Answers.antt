use Rattle.table.proofs.RowLaws.{capture_out}
use Rattle.table.proofs.rows.capture_at.Goals as goal

pub returns : goal.returns
returns g c = search capture_out
