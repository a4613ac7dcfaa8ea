use Rattle.table.proofs.RowLaws.{capture_in_lem}
use Rattle.table.proofs.rows.capture.Goals as goal

pub returns : goal.returns
returns g c = search capture_in_lem
