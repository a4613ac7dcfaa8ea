use Rattle.table.proofs.RowLaws.{annotation_out}
use Rattle.table.proofs.rows.annotation_at.Goals as goal

pub returns : goal.returns
returns g c = search annotation_out
