use Rattle.table.proofs.RowLaws.{annotation_in_lem}
use Rattle.table.proofs.rows.annotation.Goals as goal

pub returns : goal.returns
returns g c = search annotation_in_lem
