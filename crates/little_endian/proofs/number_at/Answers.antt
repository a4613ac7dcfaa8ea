use Rattle.little_endian.proofs.ReadLaws.{number_out}
use Rattle.little_endian.proofs.number_at.Goals as goal

pub returns-else-i-bytes : goal.returns-else-i-bytes
returns-else-i-bytes c = search number_out
