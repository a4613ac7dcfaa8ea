use mathlib.Core.Path.{sym}
use Rattle.little_endian.proofs.NumberLaws.{numbers_length}
use Rattle.table.proofs.rows.RefSliceU8Numbers.count.Goals as goal

pub returns : goal.returns
returns c = sym (numbers_length _ c.args.self.now)
