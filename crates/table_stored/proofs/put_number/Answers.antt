use mathlib.Core.Path.{◌∙◌}
use Rattle.little_endian.proofs.NumberLaws.{length_bytes}
use Rattle.little_endian.specs.LittleEndian.{number_width}
use Rattle.table_stored.proofs.CodeLaws.{eight_bytes}
use Rattle.table_stored.proofs.put_number.Goals as goal

pub returns : goal.returns
returns c = rw (c.copy_from_slice.ensures.after, c.to_le_bytes.ensures ∙ eight_bytes c.args.x, length_bytes number_width c.args.x)
