use native.Mathlib.Omega.{arith}
use mathlib.Core.Path.{◌∙◌}
use Prim.Native.Nat.{◌/◌}
use lib.ListN.{length}
use Rattle.little_endian.specs.LittleEndian.{number_width}
use Rattle.little_endian.proofs.NumberLaws.{numbers_length}
use Rattle.little_endian.proofs.ReadLaws.{number_in}
use Rattle.table.proofs.rows.RefSliceU8Numbers.number.Goals as goal

pub offset_bounds-numbers-i : goal.offset_bounds-numbers-i
offset_bounds-numbers-i c = omega (arith, c.as_chunks.ensures.front_len, numbers_length (length c.args.self.now / number_width) c.args.self.now)

pub bounds-numbers-i : goal.bounds-numbers-i
bounds-numbers-i c = omega (arith, c.as_chunks.ensures.front_len, numbers_length (length c.args.self.now / number_width) c.args.self.now)

pub returns : goal.returns
returns c = c.from_le_bytes.ensures ∙ number_in c.args.self.now c.args.i _ c.as_chunks.result.0.now c.as_chunks.ensures.front (omega (arith, c.requires, numbers_length (length c.args.self.now / number_width) c.args.self.now))
