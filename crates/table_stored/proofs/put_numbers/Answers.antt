use native.Mathlib.Omega.{arith}
use mathlib.Core.Path.{sym}
use lib.ListN.{get_or}
use Rattle.little_endian.specs.LittleEndian.{number_width}
use Rattle.little_endian.proofs.NumberLaws.{length_bytes}
use Rattle.output.proofs.Writing.{writes_none, writes_end, next_room, writes_next, whole_part}
use Rattle.table_stored.proofs.FormLaws.{length_eight}
use Rattle.table_stored.proofs.CodeLaws.{next_number, numbers_end}
use Rattle.table_stored.proofs.put_numbers.Goals as goal

pub loop-x-init : goal.loop-x-init
loop-x-init c = writes_none c.args.out.now (whole_part _) (omega (arith, c.requires, length_eight c.args.numbers.now))

pub put_number-requires : goal.put_number-requires
put_number-requires c = omega (arith, next_room (next_number c.args.numbers.now _ _ _ _ c.loop-x-test.true c.loop-x.invariant), length_bytes number_width (get_or c.args.numbers.now c.loop-x.x-index 0))

pub loop-x-preserved : goal.loop-x-preserved
loop-x-preserved c = writes_next (next_number c.args.numbers.now _ _ _ _ c.loop-x-test.true c.loop-x.invariant) (sym (length_bytes number_width _), c.put_number.ensures)

pub returns : goal.returns
returns c =
    let p = writes_end (numbers_end c.args.numbers.now _ _ _ _ c.loop-x-test.false c.loop-x.invariant) in
    record { count = p.0; memory = p.1 }
