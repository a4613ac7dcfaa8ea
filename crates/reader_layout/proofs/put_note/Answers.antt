use native.Mathlib.Omega.{arith}
use Rattle.reader_layout.proofs.EntryLaws.{note_put, put_none}
use Rattle.reader_layout.specs.Entries.{note_width}
use Rattle.reader_layout.proofs.put_note.Goals as goal

pub returns-then-i-out : goal.returns-then-i-out
returns-then-i-out c = note_put c.args.out.now c.args.i _ _ _ _ _ _ _ c.if-i-out.true c.count_given-given.ensures c.count_number-number.ensures

pub returns-else-i-out : goal.returns-else-i-out
returns-else-i-out c = put_none c.args.out.now c.args.i note_width _ (omega (arith, c.if-i-out.false))
