use Rattle.reader_layout.proofs.EntryLaws.{note_in, note_out}
use Rattle.reader_layout.proofs.note_at.Goals as goal

pub returns-then-i-m : goal.returns-then-i-m
returns-then-i-m c = note_in c.args.m.now c.args.i c.if-i-m.true _ c.count_of-count.ensures

pub returns : goal.returns
returns c = note_out c.args.m.now c.args.i c.if-i-m.false
