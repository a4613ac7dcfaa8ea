use Rattle.reader_layout.proofs.EntryLaws.{entry_in, entry_out}
use Rattle.reader_layout.proofs.entry_at.Goals as goal

pub returns-then-i-m : goal.returns-then-i-m
returns-then-i-m c = entry_in c.args.m.now c.args.i c.if-i-m.true

pub returns : goal.returns
returns c = entry_out c.args.m.now c.args.i c.if-i-m.false
