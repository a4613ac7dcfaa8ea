use native.Mathlib.Omega.{arith}
use Rattle.reader_layout.proofs.EntryLaws.{entry_put, put_none}
use Rattle.reader_layout.proofs.put_entry.Goals as goal

pub returns-then-i-out : goal.returns-then-i-out
returns-then-i-out c = entry_put c.args.out.now c.args.i _ _ c.if-i-out.true

pub returns-else-i-out : goal.returns-else-i-out
returns-else-i-out c = put_none c.args.out.now c.args.i 2 _ (omega (arith, c.if-i-out.false))
