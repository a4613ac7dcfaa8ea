use native.Mathlib.Omega.{arith}
use mathlib.Core.Path.{◌∙◌}
use Rattle.little_endian.proofs.ReadLaws.{number_in}
use Rattle.table_stored.proofs.CodeLaws.{read_next, read_all, read_none}
use Rattle.table_stored.proofs.get_numbers.Goals as goal

pub loop-i-preserved : goal.loop-i-preserved
loop-i-preserved c = read_next c.args.bytes.now c.args.out.now c.loop-i.out c.loop-i.i _ c.loop-i-test.true (omega arith) (c.from_le_bytes.ensures ∙ number_in c.args.bytes.now c.loop-i.i _ c.as_chunks.result.0.now c.as_chunks.ensures.front (omega (arith, c.as_chunks.ensures.front_len))) c.loop-i.invariant

pub returns-after-loop-i : goal.returns-after-loop-i
returns-after-loop-i c = read_all c.args.bytes.now c.args.out.now c.loop-i.out c.loop-i.i (omega arith) c.if-n-out.true c.loop-i.invariant

pub returns-else-n-out : goal.returns-else-n-out
returns-else-n-out c = read_none c.args.bytes.now c.args.out.now c.if-n-out.false
