use lib.ListN.{length}
use Prim.Native.Nat.{◌-◌}
use Rattle.json_blocks.specs.Blocks.{GoodTo}
use Rattle.json_blocks.proofs.blocks.skip_blocks.Given as goal

abbrev pub invariant-loop-i : goal.invariant-loop-i
invariant-loop-i g l = GoodTo g.T.ByteTest.holds l.s l.at l.i

abbrev pub decreases-loop-i : goal.decreases-loop-i
decreases-loop-i g l = length l.s - l.i
