use lib.ListN.{length}
use Prim.Native.Nat.{◌-◌}
use mathlib.Core.Path.{◌≡◌}
use mathlib.Core.Bool.{false}
use Rattle.json_blocks.specs.TextBytes.{skip_while}
use Rattle.json_blocks.proofs.blocks.skip_while.Given as goal

abbrev pub invariant-loop-i : goal.invariant-loop-i
invariant-loop-i g l = g.T.ByteTest.holds 0 ≡ false → skip_while g.T.ByteTest.holds l.s l.i ≡ skip_while g.T.ByteTest.holds l.s l.at

abbrev pub decreases-loop-i : goal.decreases-loop-i
decreases-loop-i g l = length l.s - l.i
