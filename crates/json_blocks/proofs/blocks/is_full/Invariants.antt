use Prim.Native.Nat.{◌-◌, ◌+◌}
use mathlib.Core.Path.{◌≡◌}
use mathlib.Core.Bool.{◌&&◌}
use Rattle.json_blocks.specs.Blocks.{all_at}
use Rattle.json_blocks.proofs.blocks.is_full.Given as goal

abbrev pub invariant-loop-k : goal.invariant-loop-k
invariant-loop-k g l = (l.ok && all_at g.T.ByteTest.holds (8 - l.k) l.s (l.i + l.k)) ≡ all_at g.T.ByteTest.holds 8 l.s l.i
