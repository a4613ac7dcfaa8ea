use lib.ListN.{drop}
use Prim.Native.Nat.{◌<◌, ◌-◌, ◌+◌}
use mathlib.Core.Path.{◌≡◌}
use mathlib.Core.Bool.{◌&&◌}
use lib.ListN.{take}
use Rattle.json_blocks.specs.Blocks.{plain_byte, all_at}
use Rattle.json_names.specs.Keys.{key_from}
use Rattle.json_names.proofs.plain.mix_block.Given as goal

abbrev pub invariant-loop-k : goal.invariant-loop-k
invariant-loop-k l = (l.h < 4294967296) × ((l.ok && all_at plain_byte (8 - l.k) l.s (l.i + l.k)) ≡ all_at plain_byte 8 l.s l.i) × (key_from 16777619 l.h (take (8 - l.k) (drop (l.i + l.k) l.s)) ≡ key_from 16777619 l.key (take 8 (drop l.i l.s)))
