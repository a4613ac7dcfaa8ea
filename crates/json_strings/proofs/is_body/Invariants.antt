use lib.ListN.{length}
use Prim.Native.Nat.{◌-◌}
use mathlib.Core.Path.{◌≡◌}
use Rattle.json_strings.specs.Decode.{is_body, body_turn}
use Rattle.json_blocks.specs.Turns.{run_text}
use mathlib.Core.Bool.{false}
use Rattle.json_strings.proofs.is_body.Given as goal

abbrev pub invariant-loop-i : goal.invariant-loop-i
invariant-loop-i l = run_text l.s false (body_turn l.s) l.i ≡ is_body l.s

abbrev pub decreases-loop-i : goal.decreases-loop-i
decreases-loop-i l = length l.s - l.i
