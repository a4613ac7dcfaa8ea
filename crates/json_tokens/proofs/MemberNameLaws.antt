-- Where a member's name ends.
use Rattle.std.specs.Prelude.{Option}
use mathlib.Core.List.{List}
use Prim.Native.Nat.{ℕ, ◌+◌}
use native.Mathlib.Omega.{arith}
use lib.Dec.{eqb}
use Rattle.json_blocks.specs.declared.Cursor.{Cursor}
use Rattle.json_blocks.specs.TextBytes.{byte, and_then}
use Rattle.json_blocks.specs.Group.{colon_at}
use Rattle.json_tokens.specs.MemberName.{name_at}
use Rattle.json_blocks.proofs.ByteLaws.{Onward, on_to, on_bad, onward_cond, onward_less}
use Rattle.json_blocks.proofs.GroupLaws.{colon_onward}
use Rattle.json_characters.proofs.StringLaws.{string_onward}

-- a name is two quotes at least, and the value stands past the colon
pub name_onward : (s : List ℕ) (at : ℕ) → Onward (at + 3) (name_at s at)
unfolding name_at
name_onward s at = onward_cond (eqb (byte s at) 0x22) (go (string_onward s (at + 1))) on_bad where
  go : {r : (Option Cursor)} → Onward (at + 1 + 1) r → Onward (at + 3) (and_then r (colon_at s))
  go (on_to {c} p) = onward_less (omega arith) (colon_onward s c.at)
  go on_bad = on_bad
