-- A member's name and its colon (ECMA-404, 6).
use Rattle.json_blocks.specs.declared.Cursor.{Cursor}
use Rattle.std.specs.Prelude.{cond, List, ℕ, ◌+◌, eqb, None, Option}
use Rattle.json_blocks.specs.TextBytes.{byte, and_then}
use Rattle.json_blocks.specs.Group.{colon_at}
use Rattle.json_characters.specs.String.{string_at}

-- a member's name and its colon, up to the value
unfoldable pub name_at : List ℕ → ℕ → Option Cursor
name_at s at = cond (eqb (byte s at) 0x22) (and_then (string_at s (at + 1)) (colon_at s)) None
