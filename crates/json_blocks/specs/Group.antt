-- What stands between the items of an array or object (ECMA-404, 6 and 7): commas, the close, and a member's colon.
use Rattle.json_blocks.specs.declared.Cursor.{Cursor}
use Rattle.std.specs.Prelude.{cond, List, ℕ, ◌+◌, eqb, None, Option, Some}
use Rattle.json_blocks.specs.TextBytes.{byte, to, skip_blanks}
use Rattle.json_blocks.specs.declared.After.{After}
use Rattle.json_blocks.specs.declared.After.TheVariants as A

-- after an item and blanks: a comma and blanks, or the close
unfoldable pub after_item : List ℕ → ℕ → ℕ → Option After
after_item s close at =
    cond (eqb (byte s (skip_blanks s at)) 0x2C) (Some (A.Item (record { at = skip_blanks s (skip_blanks s at + 1) })))
    (cond (eqb (byte s (skip_blanks s at)) close) (Some (A.Close (record { at = skip_blanks s at + 1 }))) None)

-- blanks, a colon and blanks, up to the value
unfoldable pub colon_at : List ℕ → ℕ → Option Cursor
colon_at s at = cond (eqb (byte s (skip_blanks s at)) 0x3A) (to (skip_blanks s (skip_blanks s at + 1))) None
