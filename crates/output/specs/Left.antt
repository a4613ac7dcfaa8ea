-- What a number of bytes leaves of a room.
use Rattle.std.specs.Prelude.{ℕ, ◌-◌, cond, leb, None, Option, Some}

unfoldable pub left_after : ℕ → ℕ → Option ℕ
left_after room n = cond (leb n room) (Some (room - n)) None
