-- For the code: a byte of a code point in UTF-8 by its number.
use Rattle.std.specs.Prelude.{cond, ℕ, ◌+◌, ◌/◌, ◌%◌, eqb}

-- a later byte of a code point in UTF-8, the j-th from its last
unfoldable pub later_byte : ℕ → ℕ → ℕ
later_byte p j = cond (eqb j 0) (0x80 + p % 0x40) (cond (eqb j 1) (0x80 + p / 0x40 % 0x40) (0x80 + p / 0x1000 % 0x40))
