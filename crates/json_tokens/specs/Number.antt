-- A number (ECMA-404, 8).
use Rattle.json_blocks.specs.declared.Cursor.{Cursor}
use Rattle.std.specs.Prelude.{Bool, cond, List, ℕ, ◌+◌, eqb, None, Option}
use Rattle.json_blocks.specs.TextBytes.{byte, to, and_then, within, skip_while}

-- `0` to `9`
abbrev pub digit : ℕ → Bool
digit = within 0x30 0x39

abbrev pub skip_digits : List ℕ → ℕ → ℕ
skip_digits = skip_while digit

-- one digit or more
unfoldable pub digits_at : List ℕ → ℕ → Option Cursor
digits_at s at = cond (digit (byte s at)) (to (skip_digits s (at + 1))) None

-- a `0`, or digits that begin with another
unfoldable pub integer_at : List ℕ → ℕ → Option Cursor
integer_at s at = cond (eqb (byte s at) 0x30) (to (at + 1)) (digits_at s at)

-- a `.` and digits, where there is a `.`
unfoldable pub fraction_at : List ℕ → ℕ → Option Cursor
fraction_at s at = cond (eqb (byte s at) 0x2E) (digits_at s (at + 1)) (to at)

-- past a `+` or `-`, where there is one
unfoldable pub skip_sign : List ℕ → ℕ → ℕ
skip_sign s at = cond (eqb (byte s at) 0x2B) (at + 1) (cond (eqb (byte s at) 0x2D) (at + 1) at)

-- an `e` or `E`, a sign or none, and digits, where there is one
unfoldable pub exponent_at : List ℕ → ℕ → Option Cursor
exponent_at s at =
    cond (eqb (byte s at) 0x65) (digits_at s (skip_sign s (at + 1)))
    (cond (eqb (byte s at) 0x45) (digits_at s (skip_sign s (at + 1))) (to at))

-- past a `-`, where there is one
unfoldable pub skip_minus : List ℕ → ℕ → ℕ
skip_minus s at = cond (eqb (byte s at) 0x2D) (at + 1) at

unfoldable pub number_at : List ℕ → ℕ → Option Cursor
number_at s at = and_then (integer_at s (skip_minus s at)) (λ i. and_then (fraction_at s i) (exponent_at s))
