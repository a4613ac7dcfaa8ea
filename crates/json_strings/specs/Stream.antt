-- The decoded text from a position on: a unit's place, and how many of the bytes that it stands for are passed. Nothing is left where
-- the unit has no more bytes.
use Rattle.std.specs.Prelude.{cond, List, [], ◌++◌, ℕ, ◌+◌, length, get_or, drop, ltb, None, Option, Some}
use Rattle.json_strings.specs.declared.Position.{Position}
use Rattle.json_strings.specs.Decode.{unit_at, unit_bytes, unit_end, ends_string, decoded_from}

-- the first byte of the unit at a place
abbrev pub start_at : ℕ → Position
start_at at = record { at = at; passed = 0 }

-- one byte more of the same unit
abbrev pub byte_more : Position → Position
byte_more p = record { at = p.at; passed = p.passed + 1 }

-- the bytes of the unit at a place; none where the string ends
unfoldable pub bytes_at : List ℕ → ℕ → List ℕ
bytes_at s at = cond (ends_string s at) [] (unit_bytes s at (unit_at s at))

unfoldable pub stream : List ℕ → Position → List ℕ
stream s p =
    cond (ltb p.passed (length (bytes_at s p.at)))
    (drop p.passed (bytes_at s p.at) ++ decoded_from s (unit_end p.at (unit_at s p.at)))
    []

-- where the next decoded byte stands: it is one more of the same unit, or the first of the unit past it
unfoldable pub next_position : List ℕ → Position → Position
next_position s p = cond (ltb (p.passed + 1) (length (bytes_at s p.at))) (byte_more p) (start_at (unit_end p.at (unit_at s p.at)))

-- the byte at a position, and the position past it; the end where the unit has no more bytes
unfoldable pub next_byte : List ℕ → Position → Option (ℕ × Position)
next_byte s p = cond (ltb p.passed (length (bytes_at s p.at))) (Some ((get_or (bytes_at s p.at) p.passed 0), (next_position s p))) None
