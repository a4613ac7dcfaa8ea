-- A string, from past its opening quote (ECMA-404, 9), in valid UTF-8 (Unicode, table 3-7). Our choice in document 01: "a
-- `\u` surrogate without its partner gives 2".
use Rattle.json_blocks.specs.declared.Cursor.{Cursor}
use Rattle.std.specs.Prelude.{Bool, cond, ◌||◌, List, ℕ, ◌+◌, ◌*◌, ◌-◌, eqb, ltb, None, Option, Some}
use Rattle.json_blocks.specs.Turns.{Turn, on, out, run_text}
use Rattle.json_blocks.specs.TextBytes.{byte, to, and_then, within, byte_within}

-- a byte from lo to hi, and one or two continuation bytes
unfoldable pub two_bytes : List ℕ → ℕ → ℕ → ℕ → Option Cursor
two_bytes s lo hi at = and_then (byte_within s lo hi at) (byte_within s 0x80 0xBF)

unfoldable pub three_bytes : List ℕ → ℕ → ℕ → ℕ → Option Cursor
three_bytes s lo hi at = and_then (byte_within s lo hi at) (two_bytes s 0x80 0xBF)

-- the rows of table 3-7 below the first: what follows the first byte b
unfoldable pub multibyte_at : ℕ → List ℕ → ℕ → Option Cursor
multibyte_at b s at =
    cond (within 0xC2 0xDF b) (byte_within s 0x80 0xBF at)
    (cond (eqb b 0xE0) (two_bytes s 0xA0 0xBF at)
    (cond (within 0xE1 0xEC b) (two_bytes s 0x80 0xBF at)
    (cond (eqb b 0xED) (two_bytes s 0x80 0x9F at)
    (cond (within 0xEE 0xEF b) (two_bytes s 0x80 0xBF at)
    (cond (eqb b 0xF0) (three_bytes s 0x90 0xBF at)
    (cond (within 0xF1 0xF3 b) (three_bytes s 0x80 0xBF at)
    (cond (eqb b 0xF4) (three_bytes s 0x80 0x8F at) None)))))))

-- a hexadecimal digit's number; 16 for any other byte
unfoldable pub hex_value : ℕ → ℕ
hex_value b = cond (within 48 57 b) (b - 48) (cond (within 65 70 b) (b - 55) (cond (within 97 102 b) (b - 87) 16))

abbrev pub if_hex : ℕ → Option (ℕ × Cursor) → Option (ℕ × Cursor)
if_hex x f = cond (ltb 15 x) None f

-- four hexadecimal digits and their number
unfoldable pub hex4_at : List ℕ → ℕ → Option (ℕ × Cursor)
hex4_at s at =
    if_hex (hex_value (byte s at))
    (if_hex (hex_value (byte s (at + 1)))
    (if_hex (hex_value (byte s (at + 2)))
    (if_hex (hex_value (byte s (at + 3)))
    (Some ((((hex_value (byte s at) * 16 + hex_value (byte s (at + 1))) * 16 + hex_value (byte s (at + 2))) * 16 + hex_value (byte s (at + 3))), (record { at = at + 4 }))))))

abbrev pub after_hex4 : Option (ℕ × Cursor) → (ℕ → ℕ → Option Cursor) → Option Cursor
after_hex4 (Some (n, c)) f = f n c.at
after_hex4 None f = None

-- the escape of a low surrogate
unfoldable pub low_surrogate_at : List ℕ → ℕ → Option Cursor
low_surrogate_at s at =
    cond (eqb (byte s at) 0x5C)
    (cond (eqb (byte s (at + 1)) 0x75)
    (after_hex4 (hex4_at s (at + 2)) (λ n j. cond (within 0xDC00 0xDFFF n) (to j) None))
    None)
    None

-- past `\u`: a high surrogate wants a low one next, and a low one does not stand alone
unfoldable pub unicode_escape_at : List ℕ → ℕ → Option Cursor
unicode_escape_at s at =
    after_hex4 (hex4_at s at)
    (λ n j. cond (within 0xD800 0xDBFF n) (low_surrogate_at s j) (cond (within 0xDC00 0xDFFF n) None (to j)))

-- the bytes `"` `\` `/` `b` `f` `n` `r` `t`, each an escape after a backslash
unfoldable pub short_escape : ℕ → Bool
short_escape b =
    eqb b 0x22 || eqb b 0x5C || eqb b 0x2F || eqb b 0x62 || eqb b 0x66 || eqb b 0x6E || eqb b 0x72 || eqb b 0x74

-- past a backslash
unfoldable pub escape_at : List ℕ → ℕ → Option Cursor
escape_at s at =
    cond (short_escape (byte s at)) (to (at + 1))
    (cond (eqb (byte s at) 0x75) (unicode_escape_at s (at + 1)) None)

-- one character or one escape; no control byte below 20
unfoldable pub character_at : List ℕ → ℕ → Option Cursor
character_at s at =
    cond (ltb (byte s at) 0x20) None
    (cond (eqb (byte s at) 0x5C) (escape_at s (at + 1))
    (cond (ltb (byte s at) 0x80) (to (at + 1))
    (multibyte_at (byte s at) s (at + 1))))

abbrev pub onward : Option Cursor → Turn (Option Cursor)
onward (Some c) = on c.at
onward None = out None

-- characters up to the closing quote
unfoldable pub string_turn : List ℕ → ℕ → Turn (Option Cursor)
string_turn s at = cond (eqb (byte s at) 0x22) (out (to (at + 1))) (onward (character_at s at))

unfoldable pub string_at : List ℕ → ℕ → Option Cursor
string_at s at = run_text s None (string_turn s) at
