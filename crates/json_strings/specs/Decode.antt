-- The decoded text of a JSON string, from a place in it up to its closing quote or the end of the text. A byte stands for
-- itself, and an escape for the UTF-8 of its code point (ECMA-404, 9). A backslash that begins no escape stands for itself;
-- a string that was read has none.
use Rattle.json_blocks.specs.declared.Cursor.{Cursor}
use Rattle.std.specs.Prelude.{Bool, true, false, cond, ◌||◌, List, [], ◌∷◌, ◌++◌, ℕ, zero, suc, ◌+◌, ◌*◌, ◌-◌, length, eqb, leb, None, Option, Some}
use Rattle.json_blocks.specs.Turns.{Turn, on, out, run_text}
use Rattle.json_blocks.specs.TextBytes.{byte, within}
use Rattle.json_characters.specs.String.{hex4_at, character_at}
use Rattle.json_strings.specs.Utf8.{utf8}

-- the code point of a short escape by its letter; 256 for any other byte
unfoldable pub short_code : ℕ → ℕ
short_code b =
    cond (eqb b 0x22) 0x22 (cond (eqb b 0x5C) 0x5C (cond (eqb b 0x2F) 0x2F (cond (eqb b 0x62) 0x08
    (cond (eqb b 0x66) 0x0C (cond (eqb b 0x6E) 0x0A (cond (eqb b 0x72) 0x0D (cond (eqb b 0x74) 0x09 256)))))))

abbrev pub unit_hex4 : Option (ℕ × Cursor) → (ℕ → ℕ → Option (ℕ × ℕ)) → Option (ℕ × ℕ)
unit_hex4 (Some (n, c)) f = f n c.at
unit_hex4 None f = None

-- the code point of a pair of surrogates
unfoldable pub pair_code : ℕ → ℕ → ℕ
pair_code n m = 0x10000 + (n - 0xD800) * 0x400 + (m - 0xDC00)

-- the low surrogate after the high one n
unfoldable pub low_unit : List ℕ → ℕ → ℕ → Option (ℕ × ℕ)
low_unit s n at =
    cond (eqb (byte s at) 0x5C)
    (cond (eqb (byte s (at + 1)) 0x75)
    (unit_hex4 (hex4_at s (at + 2)) (λ m j. cond (within 0xDC00 0xDFFF m) (Some ((pair_code n m), j)) None))
    None)
    None

-- past `\u`
unfoldable pub unicode_unit : List ℕ → ℕ → Option (ℕ × ℕ)
unicode_unit s at =
    unit_hex4 (hex4_at s at)
    (λ n j. cond (within 0xD800 0xDBFF n) (low_unit s n j) (cond (within 0xDC00 0xDFFF n) None (Some (n, j))))

-- past a backslash
unfoldable pub escape_unit : List ℕ → ℕ → Option (ℕ × ℕ)
escape_unit s at =
    cond (eqb (short_code (byte s at)) 256)
    (cond (eqb (byte s at) 0x75) (unicode_unit s (at + 1)) None)
    (Some ((short_code (byte s at)), (at + 1)))

unfoldable pub unit_at : List ℕ → ℕ → Option (ℕ × ℕ)
unit_at s at = cond (eqb (byte s at) 0x5C) (escape_unit s (at + 1)) None

-- the bytes that a unit at a place stands for, and the place past it
abbrev pub unit_bytes : List ℕ → ℕ → Option (ℕ × ℕ) → List ℕ
unit_bytes s at None = byte s at ∷ []
unit_bytes s at (Some (p, j)) = utf8 p

abbrev pub unit_end : ℕ → Option (ℕ × ℕ) → ℕ
unit_end at None = at + 1
unit_end at (Some (p, j)) = j

-- the string ends here: a quote, or the end of the text
abbrev pub ends_string : List ℕ → ℕ → Bool
ends_string s at = leb (length s) at || eqb (byte s at) 0x22

-- at most n units
unfoldable pub decoded_units : ℕ → List ℕ → ℕ → List ℕ
decoded_units zero s at = []
decoded_units (suc n) s at = cond (ends_string s at) [] (unit_bytes s at (unit_at s at) ++ decoded_units n s (unit_end at (unit_at s at)))

-- each unit passes a byte of s
unfoldable pub decoded_from : List ℕ → ℕ → List ℕ
decoded_from s at = decoded_units (length s) s at

abbrev pub body_onward : Option Cursor → Turn Bool
body_onward (Some c) = on c.at
body_onward None = out false

-- a slice is a string's body by itself: characters up to its end, and no quote
unfoldable pub body_turn : List ℕ → ℕ → Turn Bool
body_turn s at = cond (leb (length s) at) (out true) (cond (eqb (byte s at) 0x22) (out false) (body_onward (character_at s at)))

unfoldable pub is_body : List ℕ → Bool
is_body s = run_text s false (body_turn s) 0
