-- Document 01, "The listing": a label as it is shown.
use Rattle.std.specs.Prelude.{ℕ, ◌+◌, ◌-◌, ◌/◌, ◌%◌, Bool, not, ◌&&◌, cond, List, [], ◌∷◌, ◌++◌, ltb, eqb}
use Rattle.json_blocks.specs.TextBytes.{ascii, within}
use Rattle.json_strings.specs.Decode.{decoded_from}
use Rattle.table.specs.Rows.{flat}
use Rattle.table.specs.declared.Place.{Place}
use Rattle.table.specs.Place.{absent}
use Rattle.listing_labels.specs.Text.{part}

-- "two lower-case hex digits"
unfoldable pub hex_digit_of : ℕ → ℕ
hex_digit_of d = cond (ltb d 10) (0x30 + d) (0x61 + (d - 10))

abbrev pub hex_byte : ℕ → List ℕ
hex_byte b = hex_digit_of (b / 16) ∷ hex_digit_of (b % 16) ∷ []

-- "bytes 0x20 to 0x7E except `"` and `\` as they are"
unfoldable pub as_it_is : ℕ → Bool
as_it_is b = within 0x20 0x7E b && not (eqb b 0x22) && not (eqb b 0x5C)

-- "others as `\x` and two lower-case hex digits"
unfoldable pub shown_byte : ℕ → List ℕ
shown_byte b = cond (as_it_is b) (b ∷ []) (ascii "\\x" ++ hex_byte b)

-- "A label stands in quotes, decoded to UTF-8"
unfoldable pub quoted : List ℕ → List ℕ
quoted raw = ascii "\"" ++ flat shown_byte (decoded_from raw 0) ++ ascii "\""

-- "An absent label is `-` without quotes"
unfoldable pub shown_text : List ℕ → Place → List ℕ
shown_text s p = cond (absent p) (ascii "-") (quoted (part s p))
