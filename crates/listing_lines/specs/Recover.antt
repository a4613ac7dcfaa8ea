-- What a reader gets back from an annotation's line: document 01, "The listing", read backwards.
use Rattle.std.specs.Prelude.{ℕ, zero, suc, ◌+◌, ◌*◌, cond, List, [], ◌∷◌, eqb}
use Rattle.std.proofs.Math.Option.{Option, none, some}
use Rattle.json_blocks.specs.TextBytes.{byte}
use Rattle.json_characters.specs.String.{hex_value}
use Rattle.json_strings.specs.Decode.{decoded_from}
use Rattle.table.specs.declared.Annotation.{Annotation}
use Rattle.decimal.specs.Decimal.{number_of}
use Rattle.table.specs.Place.{absent}
use Rattle.listing_labels.specs.Text.{part}

-- "single spaces": up to the first, and past it
unfoldable pub up_to : List ℕ → List ℕ
up_to [] = []
up_to (b ∷ l) = cond (eqb b 0x20) [] (b ∷ up_to l)

unfoldable pub past : List ℕ → List ℕ
past [] = []
past (b ∷ l) = cond (eqb b 0x20) l (past l)

-- "`\x` and two lower-case hex digits": the byte that they write, past the `\`
unfoldable pub hex_in : List ℕ → ℕ
hex_in l = hex_value (byte l 1) * 16 + hex_value (byte l 2)

-- past k bytes, up to the closing quote: an escape gives its byte, and other bytes are themselves
unfoldable pub unquoted : ℕ → List ℕ → List ℕ
unquoted k [] = []
unquoted (suc k) (b ∷ l) = unquoted k l
unquoted zero (b ∷ l) = cond (eqb b 0x22) [] (cond (eqb b 0x5C) (hex_in l ∷ unquoted 3 l) (b ∷ unquoted 0 l))

-- "A label stands in quotes"; "An absent label is `-` without quotes"
unfoldable pub shown_in : List ℕ → Option (List ℕ)
shown_in [] = none
shown_in (b ∷ l) = cond (eqb b 0x22) (some (unquoted 0 l)) none

-- `annotation`, start, end and label, with spaces between
abbrev pub start_in : List ℕ → ℕ
start_in l = number_of (up_to (past l))

abbrev pub end_in : List ℕ → ℕ
end_in l = number_of (up_to (past (past l)))

abbrev pub label_in : List ℕ → Option (List ℕ)
label_in l = shown_in (past (past (past l)))

-- the text of a row's label, decoded; none if the label is absent
unfoldable pub label_text : List ℕ → Annotation → Option (List ℕ)
label_text s r = cond (absent r.texts.label) none (some (decoded_from (part s r.texts.label) 0))
