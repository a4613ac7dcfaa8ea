-- For the code: what the lines are written in.
use Rattle.std.specs.Prelude.{ℕ, List, ◌++◌}
use Rattle.json_blocks.specs.TextBytes.{ascii}
use Rattle.table.specs.declared.Place.{Place}
use Rattle.decimal.specs.Decimal.{field}
use Rattle.listing_text.specs.Shown.{shown_text}
use Rattle.listing.specs.Lines.{feed}

-- two words, each with its number
abbrev pub two_fields : List ℕ → ℕ → List ℕ → ℕ → List ℕ
two_fields w a v b = field w a ++ field v b

-- a text between a space and a line feed
abbrev pub last_text : List ℕ → Place → List ℕ
last_text s p = ascii " " ++ shown_text s p ++ feed
