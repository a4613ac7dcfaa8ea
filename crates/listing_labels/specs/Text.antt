-- Document 01, "Rows, pieces, cuts": what stands at a text's place, in the lent metadata s.
use Rattle.std.specs.Prelude.{ℕ, ◌+◌, ◌-◌, min, Bool, ◌&&◌, ◌||◌, List, length, leb, eqb}
use Rattle.json_blocks.specs.TextBytes.{byte, slice}
use Rattle.json_strings.specs.Decode.{is_body}
use Rattle.table.specs.declared.Place.{Place}
use Rattle.table.specs.Place.{absent}

-- the raw text: "that part of the caller's own metadata"
abbrev pub part : List ℕ → Place → List ℕ
part s p = slice s p.at p.len

-- where in s the part at a place begins: there, or at the end of s beyond it
abbrev pub place_from : List ℕ → Place → ℕ
place_from s p = min p.at (length s)

-- "place has a `"` byte just before and just after it in the lent metadata and holds a JSON string body in valid UTF-8"
unfoldable pub stands : List ℕ → Place → Bool
stands s p = leb 1 p.at && eqb (byte s (p.at - 1)) 0x22 && eqb (byte s (p.at + p.len)) 0x22 && is_body (part s p)

-- "each present .. place": an absent text is good
unfoldable pub text_good : List ℕ → Place → Bool
text_good s p = absent p || stands s p
