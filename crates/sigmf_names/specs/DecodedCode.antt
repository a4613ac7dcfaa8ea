-- For the code: a byte that is decoded without looking at its unit.
use Rattle.std.specs.Prelude.{Bool, ◌&&◌, List, ℕ, length, eqb, ltb}
use Rattle.json_blocks.specs.TextBytes.{byte}
use Rattle.json_blocks.specs.Blocks.{ordinary_byte}
use Rattle.json_strings.specs.declared.Position.{Position}

-- the byte at a position stands for itself
unfoldable pub direct_at : List ℕ → Position → Bool
direct_at s p = eqb p.passed 0 && ltb p.at (length s) && ordinary_byte (byte s p.at)
