-- For the code: the same bytes in two strings, and a string read with its key.
use Rattle.json_blocks.specs.declared.Cursor.{Cursor}
use Rattle.std.specs.Prelude.{◌≡◌, Bool, true, ◌&&◌, List, ℕ, zero, suc, ◌+◌, ◌<◌, eqb, None, Option, Some}
use Rattle.json_blocks.specs.TextBytes.{byte}
use Rattle.json_characters.specs.String.{string_at}
use Rattle.json_blocks.specs.Blocks.{ordinary_byte}
use Rattle.json_names.specs.declared.Run.{Run}
use Rattle.json_strings.specs.Decode.{decoded_from}
use Rattle.json_names.specs.Keys.{key_from, key_of}

-- the same n bytes stand at two places, each for itself
unfoldable pub alike : ℕ → List ℕ → ℕ → List ℕ → ℕ → Bool
alike zero s i t j = true
alike (suc n) s i t j = (eqb (byte s i) (byte t j) && ordinary_byte (byte s i)) && alike n s (i + 1) t (j + 1)

-- a string that was read, with its key
abbrev pub keyed : Option Cursor → ℕ → Option (Cursor × ℕ)
keyed (Some c) k = Some (c, k)
keyed None k = None

-- the string goes on past the plain bytes, and so does its key
pub record PlainRun (s : List ℕ) (at : ℕ) (r : Run) : Type 0 where
  pub string : string_at s r.at ≡ string_at s at
  pub key : key_from 16777619 r.key (decoded_from s r.at) ≡ key_of (decoded_from s at)
  pub small : r.key < 4294967296
