-- The decoded text a character at a time.
use Rattle.json_blocks.specs.declared.Cursor.{Cursor}
use Rattle.std.specs.Prelude.{cond, List, [], ◌∷◌, ◌++◌, ℕ, ◌+◌, ◌-◌, length, get_or, take, eqb, None, Option, Some}
use Rattle.json_blocks.specs.TextBytes.{byte, slice}
use Rattle.json_characters.specs.String.{character_at}
use Rattle.json_strings.specs.declared.Step.{Step}
use Rattle.json_strings.specs.Decode.{unit_at, unit_bytes, unit_end, ends_string, decoded_from}

-- four bytes: those of a list, and 0 past its end
abbrev pub four : List ℕ → List ℕ
four l = get_or l 0 0 ∷ (get_or l 1 0 ∷ (get_or l 2 0 ∷ (get_or l 3 0 ∷ [])))

abbrev pub step_of : List ℕ → ℕ → Step
step_of l j = record { bytes = four l; len = length l; at = j }

-- raw bytes that are read as one character are one step; a byte that begins none is one by itself
abbrev pub raw_step : List ℕ → ℕ → Option Cursor → Step
raw_step s at (Some c) = step_of (slice s at (c.at - at)) c.at
raw_step s at None = step_of (byte s at ∷ []) (at + 1)

-- The next character from a place on: its decoded bytes, and the place past it; no bytes where the string ends. An escape, or a
-- pair of them, is one step.
unfoldable pub step_at : List ℕ → ℕ → Step
step_at s at =
    cond (ends_string s at) (step_of [] at)
    (cond (eqb (byte s at) 0x5C) (step_of (unit_bytes s at (unit_at s at)) (unit_end at (unit_at s at)))
    (raw_step s at (character_at s at)))

-- what a step says: its bytes, and then the decoded text past it
abbrev pub stepped : List ℕ → Step → List ℕ
stepped s r = take r.len r.bytes ++ decoded_from s r.at
