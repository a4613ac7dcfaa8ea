-- Demand 3, for a recording that was read: pieces join, cuts compose, and one claim about the list of steps. The calls and what is read back off
-- their memories stand in crates/table_steps/specs/Calls.antt, what holds of each in Ranges.antt beside it.
use Rattle.std.specs.Prelude.{◌≡◌, true, false, List, ℕ, ◌+◌, ◌≤◌, ◌<◌}
use Rattle.table_pieces.specs.Pieces.{inside}
use Rattle.table_steps.specs.Captures.{Captured}
use Rattle.table_steps.specs.Calls.{Held}
use Rattle.table_steps.specs.Ranges.{Pieces, Room, Joined, Cuts, Copies, Outside}
use Rattle.table_steps.specs.Steps.{Step, Demand3}
use Rattle.reader.specs.Reading.{table_read}

-- what the reader leaves, with the dataset
abbrev pub recording_read : List ℕ → ℕ → List ℕ → List ℕ → List ℕ → Held
recording_read s d caps notes bytes = record {
  table = table_read s d caps notes;
  bytes = bytes;
}

pub record WholeDemand3 (z : Held) : Type 0 where
  -- "Samples before the first capture have bytes and no capture; every later one is in exactly one"
  pub captures : (i : ℕ) → z.table.summary.offset ≤ i → i < z.table.summary.offset + z.table.summary.samples → Captured z.table i
  -- "O ≤ a ≤ b ≤ O + N": the pieces of a to b name the samples' bytes, and a call with room writes them
  pub pieces : (a b : ℕ) → inside z.table.summary a b ≡ true → Pieces z a b
  -- pieces of a to b followed by those of b to c, a touching pair joined, are those of a to c
  pub join : (a b c : ℕ) → inside z.table.summary a b ≡ true → inside z.table.summary b c ≡ true → (l m n : List ℕ) → Room z a b l → Room z b c m → Room z a c n
      → Joined z a b c l m n
  -- a cut of a cut is the direct cut, and a copy of a copy the direct copy
  pub cuts : (a b : ℕ) → inside z.table.summary a b ≡ true → Cuts z a b
  pub copies : (a b : ℕ) → inside z.table.summary a b ≡ true → Copies z a b
  pub outside : (a b : ℕ) → inside z.table.summary a b ≡ false → Outside z a b
  -- "This is one claim about the list, not one for each call"
  pub steps : (ks : List Step) → Demand3 z ks
