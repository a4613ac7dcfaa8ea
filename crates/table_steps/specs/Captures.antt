-- Document 01, "Where samples lie": which capture a sample is in.
use Rattle.std.specs.Prelude.{ℕ, ◌+◌, ◌≤◌, ◌<◌, ◌≡◌, List}
use Rattle.table.specs.declared.Capture.{Capture}
use Rattle.table.specs.Rows.{capture_at, Table, captures_of}
use Rattle.table.specs.Table.{own_entries}
use Rattle.table.specs.Samples.{next_start}
use Rattle.table.specs.Locate.{place_in}

-- sample i is in capture r
pub record Covers (r : Capture) (i : ℕ) : Type 0 where
  pub from : r.start ≤ i
  pub upto : i < r.end

-- sample i is in exactly one of the first n capture rows of a memory
pub record InOne (caps : List ℕ) (n i : ℕ) : Type 0 where
  pub row : ℕ
  pub some : row < n
  pub covers : Covers (capture_at caps row) i
  pub only : (j : ℕ) → j < n → Covers (capture_at caps j) i → j ≡ row

-- where the first capture starts; without captures, the end of the recording
abbrev pub first_start : Table → ℕ
first_start t = next_start (t.summary.offset + t.summary.samples) (own_entries (captures_of t))

-- "Samples before the first capture have bytes and no capture; every later one is in exactly one"
pub record Captured (t : Table) (i : ℕ) : Type 0 where
  -- its W bytes stand before the trailer
  pub bytes : place_in t i + t.summary.width + t.summary.trailing ≤ t.summary.size
  pub before : i < first_start t → (k : ℕ) → k < t.summary.captures → Covers (capture_at t.captures k) i → ⊥
  pub later : first_start t ≤ i → InOne t.captures t.summary.captures i
