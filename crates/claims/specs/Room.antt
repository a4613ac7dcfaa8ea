-- Request P1: "Here and later, claims about reading or converting back take room enough".
use Rattle.std.specs.Prelude.{ℕ, ◌*◌, ◌≤◌, List, length}
use Rattle.table.specs.Rows.{capture_width, annotation_width, Table}

-- room for the rows of t
pub record RoomFor (t : Table) (caps notes : List ℕ) : Type 0 where
  pub captures : capture_width * t.summary.captures ≤ length caps
  pub annotations : annotation_width * t.summary.annotations ≤ length notes
