-- Bytes put to the front of lent memory, all or none.
use Rattle.std.specs.Prelude.{ℕ, Bool, cond, List, length, leb}
use Rattle.table.specs.Memory.{written}

abbrev pub has_room : List ℕ → List ℕ → Bool
has_room xs m = leb (length xs) (length m)

-- how many were put
unfoldable pub put_count : List ℕ → List ℕ → ℕ
put_count xs m = cond (has_room xs m) (length xs) 0

-- the memory after it
unfoldable pub put_front : List ℕ → List ℕ → List ℕ
put_front xs m = cond (has_room xs m) (written xs m) m
