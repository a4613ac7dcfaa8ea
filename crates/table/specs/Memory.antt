-- Document 01, "Rows, pieces, cuts": what lent memory holds after a call.
use Rattle.std.specs.Prelude.{ℕ, ◌+◌, ◌*◌, cond, List, [], ◌++◌, length, take, drop, leb}

-- "from the front of the lent memory; beyond them nothing changes"
abbrev pub written : List ℕ → List ℕ → List ℕ
written xs m = xs ++ drop (length xs) m

-- row i of a memory whose rows are w numbers wide; no numbers where the memory has no whole row i
unfoldable pub row : ℕ → List ℕ → ℕ → List ℕ
row w m i = cond (leb (w * i + w) (length m)) (take w (drop (w * i) m)) []

-- the memory with xs as its row i; as it was, if it has no whole row i
unfoldable pub put_row : ℕ → List ℕ → ℕ → List ℕ → List ℕ
put_row w m i xs = cond (leb (w * i + w) (length m)) (take (w * i) m ++ xs ++ drop (w * i + w) m) m
