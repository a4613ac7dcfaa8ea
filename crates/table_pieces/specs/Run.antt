-- For the code: the next run of samples whose bytes follow each other, from the rows that are left, and bytes put into memory.
use Rattle.std.specs.Prelude.{ℕ, ◌+◌, ◌-◌, ◌*◌, Bool, ◌&&◌, cond, List, [], ◌∷◌, ◌++◌, take, drop, leb, ltb}
use Rattle.table.specs.declared.Capture.{Capture}
use Rattle.table_pieces.specs.declared.Run.{Run}
use Rattle.table_pieces.specs.Pieces.{Piece}

-- the header of a capture stands between sample i and a later one
unfoldable pub breaks : ℕ → Capture → Bool
breaks i r = ltb i r.start && ltb 0 r.header

-- the run from sample i on, past h header bytes, where row k is the first that is left: headers up to sample i count; it ends at the next header, or at b
unfoldable pub run_from : ℕ → ℕ → ℕ → ℕ → List Capture → Run
run_from b i h k [] = record { headers = h; end = b; row = k }
run_from b i h k (r ∷ t) =
    cond (leb b r.start) (record { headers = h; end = b; row = k })
    (cond (breaks i r) (record { headers = h; end = r.start; row = k })
    (run_from b i (h + r.header) (k + 1) t))

-- samples i to e, past h header bytes, as one piece
abbrev pub piece : ℕ → ℕ → ℕ → ℕ → ℕ → Piece
piece o w h i e = record { first = (i - o) * w + h; len = (e - i) * w }

-- n bytes of d from place f on, put into m from place p on
abbrev pub put_bytes : List ℕ → ℕ → List ℕ → ℕ → ℕ → List ℕ
put_bytes m p d f n = take p m ++ take n (drop f d) ++ drop (p + n) m
