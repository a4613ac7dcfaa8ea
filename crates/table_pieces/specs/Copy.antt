-- Document 01, "Rows, pieces, cuts": the bytes of samples, and copies; 18, 19, 20.
use Rattle.std.specs.Prelude.{ℕ, zero, suc, ◌-◌, ◌&&◌, cond, List, [], ◌∷◌, ◌++◌, length, take, drop, leb, eqb}
use Rattle.table.specs.Memory.{written}
use Rattle.table.specs.Rows.{Table}
use Rattle.table.specs.Locate.{place_in}
use Rattle.table.specs.Table.{well_formed}
use Rattle.table.specs.declared.Wrote.{Wrote}
use Rattle.table.specs.Wrote.{wrote}
use Rattle.table_pieces.specs.Pieces.{Piece, inside}

-- "Sample i has the W bytes from its start"
abbrev pub sample_from : (ℕ → ℕ) → ℕ → List ℕ → ℕ → List ℕ
sample_from f w d i = take w (drop (f i) d)

-- those of k samples from sample i on, in order
unfoldable pub samples_from : (ℕ → ℕ) → ℕ → List ℕ → ℕ → ℕ → List ℕ
samples_from f w d zero i = []
samples_from f w d (suc k) i = sample_from f w d i ++ samples_from f w d k (suc i)

-- the bytes of sample i, and those of samples a to b
abbrev pub sample_in : Table → List ℕ → ℕ → List ℕ
sample_in t d i = sample_from (place_in t) t.summary.width d i

abbrev pub bytes_in : Table → List ℕ → ℕ → ℕ → List ℕ
bytes_in t d a b = samples_from (place_in t) t.summary.width d (b - a) a

-- "the bytes of the pieces in order"
unfoldable pub bytes_of : List ℕ → List Piece → List ℕ
bytes_of d [] = []
bytes_of d (p ∷ t) = take p.len (drop p.first d) ++ bytes_of d t

-- "a lent dataset, whose length must be D (else 18)"; room: how many bytes the lent output holds
unfoldable pub copy_answer : Table → List ℕ → ℕ → ℕ → ℕ → Wrote
copy_answer t d a b room =
    cond (well_formed t && eqb (length d) t.summary.size)
    (cond (inside t.summary a b)
    (cond (leb (length (bytes_in t d a b)) room)
    (wrote 0 (length (bytes_in t d a b)))
    (wrote 20 0))
    (wrote 19 0))
    (wrote 18 0)

-- the lent output m after the call
abbrev pub copy_memory : Table → List ℕ → ℕ → ℕ → List ℕ → List ℕ
copy_memory t d a b m = cond (eqb (copy_answer t d a b (length m)).refusal 0) (written (bytes_in t d a b) m) m
