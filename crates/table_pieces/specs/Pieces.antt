-- Document 01, "Rows, pieces, cuts": pieces; 18, 19, 20.
use Rattle.std.specs.Prelude.{ℕ, zero, suc, ◌+◌, ◌-◌, ◌*◌, Bool, ◌&&◌, cond, List, [], ◌∷◌, length, get_or, leb, eqb}
use Rattle.table.specs.declared.Capture.{Capture}
use Rattle.table.specs.declared.Summary.{Summary}
use Rattle.table.specs.Memory.{written, row}
use Rattle.table.specs.Rows.{rest, flat, Table, captures_of}
use Rattle.table.specs.Samples.{place}
use Rattle.table.specs.Table.{well_formed}
use Rattle.table.specs.declared.Wrote.{Wrote}
use Rattle.table.specs.Wrote.{wrote}

-- "each first byte and length"
pub record Piece : Type 0 where
  pub first : ℕ
  pub len : ℕ

abbrev pub piece_width : ℕ
piece_width = 2

abbrev pub piece_numbers : Piece → List ℕ
piece_numbers p = p.first ∷ p.len ∷ []

abbrev pub piece_of : List ℕ → Piece
piece_of l = record { first = get_or l 0 0; len = get_or l 1 0 }

-- the first n pieces of a memory, read back
abbrev pub pieces_read : List ℕ → ℕ → List Piece
pieces_read m n = rest (λ i. piece_of (row piece_width m i)) n 0

-- a piece before others: "Two pieces touch if one ends where the next begins; joined, their lengths add"
unfoldable pub put : Piece → List Piece → List Piece
put p [] = p ∷ []
put p (q ∷ t) = cond (eqb (p.first + p.len) q.first) (record { first = p.first; len = p.len + q.len } ∷ t) (p ∷ q ∷ t)

-- k samples from sample i on, where sample j has the w bytes from f j: the bytes of each, touching pieces joined
unfoldable pub runs : (ℕ → ℕ) → ℕ → ℕ → ℕ → List Piece
runs f w zero i = []
runs f w (suc k) i = put (record { first = f i; len = w }) (runs f w k (suc i))

-- "Pieces of [a, b)": "maximal runs of consecutive bytes"
abbrev pub pieces_of : ℕ → ℕ → List Capture → ℕ → ℕ → List Piece
pieces_of o w rs a b = runs (place o w rs) w (b - a) a

abbrev pub pieces_in : Table → ℕ → ℕ → List Piece
pieces_in t a b = pieces_of t.summary.offset t.summary.width (captures_of t) a b

-- pieces followed by others, a touching pair joined
unfoldable pub followed : List Piece → List Piece → List Piece
followed [] ys = ys
followed (p ∷ []) ys = put p ys
followed (p ∷ q ∷ t) ys = p ∷ followed (q ∷ t) ys

-- "O ≤ a ≤ b ≤ O + N"
unfoldable pub inside : Summary → ℕ → ℕ → Bool
inside t a b = leb t.offset a && leb a b && leb b (t.offset + t.samples)

-- room: how many numbers the lent memory holds
unfoldable pub pieces_answer : Table → ℕ → ℕ → ℕ → Wrote
pieces_answer t a b room =
    cond (well_formed t)
    (cond (inside t.summary a b)
    (cond (leb (piece_width * length (pieces_in t a b)) room)
    (wrote 0 (length (pieces_in t a b)))
    (wrote 20 0))
    (wrote 19 0))
    (wrote 18 0)

-- the lent memory m after the call: the pieces at its front if accepted, else as it was
abbrev pub pieces_memory : Table → ℕ → ℕ → List ℕ → List ℕ
pieces_memory t a b m = cond (eqb (pieces_answer t a b (length m)).refusal 0) (written (flat piece_numbers (pieces_in t a b)) m) m
