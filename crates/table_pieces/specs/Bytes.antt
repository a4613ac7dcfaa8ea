-- What the laws of pieces say: bytes among pieces, bytes of samples, ascending pieces.
use Rattle.std.specs.Prelude.{ℕ, ◌+◌, ◌≤◌, ◌<◌, ◌≡◌, ◌⊎◌, List, [], ◌∷◌}
use Rattle.table.specs.declared.Capture.{Capture}
use Rattle.table_pieces.specs.Pieces.{Piece}

-- byte x is one of the bytes that pieces name
unfoldable pub Among : ℕ → List Piece → Type 0
Among x [] = ⊥
Among x (p ∷ t) = ((p.first ≤ x) × (x < p.first + p.len)) ⊎ Among x t

-- byte x is one of the w bytes of sample `sample` of samples a to b, where sample j starts at byte f j
pub record OfSample (f : ℕ → ℕ) (w a b x : ℕ) : Type 0 where
  pub sample : ℕ
  pub low : a ≤ sample
  pub high : sample < b
  pub from : f sample ≤ x
  pub upto : x < f sample + w

-- r is one of the rows
unfoldable pub RowIn : Capture → List Capture → Type 0
RowIn r [] = ⊥
RowIn r (q ∷ t) = (q ≡ r) ⊎ RowIn r t

-- byte x is one of the header bytes of a capture, which stand before its first byte
pub record OfHeader (r : Capture) (x : ℕ) : Type 0 where
  pub from : r.first ≤ x + r.header
  pub upto : x < r.first

-- pieces of at least one byte, each of which ends before the next begins: none touches another
unfoldable pub Ascending : List Piece → Type 0
Ascending [] = Unit {0}
Ascending (p ∷ []) = 1 ≤ p.len
Ascending (p ∷ q ∷ t) = (1 ≤ p.len) × (p.first + p.len < q.first) × Ascending (q ∷ t)
