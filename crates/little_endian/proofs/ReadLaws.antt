-- Numbers read eight bytes at a time.
use Rattle.std.proofs.Common.{ℕ, zero, suc, ◌/◌, ◌≤◌, ◌<◌, ◌≡◌, List, [], ◌∷◌, sym, arith, length, get_or, take, drop, w64}
use Rattle.std.specs.Int.{from_le_bytes}
use Rattle.std.specs.Simd.{first_chunks}
use lib.ListN.{get_or-eq_default}
use Rattle.little_endian.specs.LittleEndian.{number_of, number_width, numbers_from, numbers_of}
use Rattle.little_endian.proofs.NumberLaws.{numbers_length}

-- the number of eight bytes, or of fewer
eight_bytes : (l : List ℕ) → from_le_bytes w64 (take number_width l) ≡ number_of (take number_width l)
unfolding number_of
eight_bytes [] = omega arith
eight_bytes (a ∷ []) = omega arith
eight_bytes (a ∷ b ∷ []) = omega arith
eight_bytes (a ∷ b ∷ c ∷ []) = omega arith
eight_bytes (a ∷ b ∷ c ∷ d ∷ []) = omega arith
eight_bytes (a ∷ b ∷ c ∷ d ∷ e ∷ []) = omega arith
eight_bytes (a ∷ b ∷ c ∷ d ∷ e ∷ f ∷ []) = omega arith
eight_bytes (a ∷ b ∷ c ∷ d ∷ e ∷ f ∷ g ∷ []) = omega arith
eight_bytes (a ∷ b ∷ c ∷ d ∷ e ∷ f ∷ g ∷ h ∷ l) = omega arith

chunk_at : (n : ℕ) (l : List ℕ) (i : ℕ) (d : List ℕ) → i < n → from_le_bytes w64 (get_or (first_chunks number_width n l) i d) ≡ get_or (numbers_from n l) i 0
unfolding numbers_from
chunk_at zero l i d h = absurd (omega arith)
chunk_at (suc n) l zero d h = eight_bytes l
chunk_at (suc n) l (suc i) d h = chunk_at n (drop number_width l) i d (omega arith)

-- number i of bytes, from their chunks
pub number_in : (l : List ℕ) (i : ℕ) (d : List ℕ) (chunks : List (List ℕ)) → chunks ≡ first_chunks number_width (length l / number_width) l → i < length l / number_width
    → from_le_bytes w64 (get_or chunks i d) ≡ get_or (numbers_of l) i 0
number_in l i d chunks e h = rw e (chunk_at (length l / number_width) l i d h)

pub number_out : (l : List ℕ) (i : ℕ) → length l / number_width ≤ i → 0 ≡ get_or (numbers_of l) i 0
number_out l i h = sym (get_or-eq_default (numbers_of l) 0 (omega (arith, numbers_length (length l / number_width) l)))
