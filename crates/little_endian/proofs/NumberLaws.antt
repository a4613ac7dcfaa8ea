-- Numbers as bytes: how many, read back, and written back.
use Prim.Native.Nat.{ℕ, zero, suc, ◌+◌, ◌*◌, ◌/◌, ◌%◌, ◌^◌, ◌<◌}
use mathlib.Core.Path.{◌≡◌, refl, ap}
use mathlib.Core.List.{List, [], ◌∷◌}
use native.Mathlib.Omega.{arith}
use native.Mathlib.Nat.{pow-succ'}
use lib.ListN.{length, get_or, take, drop}
use Rattle.little_endian.specs.LittleEndian.{little_endian, number_of, number_width, numbers_from}

-- ---- one number
pub length_bytes : (n x : ℕ) → length (little_endian n x) ≡ n
unfolding little_endian
length_bytes zero x = refl
length_bytes (suc n) x = ap suc (length_bytes n (x / 256))

pub number_back : (n x : ℕ) → x < 256 ^ n → number_of (little_endian n x) ≡ x
unfolding little_endian number_of
number_back zero x h = omega arith
number_back (suc n) x h =
    let p : x / 256 < 256 ^ n = omega (arith, h, pow-succ' 256 n) in
    omega (arith, number_back n (x / 256) p)

-- each item is a byte
abbrev pub Bytes : List ℕ → Type 0
Bytes l = (i : ℕ) → get_or l i 0 < 256

pub bytes_back : (l : List ℕ) → Bytes l → little_endian (length l) (number_of l) ≡ l
unfolding little_endian number_of
bytes_back [] h = refl
bytes_back (b ∷ l) h =
    let p : (b + 256 * number_of l) % 256 ≡ b = omega (arith, h 0) in
    let q : (b + 256 * number_of l) / 256 ≡ number_of l = omega (arith, h 0) in
    rw (p, q, bytes_back l (λ i. h (suc i)))

-- parts of bytes are bytes
pub bytes_take : (n : ℕ) (l : List ℕ) → Bytes l → Bytes (take n l)
bytes_take zero l h i = omega arith
bytes_take (suc n) [] h i = omega arith
bytes_take (suc n) (b ∷ l) h zero = h 0
bytes_take (suc n) (b ∷ l) h (suc i) = bytes_take n l (λ j. h (suc j)) i

pub bytes_drop : (n : ℕ) (l : List ℕ) → Bytes l → Bytes (drop n l)
bytes_drop zero l h = h
bytes_drop (suc n) [] h = h
bytes_drop (suc n) (b ∷ l) h = bytes_drop n l (λ i. h (suc i))

-- ---- numbers one after the other
pub numbers_length : (n : ℕ) (l : List ℕ) → length (numbers_from n l) ≡ n
unfolding numbers_from
numbers_length zero l = refl
numbers_length (suc n) l = ap suc (numbers_length n (drop number_width l))
