-- Numbers as bytes, "all little-endian".
use Rattle.std.specs.Prelude.{ℕ, zero, suc, ◌+◌, ◌*◌, ◌/◌, ◌%◌, List, [], ◌∷◌, length, take, drop}

-- x in n bytes, the lowest first
unfoldable pub little_endian : ℕ → ℕ → List ℕ
little_endian zero x = []
little_endian (suc n) x = x % 256 ∷ little_endian n (x / 256)

-- the number that bytes are
unfoldable pub number_of : List ℕ → ℕ
number_of [] = 0
number_of (b ∷ l) = b + 256 * number_of l

-- how many bytes a number has where numbers stand one after the other
abbrev pub number_width : ℕ
number_width = 8

-- n such numbers, off the front
unfoldable pub numbers_from : ℕ → List ℕ → List ℕ
numbers_from zero l = []
numbers_from (suc n) l = number_of (take number_width l) ∷ numbers_from n (drop number_width l)

-- as many as the bytes hold whole
abbrev pub numbers_of : List ℕ → List ℕ
numbers_of l = numbers_from (length l / number_width) l
