-- Whole numbers in decimal: digits in ASCII, and the number that digits write.
use Rattle.std.specs.Prelude.{ℕ, zero, suc, ◌+◌, ◌/◌, ◌%◌, cond, List, [], ◌∷◌, ◌++◌, ltb}
use Rattle.json_blocks.specs.Lists.{number_from}

-- the digits of n, which has at most k
unfoldable pub digits_by : ℕ → ℕ → List ℕ
digits_by zero n = []
digits_by (suc k) n = cond (ltb n 10) ((0x30 + n) ∷ []) (digits_by k (n / 10) ++ ((0x30 + n % 10) ∷ []))

-- the digits of n, with no 0 before others; `0` for 0. A number has no more digits than n + 1.
unfoldable pub digits_of : ℕ → List ℕ
digits_of n = digits_by (suc n) n

abbrev pub number_of : List ℕ → ℕ
number_of l = number_from 0 l

-- a word and a number
unfoldable pub field : List ℕ → ℕ → List ℕ
field word n = word ++ digits_of n
