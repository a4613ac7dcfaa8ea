-- Lists of bytes where they stand in a text, and bytes that end a number: what the theorems on reading by place speak of.
use Rattle.std.specs.Prelude.{◌≡◌, false, List, ◌++◌, ℕ, ◌+◌, length, drop}
use Rattle.json_tokens.specs.Number.{digit}

-- the list xs stands in s from i up to j
pub record Stands (s : List ℕ) (i : ℕ) (xs : List ℕ) (j : ℕ) : Type 0 where
  pub end : j ≡ i + length xs
  pub rest : drop i s ≡ xs ++ drop j s

-- a byte that no number goes on with
pub record Ends (b : ℕ) : Type 0 where
  pub not_digit : digit b ≡ false
  pub not_point : b ≡ 0x2E → ⊥
  pub not_e : b ≡ 0x65 → ⊥
  pub not-E : b ≡ 0x45 → ⊥
