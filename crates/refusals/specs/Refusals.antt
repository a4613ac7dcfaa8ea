-- Document 01, "Refusal numbers": "The answer is the smallest number whose condition holds"; "0 is acceptance".
use Rattle.std.specs.Prelude.{◌≡◌, ◌⊎◌, Bool, true, false, cond, not, ◌&&◌, List, [], ◌∷◌, ℕ, ◌≤◌, eqb, leb}

-- a refusal's number, and whether its condition holds
pub record Rule : Type 0 where
  pub number : ℕ
  pub holds : Bool

abbrev pub rule : ℕ → Bool → Rule
rule n b = record { number = n; holds = b }

-- of rules in the order of their numbers
unfoldable pub lowest : List Rule → ℕ
lowest [] = 0
lowest (r ∷ rs) = cond r.holds r.number (lowest rs)

-- the lower of two answers, 0 being none
unfoldable pub least : ℕ → ℕ → ℕ
least a b = cond (eqb a 0) b (cond (eqb b 0) a (cond (leb a b) a b))

-- ---- what is said of an answer's number n
-- no condition holds
unfoldable pub none_holds : List Rule → Bool
none_holds [] = true
none_holds (r ∷ rs) = not r.holds && none_holds rs

-- the condition with the number n holds
unfoldable pub Holds : ℕ → List Rule → Type 0
Holds n [] = ⊥
Holds n (r ∷ rs) = ((r.number ≡ n) × (r.holds ≡ true)) ⊎ Holds n rs

-- "the smallest number whose condition holds"
pub record Smallest (n : ℕ) (rs : List Rule) : Type 0 where
  pub holds : Holds n rs
  pub least : (m : ℕ) → Holds m rs → n ≤ m

-- accepted exactly when no condition holds, else refused with the smallest number whose condition holds
pub record ByRules (n : ℕ) (rs : List Rule) : Type 0 where
  pub exactly : eqb n 0 ≡ none_holds rs
  pub smallest : (n ≡ 0 → ⊥) → Smallest n rs

-- ---- where a request fixes another order: rules in the order in which they are judged
-- the first condition that holds has the number n
unfoldable pub First : ℕ → List Rule → Type 0
First n [] = ⊥
First n (r ∷ rs) = ((r.holds ≡ true) × (r.number ≡ n)) ⊎ ((r.holds ≡ false) × First n rs)

-- accepted exactly when no condition holds, else refused with the number of the first whose condition holds
pub record ByOrder (n : ℕ) (rs : List Rule) : Type 0 where
  pub exactly : eqb n 0 ≡ none_holds rs
  pub first : (n ≡ 0 → ⊥) → First n rs
