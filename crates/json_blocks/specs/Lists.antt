-- Lists: a test of each item, and the number that digits write.
use Rattle.std.specs.Prelude.{Bool, true, false, ◌&&◌, ◌||◌, List, [], ◌∷◌, ℕ, ◌+◌, ◌*◌, ◌-◌}

-- every item is good
unfoldable pub all : {A : Type 0} → (A → Bool) → List A → Bool
all good [] = true
all good (x ∷ l) = good x && all good l

-- some item is
unfoldable pub any : {A : Type 0} → (A → Bool) → List A → Bool
any good [] = false
any good (x ∷ l) = good x || any good l

-- the number that digits write, after those that make n
unfoldable pub number_from : ℕ → List ℕ → ℕ
number_from n [] = n
number_from n (b ∷ l) = number_from (n * 10 + (b - 0x30)) l
