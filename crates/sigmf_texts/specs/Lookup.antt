-- Looking a decoded text d up in a table, "equal, byte for byte". `name` gives the name of a row.
use Rattle.std.specs.Prelude.{cond, List, [], ◌∷◌, ℕ, suc}
use Rattle.json_names.specs.Same.{same}

module _ {A : Type 0} (name : A → List ℕ) where
  -- the number of the row with the name, from 0; how many rows there are if none has it
  unfoldable pub index_in : List A → List ℕ → ℕ
  index_in [] d = 0
  index_in (x ∷ xs) d = cond (same d (name x)) 0 (suc (index_in xs d))
