-- The lines of a text.
use Rattle.std.specs.Prelude.{ℕ, cond, List, [], ◌∷◌, eqb}

-- a byte put before the first line
unfoldable pub before : ℕ → List (List ℕ) → List (List ℕ)
before b [] = (b ∷ []) ∷ []
before b (l ∷ ls) = (b ∷ l) ∷ ls

-- a text cut after each line feed, so that a line ends in its line feed; what stands after the last one, if not empty, is a line too
unfoldable pub split_lines : List ℕ → List (List ℕ)
split_lines [] = []
split_lines (b ∷ t) = cond (eqb b 0x0A) ((b ∷ []) ∷ split_lines t) (before b (split_lines t))
