-- Steps of the definition of specs/Lookup.antt, on plain variables.
use mathlib.Core.Path.{◌≡◌, refl}
use mathlib.Core.Bool.{Bool, true, false, cond}
use mathlib.Core.List.{List, [], ◌∷◌}
use Prim.Native.Nat.{ℕ, zero, suc, ◌≤◌, ◌<◌, ◌+◌}
use native.Mathlib.Omega.{arith}
use native.Mathlib.Numerals.{add-one}
use lib.ListN.{length, get_or, drop, drop_of_length-le}
use Rattle.json_names.specs.Same.{same}
use Rattle.sigmf_texts.specs.Lookup.{index_in}

module _ {A : Type 0} (name : A → List ℕ) where
  -- a place is at most the length
  pub index_most : (xs : List A) (d : List ℕ) → index_in name xs d ≤ length xs
  unfolding index_in
  index_most [] d = omega arith
  index_most (x ∷ xs) d = go (same d (name x)) (index_most xs d) where
    go : (t : Bool) → index_in name xs d ≤ length xs → cond t 0 (suc (index_in name xs d)) ≤ suc (length xs)
    go true h = omega arith
    go false h = omega arith

  -- the row at a place below the length has the name
  pub index_same : (z : A) (xs : List A) (d : List ℕ) → index_in name xs d < length xs → same d (name (get_or xs (index_in name xs d) z)) ≡ true
  unfolding index_in
  index_same z [] d h = absurd (omega arith)
  index_same z (x ∷ xs) d h = go (same d (name x)) refl h (index_same z xs d) where
    go : (t : Bool) → same d (name x) ≡ t → cond t 0 (suc (index_in name xs d)) < suc (length xs)
        → (index_in name xs d < length xs → same d (name (get_or xs (index_in name xs d) z)) ≡ true)
        → same d (name (get_or (x ∷ xs) (cond t 0 (suc (index_in name xs d))) z)) ≡ true
    go true e h k = e
    go false e h k = k (omega arith)

  -- ---- the place among the rows from i on; z stands past the last one
  module _ (z : A) where
    here : (xs : List A) (i : ℕ) (d : List ℕ) → i < length xs → same d (name (get_or xs i z)) ≡ true → index_in name (drop i xs) d ≡ 0
    unfolding index_in
    here [] i d h e = absurd (omega arith)
    here (x ∷ xs) zero d h e = rw e
    here (x ∷ xs) (suc i) d h e = here xs i d (omega arith) e

    later : (xs : List A) (i : ℕ) (d : List ℕ) → i < length xs → same d (name (get_or xs i z)) ≡ false → index_in name (drop i xs) d ≡ suc (index_in name (drop (suc i) xs) d)
    unfolding index_in
    later [] i d h e = absurd (omega arith)
    later (x ∷ xs) zero d h e = rw e
    later (x ∷ xs) (suc i) d h e = later xs i d (omega arith) e

    module _ (xs : List A) (i : ℕ) (d : List ℕ) where
      pub index_here : i < length xs → same d (name (get_or xs i z)) ≡ true → i ≡ i + index_in name (drop i xs) d
      index_here h e = let q = here xs i d h e in omega arith

      pub index_later : i < length xs → same d (name (get_or xs i z)) ≡ false → i + 1 + index_in name (drop (i + 1) xs) d ≡ i + index_in name (drop i xs) d
      index_later h e = rw (later xs i d h e, add-one i) (omega arith)

  pub index_over : (xs : List A) (i : ℕ) (d : List ℕ) → length xs ≤ i → i ≡ i + index_in name (drop i xs) d
  unfolding index_in
  index_over xs i d h = rw (drop_of_length-le xs h) (omega arith)
