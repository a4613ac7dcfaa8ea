-- A summary and its numbers: one undoes the other.
use Prim.Native.Nat.{ℕ, zero, suc, ◌≤◌}
use mathlib.Core.Path.{◌≡◌, refl, ap, ◌∙◌}
use mathlib.Core.List.{List, [], ◌∷◌}
use native.Mathlib.Omega.{arith}
use lib.ListN.{length, get_or, take}
use lib.Seq.{take_all}
use Rattle.table.specs.declared.Summary.{Summary}
use Rattle.table.specs.Rows.{rows_from}
use Rattle.table.specs.Summary.{summary_width, summary_numbers, summary_of}

pub summary_back : (t : Summary) → summary_of (summary_numbers t) ≡ t
summary_back t = refl

-- the front of a list is its numbers by place
past_first : (x : ℕ) (l : List ℕ) (n i : ℕ) → rows_from (λ j. get_or (x ∷ l) j 0) n (suc i) ≡ rows_from (λ j. get_or l j 0) n i
unfolding rows_from
past_first x l zero i = refl
past_first x l (suc n) i = ap (λ (y : List ℕ). get_or l i 0 ∷ y) (past_first x l n (suc i))

pub by_place : (l : List ℕ) (n : ℕ) → n ≤ length l → rows_from (λ j. get_or l j 0) n 0 ≡ take n l
unfolding rows_from
by_place l zero h = refl
by_place [] (suc n) h = absurd (omega arith)
by_place (x ∷ l) (suc n) h = ap (λ (y : List ℕ). x ∷ y) (past_first x l n 0 ∙ by_place l n (omega arith))

-- all of n numbers
pub whole_by_place : (l : List ℕ) (n : ℕ) → length l ≡ n → rows_from (λ j. get_or l j 0) n 0 ≡ l
whole_by_place l n e = by_place l n (omega arith) ∙ take_all n l (omega arith)

pub numbers_back : (l : List ℕ) → length l ≡ summary_width → summary_numbers (summary_of l) ≡ l
unfolding rows_from
numbers_back l e = whole_by_place l summary_width e
