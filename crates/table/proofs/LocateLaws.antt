-- Laws of the place of a sample.
use Prim.Native.Nat.{ℕ, ◌+◌, ◌-◌, ◌*◌, ◌≤◌, ◌<◌, ◌^◌}
use mathlib.Core.Path.{◌≡◌, sym, ◌∙◌}
use mathlib.Core.Bool.{Bool, true, false, cond}
use mathlib.Core.List.{List, [], ◌∷◌}
use native.Mathlib.Omega.{arith}
use native.Mathlib.Nat.{zero-add, mul-le-mul_right}
use mir.Syntax.{w64}
use mir.Val.{Fits}
use lib.Dec.{leb}
use borrow.Author.Tests.{le-leb, lt-leb, leb-true, ltb-true}
use Rattle.table.specs.declared.Capture.{Capture}
use Rattle.table.specs.declared.Summary.{Summary}
use Rattle.table.specs.Rows.{capture_at, rest, captures, table}
use Rattle.table.specs.Samples.{header_sum, headers_to, place}
use Rattle.table.specs.Table.{own_entries}
use Rattle.table.specs.Judge.{Laid}
use Rattle.table.specs.Locate.{is_sample, place_in}
use Rattle.table.proofs.Bools.{and_left, and_right}
use Rattle.table.proofs.RowLaws.{rest_at, rest_none}

-- ---- headers up to a sample
pub headers_le : (rs : List Capture) (i : ℕ) → headers_to rs i ≤ header_sum (own_entries rs)
unfolding headers_to header_sum
headers_le [] i = omega arith
headers_le (r ∷ t) i = go (leb r.start i) (headers_le t i)
  where
    go : (b : Bool) → headers_to t i ≤ header_sum (own_entries t) → cond b r.header 0 + headers_to t i ≤ r.header + header_sum (own_entries t)
    go true h = omega arith
    go false h = omega arith

pub headers_in : (r : Capture) (t : List Capture) (j : ℕ) → r.start ≤ j → headers_to (r ∷ t) j ≡ r.header + headers_to t j
unfolding headers_to
headers_in r t j h = rw (le-leb _ _ h)

pub headers_out : (r : Capture) (t : List Capture) (j : ℕ) → j < r.start → headers_to (r ∷ t) j ≡ headers_to t j
unfolding headers_to
headers_out r t j h = rw (lt-leb _ _ h, zero-add)

pub headers_next : (l : List ℕ) (n k i : ℕ) (x : Capture) → x ≡ capture_at l k → k < n
    → headers_to (rest (capture_at l) n k) i ≡ cond (leb x.start i) x.header 0 + headers_to (rest (capture_at l) n (k + 1)) i
unfolding headers_to
headers_next l n k i x e lt = rw (rest_at (capture_at l) n k x e lt)

pub headers_none : (l : List ℕ) (n k i : ℕ) → n ≤ k → headers_to (rest (capture_at l) n k) i ≡ 0
unfolding headers_to
headers_none l n k i h = rw (rest_none (capture_at l) n k h)

-- ---- is it a sample
record Sample (t : Summary) (i : ℕ) : Type 0 where
  low : t.offset ≤ i
  high : i < t.offset + t.samples

sample : (t : Summary) (i : ℕ) → is_sample t i ≡ true → Sample t i
unfolding is_sample
sample t i e = record { low = leb-true _ _ (and_left (leb t.offset i) _ e); high = ltb-true _ _ (and_right (leb t.offset i) _ e) }

-- ---- its place
module _ (t : Summary) (l : List ℕ) (L : Laid t l) where
  pub laid_sum : header_sum (own_entries (captures l t.captures)) < 2 ^ 63
  laid_sum = omega (arith, L)

  module _ (i : ℕ) (g : is_sample t i ≡ true) where
    pub place_low : t.offset ≤ i
    place_low = (sample t i g).low

    pub place_mul : (i - t.offset) * t.width < 2 ^ 63
    place_mul =
        let S = sample t i g in
        let m : i - t.offset ≤ t.samples = omega arith in
        omega (arith, mul-le-mul_right t.width m, L)

    pub place_add : (p h : ℕ) → p ≡ (i - t.offset) * t.width → h ≡ headers_to (captures l t.captures) i → Fits w64 (p + h)
    place_add p h y z =
        let S = sample t i g in
        let m : i - t.offset ≤ t.samples = omega arith in
        omega (arith, mul-le-mul_right t.width m, headers_le (captures l t.captures) i, L)

    pub place_is : (p h : ℕ) → p ≡ (i - t.offset) * t.width → h ≡ headers_to (captures l t.captures) i → p + h ≡ place_in (table t l []) i
    unfolding place
    place_is p h y z = rw (y, z)

pub truly : (b X : Bool) → b ≡ X → b ≡ true → X ≡ true
truly b X e f = sym e ∙ f
