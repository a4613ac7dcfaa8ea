-- What a match on a number says at its last arm.
use mathlib.Core.Path.{◌≡◌}
use Prim.{Unit}
use Prim.Native.Nat.{ℕ, zero, suc, ◌≤◌}
use native.Mathlib.Omega.{arith}

-- k is none of 0 .. n - 1
unfoldable pub Apart : ℕ → ℕ → Type 0
Apart k zero = Unit {0}
Apart k (suc n) = Apart k n × (k ≡ n → ⊥)

pub apart_over : (k n : ℕ) → Apart k n → n ≤ k
unfolding Apart
apart_over k zero h = omega arith
apart_over k (suc n) h =
    let l = apart_over k n h.0 in
    let f = h.1 in
    omega arith
