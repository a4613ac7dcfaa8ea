-- For the code: the fewest bytes that lead to a state.
use mathlib.Core.Path.{◌≡◌, refl, sym}
use mathlib.Core.Bool.{true}
use mathlib.Core.List.{List, [], ◌∷◌}
use Prim.Native.Nat.{ℕ, zero, suc, ◌≤◌, ◌<◌, ◌+◌, ◌-◌, ◌/◌}
use native.Mathlib.Omega.{arith}
use lib.ListN.{get_or, get_or-eq_default}
use borrow.Author.Tests.{lt-ltb, le-ltb, leb-true}
use lib.Dec.{leb}
use Rattle.json_blocks.specs.Lists.{all}
use Rattle.json_blocks.proofs.BlockLaws.{and_left, and_right}
use Rattle.json_automaton.specs.Reachable.{extra, opened_in, costs, cost}

-- ---- the fewest bytes
pub cost_none : (t : ℕ) → 38 ≤ t → 0 ≡ cost t
unfolding cost costs
cost_none t h = sym (get_or-eq_default costs 0 h)

small_opened : (k o : ℕ) → o < 2 → opened_in k o ≡ 0
unfolding opened_in
small_opened zero o h = refl
small_opened (suc k) o h = rw (lt-ltb o 2 h)

big_opened : (k o : ℕ) → 2 ≤ o → opened_in (suc k) o ≡ opened_in k (o / 2) + extra (o / 2) + 1
unfolding opened_in
big_opened k o h = rw (le-ltb o 2 h)

module _ (n o sum : ℕ) where
  pub opened_stop : (o₀ : ℕ) → o < 2 → sum + opened_in (32 - n) o ≡ opened_in 32 o₀ → sum ≡ opened_in 32 o₀
  opened_stop o₀ h e = let z = small_opened (32 - n) o h in omega (arith, e, z)

  pub opened_end : (o₀ : ℕ) → 32 ≤ n → sum + opened_in (32 - n) o ≡ opened_in 32 o₀ → sum ≡ opened_in 32 o₀
  unfolding opened_in
  opened_end o₀ h e =
      let z : 32 - n ≡ 0 = omega arith in
      let y : sum + 0 ≡ opened_in 32 o₀ = rw z at e in
      omega (arith, y)

  pub opened_on : (o₀ e : ℕ) → n < 32 → 2 ≤ o → e ≡ extra (o / 2) → sum + opened_in (32 - n) o ≡ opened_in 32 o₀
      → sum + (e + 1) + opened_in (32 - (n + 1)) (o / 2) ≡ opened_in 32 o₀
  opened_on o₀ e h l q i =
      let z : 32 - n ≡ suc (32 - (n + 1)) = omega arith in
      let y = big_opened (32 - (n + 1)) o l in
      let x : sum + opened_in (suc (32 - (n + 1))) o ≡ opened_in 32 o₀ = rw z at i in
      omega (arith, y, x, q)

most_at : (n : ℕ) (l : List ℕ) (t : ℕ) → all (λ x. leb x n) l ≡ true → get_or l t 0 ≤ n
unfolding all
most_at n [] t e = omega arith
most_at n (x ∷ l) zero e = leb-true _ _ (and_left (leb x n) _ e)
most_at n (x ∷ l) (suc t) e = most_at n l t (and_right (leb x n) _ e)

pub cost_most : (t : ℕ) → cost t ≤ 10
unfolding all cost costs
cost_most t = most_at 10 costs t refl
