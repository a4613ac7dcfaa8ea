-- The lower of two answers, and the lowest rule of two lists of rules.
use Prim.Native.Nat.{ℕ, zero, suc, ◌≤◌, ◌<◌, min}
use mathlib.Core.Path.{◌≡◌, refl, sym, ap, ◌∙◌}
use mathlib.Core.Bool.{Bool, true, false, ◌||◌}
use mathlib.Core.List.{List, [], ◌∷◌}
use native.Mathlib.Omega.{arith}
use lib.Dec.{eqb, leb}
use borrow.Author.Tests.{eq-eqb, ne_eqb, eqb-true, eqb-false, le-leb, lt-leb, leb-true, leb-false}
use Rattle.refusals.specs.Refusals.{Rule, rule, lowest, least}

pub least_none : (a b : ℕ) → a ≡ 0 → b ≡ least a b
unfolding least
least_none a b e = rw (eq-eqb a 0 e) refl

pub least_only : (a b : ℕ) → (a ≡ 0 → ⊥) → b ≡ 0 → a ≡ least a b
unfolding least
least_only a b n e = rw (ne_eqb a 0 n, eq-eqb b 0 e) refl

pub least_low : (a b : ℕ) → (a ≡ 0 → ⊥) → (b ≡ 0 → ⊥) → a ≤ b → a ≡ least a b
unfolding least
least_low a b n m h = rw (ne_eqb a 0 n, ne_eqb b 0 m, le-leb a b h) refl

pub least_high : (a b : ℕ) → (a ≡ 0 → ⊥) → (b ≡ 0 → ⊥) → b < a → b ≡ least a b
unfolding least
least_high a b n m h = rw (ne_eqb a 0 n, ne_eqb b 0 m, lt-leb a b h) refl

-- ---- 0 is the unit, and the order does not matter
pub least_unit : (a : ℕ) → a ≡ least a 0
least_unit zero = least_none 0 0 refl
least_unit (suc a) = least_only (suc a) 0 (λ e. omega arith) refl

least_both : (a b : ℕ) → min (suc a) (suc b) ≡ least (suc a) (suc b)
least_both a b = go (leb (suc a) (suc b)) refl where
  go : (t : Bool) → leb (suc a) (suc b) ≡ t → min (suc a) (suc b) ≡ least (suc a) (suc b)
  go true q = let h = leb-true (suc a) (suc b) q in omega (arith, least_low (suc a) (suc b) (λ e. omega arith) (λ e. omega arith) h)
  go false q = let h = leb-false (suc a) (suc b) q in omega (arith, least_high (suc a) (suc b) (λ e. omega arith) (λ e. omega arith) h)

pub least_comm : (a b : ℕ) → least a b ≡ least b a
least_comm zero b = sym (least_none 0 b refl) ∙ least_unit b
least_comm (suc a) zero = sym (least_unit (suc a)) ∙ least_none 0 (suc a) refl
least_comm (suc a) (suc b) = omega (arith, least_both a b, least_both b a)

pub least_assoc : (a b c : ℕ) → least (least a b) c ≡ least a (least b c)
least_assoc zero b c = ap (λ (x : ℕ). least x c) (sym (least_none 0 b refl)) ∙ least_none 0 (least b c) refl
least_assoc (suc a) zero c = ap (λ (x : ℕ). least x c) (sym (least_unit (suc a))) ∙ ap (least (suc a)) (least_none 0 c refl)
least_assoc (suc a) (suc b) zero = sym (least_unit (least (suc a) (suc b))) ∙ ap (least (suc a)) (least_unit (suc b))
least_assoc (suc a) (suc b) (suc c) =
    let e : least (suc a) (suc b) ≡ suc (min a b) = omega (arith, least_both a b) in
    let f : least (suc b) (suc c) ≡ suc (min b c) = omega (arith, least_both b c) in
    rw (e, f) (omega (arith, least_both (min a b) c, least_both a (min b c)))

-- ---- rules of the same ascending numbers: the lowest of those that hold in one list or the other
unfoldable pub rules_of : List ℕ → List Bool → List Rule
rules_of [] bs = []
rules_of (n ∷ ns) [] = []
rules_of (n ∷ ns) (b ∷ bs) = rule n b ∷ rules_of ns bs

unfoldable pub either : List Bool → List Bool → List Bool
either [] cs = cs
either (b ∷ bs) [] = b ∷ bs
either (b ∷ bs) (c ∷ cs) = (b || c) ∷ either bs cs

-- each number is above the one before, the first one above k
unfoldable pub Ascending : ℕ → List ℕ → Type 0
Ascending k [] = Unit {0}
Ascending k (n ∷ ns) = (k < n) × Ascending n ns

above : (k : ℕ) (ns : List ℕ) (bs : List Bool) → Ascending k ns → (lowest (rules_of ns bs) ≡ 0 → ⊥) → k < lowest (rules_of ns bs)
unfolding rules_of Ascending lowest
above k [] bs h f = absurd (f refl)
above k (n ∷ ns) [] h f = absurd (f refl)
above k (n ∷ ns) (true ∷ bs) h f = h.0
above k (n ∷ ns) (false ∷ bs) h f = let i = above n ns bs h.1 f in omega (arith, h.0)

under : (n x : ℕ) → 0 < n → ((x ≡ 0 → ⊥) → n ≤ x) → n ≡ least n x
under n x h f = go (eqb x 0) refl where
  go : (t : Bool) → eqb x 0 ≡ t → n ≡ least n x
  go true q = least_only n x (λ e. omega arith) (eqb-true x 0 q)
  go false q = least_low n x (λ e. omega arith) (eqb-false x 0 q) (f (eqb-false x 0 q))

pub lowest_either : (k : ℕ) (ns : List ℕ) (bs cs : List Bool) → Ascending k ns
    → lowest (rules_of ns (either bs cs)) ≡ least (lowest (rules_of ns bs)) (lowest (rules_of ns cs))
unfolding rules_of either Ascending lowest
lowest_either k [] bs cs h = least_none 0 0 refl
lowest_either k (n ∷ ns) [] cs h = least_none 0 _ refl
lowest_either k (n ∷ ns) (b ∷ bs) [] h = least_unit _
lowest_either k (n ∷ ns) (true ∷ bs) (true ∷ cs) h = under n n (omega (arith, h.0)) (λ _. omega arith)
lowest_either k (n ∷ ns) (true ∷ bs) (false ∷ cs) h =
    under n (lowest (rules_of ns cs)) (omega (arith, h.0)) (λ f. let i = above n ns cs h.1 f in omega arith)
lowest_either k (n ∷ ns) (false ∷ bs) (true ∷ cs) h =
    under n (lowest (rules_of ns bs)) (omega (arith, h.0)) (λ f. let i = above n ns bs h.1 f in omega arith)
    ∙ least_comm n (lowest (rules_of ns bs))
lowest_either k (n ∷ ns) (false ∷ bs) (false ∷ cs) h = lowest_either n ns bs cs h.1
