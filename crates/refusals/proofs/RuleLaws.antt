-- The lowest of rules in the order of their numbers is the smallest number whose condition holds, and of rules in any order the number of
-- the first whose condition holds.
use Prim.Native.Nat.{ℕ, ◌≤◌, ◌<◌}
use mathlib.Core.Path.{◌≡◌, refl, sym, ◌∙◌}
use mathlib.Core.Logic.{inl, inr, ⊎_elim}
use mathlib.Core.Bool.{Bool, true, false, cond, not, ◌&&◌, false≢true}
use mathlib.Core.List.{List, [], ◌∷◌, ◌++◌}
use native.Mathlib.Omega.{arith}
use lib.Dec.{eqb, ltb}
use borrow.Author.Tests.{lt-ltb, ltb-true, ne_eqb, eqb-true, eqb-false}
use Rattle.refusals.specs.Refusals.{Rule, rule, lowest, none_holds, Holds, Smallest, ByRules, First, ByOrder}

-- the numbers are above n and rise
unfoldable pub rising : ℕ → List Rule → Bool
rising n [] = true
rising n (r ∷ rs) = ltb n r.number && rising r.number rs

both_hold : (n k : ℕ) (b : Bool) → ltb n k && b ≡ true → (n < k) × (b ≡ true)
both_hold n k b e = go (ltb n k) refl e where
  go : (c : Bool) → ltb n k ≡ c → c && b ≡ true → (n < k) × (b ≡ true)
  go true q f = (ltb-true n k q, f)
  go false q f = absurd (false≢true f)

rises : (n : ℕ) (r : Rule) (rs : List Rule) → rising n (r ∷ rs) ≡ true → (n < r.number) × (rising r.number rs ≡ true)
unfolding rising
rises n r rs e = both_hold n r.number (rising r.number rs) e

above : (n : ℕ) (rs : List Rule) → rising n rs ≡ true → (m : ℕ) → Holds m rs → n < m
unfolding Holds
above n [] e m h = absurd h
above n (r ∷ rs) e m h =
    let p = rises n r rs e in
    ⊎_elim (λ q. omega (arith, p.0, q.0)) (λ q. omega (arith, p.0, above r.number rs p.1 m q)) h

-- no rule has the number 0, which is acceptance
unfoldable pub numbered : List Rule → Bool
numbered [] = true
numbered (r ∷ rs) = ltb 0 r.number && numbered rs

has_number : (r : Rule) (rs : List Rule) → numbered (r ∷ rs) ≡ true → (0 < r.number) × (numbered rs ≡ true)
unfolding numbered
has_number r rs e = both_hold 0 r.number (numbered rs) e

rising_numbered : (n : ℕ) (rs : List Rule) → rising n rs ≡ true → numbered rs ≡ true
unfolding numbered
rising_numbered n [] e = refl
rising_numbered n (r ∷ rs) e =
    let p = rises n r rs e in
    rw (lt-ltb 0 r.number (omega (arith, p.0)), rising_numbered r.number rs p.1) refl

-- acceptance
accepts_none : (rs : List Rule) → numbered rs ≡ true → eqb (lowest rs) 0 ≡ none_holds rs
unfolding lowest none_holds
accepts_none [] e = refl
accepts_none (r ∷ rs) e = let p = has_number r rs e in go r.holds p.0 (accepts_none rs p.1) where
  go : (b : Bool) → 0 < r.number → eqb (lowest rs) 0 ≡ none_holds rs → eqb (cond b r.number (lowest rs)) 0 ≡ not b && none_holds rs
  go true l h = ne_eqb r.number 0 (λ z. omega (arith, z, l))
  go false l h = h

-- a refusal
smallest : (n : ℕ) (rs : List Rule) → rising n rs ≡ true → (lowest rs ≡ 0 → ⊥) → Smallest (lowest rs) rs
unfolding lowest Holds
smallest n [] e h = absurd (h refl)
smallest n (r ∷ rs) e h = go r.holds refl h (smallest r.number rs (rises n r rs e).1)
  where
    go : (b : Bool) → r.holds ≡ b → (cond b r.number (lowest rs) ≡ 0 → ⊥) → ((lowest rs ≡ 0 → ⊥) → Smallest (lowest rs) rs) → Smallest (cond b r.number (lowest rs)) (r ∷ rs)
    go true q k f = record {
      holds = inl (refl, q);
      least = λ m. ⊎_elim (λ p. omega (arith, p.0)) (λ p. omega (arith, above r.number rs (rises n r rs e).1 m p));
    }
    go false q k f = record {
      holds = inr (f k).holds;
      least = λ m. ⊎_elim (λ p. absurd (false≢true (sym q ∙ p.1))) (λ p. (f k).least m p);
    }

pub lowest_by : (n : ℕ) (rs : List Rule) → rising n rs ≡ true → ByRules (lowest rs) rs
lowest_by n rs e = record { exactly = accepts_none rs (rising_numbered n rs e); smallest = smallest n rs e }

first : (rs : List Rule) → (lowest rs ≡ 0 → ⊥) → First (lowest rs) rs
unfolding lowest First
first [] h = absurd (h refl)
first (r ∷ rs) h = go r.holds refl h (first rs) where
  go : (b : Bool) → r.holds ≡ b → (cond b r.number (lowest rs) ≡ 0 → ⊥) → ((lowest rs ≡ 0 → ⊥) → First (lowest rs) rs)
      → First (cond b r.number (lowest rs)) (r ∷ rs)
  go true q k f = inl (q, refl)
  go false q k f = inr (q, f k)

pub lowest_order : (rs : List Rule) → numbered rs ≡ true → ByOrder (lowest rs) rs
lowest_order rs e = record { exactly = accepts_none rs e; first = first rs }

-- ---- lists of rules that agree as far as those before them do not hold
pub data Agree : List Rule → List Rule → Type 0 where
  over : Agree [] []
  step : {n : ℕ} {b c : Bool} {rs ks : List Rule} → b ≡ c → (c ≡ false → Agree rs ks) → Agree (rule n b ∷ rs) (rule n c ∷ ks)

pub agree_lowest : {rs ks : List Rule} → Agree rs ks → lowest rs ≡ lowest ks
unfolding lowest
agree_lowest over = refl
agree_lowest (step {n} {b} {c} {rs} {ks} e f) = rw e (go c refl (λ h. agree_lowest (f h))) where
  go : (t : Bool) → c ≡ t → (c ≡ false → lowest rs ≡ lowest ks) → cond c n (lowest rs) ≡ cond c n (lowest ks)
  go true h g = rw h
  go false h g = rw h (g h)

-- ---- the first rule
pub skip : (n : ℕ) (b : Bool) (rs : List Rule) → b ≡ false → lowest (rule n b ∷ rs) ≡ lowest rs
unfolding lowest
skip n b rs e = rw e

pub stop : (n : ℕ) (b : Bool) (rs : List Rule) → b ≡ true → lowest (rule n b ∷ rs) ≡ n
unfolding lowest
stop n b rs e = rw e

-- ---- where no rule refuses, none holds
-- the condition with the number n
unfoldable pub condition : ℕ → List Rule → Bool
condition n [] = false
condition n (r ∷ rs) = cond (eqb r.number n) r.holds (condition n rs)

pub unheld : (k : ℕ) (rs : List Rule) → rising k rs ≡ true → lowest rs ≡ 0 → (n : ℕ) → condition n rs ≡ false
unfolding lowest condition
unheld k [] h e n = refl
unheld k (r ∷ rs) h e n = go r.holds refl e (eqb r.number n) (λ z. unheld r.number rs (rises k r rs h).1 z n) where
  go : (b : Bool) → r.holds ≡ b → cond b r.number (lowest rs) ≡ 0 → (c : Bool) → (lowest rs ≡ 0 → condition n rs ≡ false)
      → cond c r.holds (condition n rs) ≡ false
  go true q e c f = absurd (omega (arith, (rises k r rs h).0))
  go false q e true f = q
  go false q e false f = f e

-- ---- rules one after the other
-- a refusal stays what it is when rules follow
pub lowest_first : (rs qs : List Rule) → (lowest rs ≡ 0 → ⊥) → lowest (rs ++ qs) ≡ lowest rs
unfolding lowest
lowest_first [] qs h = absurd (h refl)
lowest_first (r ∷ t) qs h = go r.holds h (lowest_first t qs)
  where
    go : (b : Bool) → (cond b r.number (lowest t) ≡ 0 → ⊥) → ((lowest t ≡ 0 → ⊥) → lowest (t ++ qs) ≡ lowest t)
        → cond b r.number (lowest (t ++ qs)) ≡ cond b r.number (lowest t)
    go true k f = refl
    go false k f = f k

pub lowest_before : (rs qs : List Rule) → lowest (rs ++ qs) ≡ 0 → lowest rs ≡ 0
lowest_before rs qs e = go (eqb (lowest rs) 0) refl where
  go : (b : Bool) → eqb (lowest rs) 0 ≡ b → lowest rs ≡ 0
  go true q = eqb-true (lowest rs) 0 q
  go false q = absurd (eqb-false (lowest rs) 0 q (sym (lowest_first rs qs (eqb-false (lowest rs) 0 q)) ∙ e))

-- acceptance leaves the rules that follow
pub lowest_then : (n : ℕ) (rs qs : List Rule) → rising n rs ≡ true → lowest rs ≡ 0 → lowest (rs ++ qs) ≡ lowest qs
unfolding lowest
lowest_then n [] qs h e = refl
lowest_then n (r ∷ t) qs h e = let p = rises n r t h in go r.holds e (lowest_then r.number t qs p.1) where
  go : (b : Bool) → cond b r.number (lowest t) ≡ 0 → (lowest t ≡ 0 → lowest (t ++ qs) ≡ lowest qs)
      → cond b r.number (lowest (t ++ qs)) ≡ lowest qs
  go true e f = absurd (omega (arith, (rises n r t h).0))
  go false e f = f e

-- rules that rise from n on answer no number up to n but 0
pub never : (m n : ℕ) → 0 < m → m ≤ n → (rs : List Rule) → rising n rs ≡ true → lowest rs ≡ m → ⊥
never m n h l rs e f = let p = above n rs e (lowest rs) (smallest n rs e (λ z. omega arith)).holds in omega arith
