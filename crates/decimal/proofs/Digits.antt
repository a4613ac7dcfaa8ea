-- The digits of a number: one at a time, read back, how many, and what they are.
use Prim.Native.Nat.{ℕ, zero, suc, ◌+◌, ◌-◌, ◌*◌, ◌/◌, ◌%◌, ◌^◌, ◌≤◌, ◌<◌}
use mathlib.Core.Path.{◌≡◌, refl, sym, ap, ◌∙◌}
use mathlib.Core.Bool.{Bool, true, false, ◌&&◌}
use mathlib.Core.List.{List, [], ◌∷◌, ◌++◌}
use native.Mathlib.Omega.{arith}
use native.Mathlib.Nat.{pow-succ'}
use native.Mathlib.Decide.{dec_lt}
use lib.ListN.{length, get_or, length-append, get_or-append}
use borrow.Author.Tests.{lt-ltb, le-ltb, le-leb}
use Rattle.json_blocks.specs.TextBytes.{within}
use Rattle.json_blocks.specs.Lists.{all, number_from}
use Rattle.json_tokens.specs.Number.{digit}
use Rattle.decimal.specs.Decimal.{digits_by, digits_of, number_of}

-- ---- one digit more
by_small : (k n : ℕ) → n < 10 → digits_by (suc k) n ≡ (0x30 + n) ∷ []
unfolding digits_by
by_small k n h = rw (lt-ltb _ _ h)

by_large : (k n : ℕ) → 10 ≤ n → digits_by (suc k) n ≡ digits_by k (n / 10) ++ ((0x30 + n % 10) ∷ [])
unfolding digits_by
by_large k n h = rw (le-ltb _ _ h)

-- how many are allowed does not matter, once they are enough
by_same : (k j n : ℕ) → n < k → n < j → digits_by k n ≡ digits_by j n
by_same zero j n h l = absurd (omega arith)
by_same (suc k) zero n h l = absurd (omega arith)
by_same (suc k) (suc j) n h l =
    elim (dec_lt n 10) [
      | yes q ↦ by_small k n q ∙ sym (by_small j n q)
      | no q ↦ by_large k n (omega arith) ∙ ap (λ (x : List ℕ). x ++ ((0x30 + n % 10) ∷ [])) (by_same k j (n / 10) (omega arith) (omega arith)) ∙ sym (by_large j n (omega arith))
    ]

pub digits_small : (n : ℕ) → n < 10 → digits_of n ≡ (0x30 + n) ∷ []
unfolding digits_of
digits_small n h = by_small n n h

pub digits_large : (n : ℕ) → 10 ≤ n → digits_of n ≡ digits_of (n / 10) ++ ((0x30 + n % 10) ∷ [])
unfolding digits_of
digits_large n h = by_large n n h ∙ ap (λ (x : List ℕ). x ++ ((0x30 + n % 10) ∷ [])) (by_same n (suc (n / 10)) (n / 10) (omega arith) (omega arith))

-- what holds of one digit, and of a number's digits if of those of a tenth of it, holds of all
pub digits_rec : (P : ℕ → List ℕ → Type 0) → ((n : ℕ) → n < 10 → P n ((0x30 + n) ∷ [])) → ((n : ℕ) (l : List ℕ) → 10 ≤ n → P (n / 10) l → P n (l ++ ((0x30 + n % 10) ∷ [])))
    → (n : ℕ) → P n (digits_of n)
unfolding digits_of
digits_rec P one more n = go (suc n) n (omega arith)
  where
    go : (k n : ℕ) → n < k → P n (digits_by k n)
    go zero n h = absurd (omega arith)
    go (suc k) n h =
        elim (dec_lt n 10) [
          | yes q ↦ rw (by_small k n q) (one n q)
          | no q ↦ rw (by_large k n (omega arith)) (more n (digits_by k (n / 10)) (omega arith) (go k (n / 10) (omega arith)))
        ]

-- ---- the digits read back are the number
pub number_append : (n b : ℕ) (l : List ℕ) → number_from n (l ++ (b ∷ [])) ≡ number_from n l * 10 + (b - 0x30)
unfolding number_from
number_append n b [] = refl
number_append n b (c ∷ l) = number_append (n * 10 + (c - 0x30)) b l

pub digits_back : (n : ℕ) → number_of (digits_of n) ≡ n
unfolding number_from
digits_back = digits_rec (λ n l. number_of l ≡ n) (λ n h. omega arith) (λ n l h e. number_append 0 (0x30 + n % 10) l ∙ omega (arith, e))

-- ---- each byte is a digit
digit_is : (d : ℕ) → d < 10 → digit (0x30 + d) ≡ true
unfolding within
digit_is d h =
    let p : 0x30 ≤ 0x30 + d = omega arith in
    let q : 0x30 + d ≤ 0x39 = omega arith in
    rw (le-leb _ _ p, le-leb _ _ q)

all_append : (good : ℕ → Bool) (k l : List ℕ) → all good k ≡ true → all good l ≡ true → all good (k ++ l) ≡ true
unfolding all
all_append good [] l h q = q
all_append good (b ∷ k) l h q = go (good b) h (λ e. all_append good k l e q)
  where
    go : (t : Bool) → t && all good k ≡ true → (all good k ≡ true → all good (k ++ l) ≡ true) → t && all good (k ++ l) ≡ true
    go true e f = f e
    go false e f = e

pub digits_all : (n : ℕ) → all digit (digits_of n) ≡ true
unfolding all
digits_all =
    digits_rec (λ n l. all digit l ≡ true) (λ n h. rw (digit_is n h))
    (λ n l h e. all_append digit l ((0x30 + n % 10) ∷ []) e (rw (digit_is (n % 10) (omega arith))))

-- ---- how many
pub digits_some : (n : ℕ) → 1 ≤ length (digits_of n)
digits_some = digits_rec (λ n l. 1 ≤ length l) (λ n h. omega arith) (λ n l h e. omega (arith, length-append l ((0x30 + n % 10) ∷ [])))

-- the first is no 0, unless the number is 0
pub digits_first : (n : ℕ) → get_or (digits_of n) 0 0 ≡ 0x30 → n ≡ 0
digits_first n e = (digits_rec (λ n l. (1 ≤ length l) × (get_or l 0 0 ≡ 0x30 → n ≡ 0)) (λ n h. (omega arith, λ e. omega arith))
    (λ n l h e. (omega (arith, length-append l ((0x30 + n % 10) ∷ [])), λ q. absurd (omega (arith, e.1 (sym (get_or-append l ((0x30 + n % 10) ∷ []) 0 0 e.0) ∙ q)))))
    n).1 e

-- at most j + 1, if the number is below that power of 10
below : (j n : ℕ) → n < 10 ^ suc j → length (digits_of n) ≤ suc j
below zero n h = rw (digits_small n (omega arith)) (omega arith)
below (suc j) n h =
    elim (dec_lt n 10) [
      | yes q ↦ rw (digits_small n q) (omega arith)
      | no q ↦
          let p : n / 10 < 10 ^ suc j = omega (arith, h, pow-succ' 10 (suc j)) in
          rw (digits_large n (omega arith)) (omega (arith, length-append (digits_of (n / 10)) ((0x30 + n % 10) ∷ []), below j (n / 10) p))
    ]

pub digits_most : (n : ℕ) → n < 2 ^ 64 → length (digits_of n) ≤ 20
digits_most n h = below 19 n (omega arith)
