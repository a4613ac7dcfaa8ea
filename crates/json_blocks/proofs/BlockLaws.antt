-- Bytes tested several at a time: laws for any test, and how blanks go on past such bytes.
use mathlib.Core.Path.{◌≡◌, refl, ◌∙◌}
use mathlib.Core.Bool.{Bool, true, false, not, ◌&&◌}
use mathlib.Core.List.{List}
use Prim.Native.Nat.{ℕ, zero, suc, ◌≤◌, ◌<◌, ◌+◌, ◌-◌}
use native.Mathlib.Omega.{arith}
use lib.ListN.{length}
use lib.Dec.{eqb, ltb, leb}
use borrow.Author.Tests.{leb-true, ltb-true, ltb-false, eqb-true, eqb-false, not-true}
use Rattle.json_blocks.specs.TextBytes.{byte, blank, skip_blanks}
use Rattle.json_blocks.specs.Blocks.{plain_byte, ordinary_byte, space_byte, all_at, block_at, GoodTo}
use Rattle.json_blocks.proofs.ByteLaws.{inside, no_blank, skip_on}

pub and_left : (a b : Bool) → (a && b) ≡ true → a ≡ true
and_left true b e = refl
and_left false b e = e

pub and_right : (a b : Bool) → (a && b) ≡ true → b ≡ true
and_right true b e = e
and_right false b e = let z : ◌≡◌ {A = ℕ} 0 1 = cc in absurd (omega arith)

pub and_assoc : (a b c : Bool) → ((a && b) && c) ≡ (a && (b && c))
and_assoc true b c = refl
and_assoc false b c = refl

pub and_true : (a : Bool) → a ≡ (a && true)
and_true true = refl
and_true false = refl

-- ---- any test
module _ (good : ℕ → Bool) (s : List ℕ) where
  -- one byte more, k of the n being tested
  pub all_on : (i n k : ℕ) → k < n → (ok next : Bool) → next ≡ (ok && good (byte s (i + k)))
      → (next && all_at good (n - (k + 1)) s (i + (k + 1))) ≡ (ok && all_at good (n - k) s (i + k))
  unfolding all_at
  all_on i n k l ok next e =
      let m : n - k ≡ suc (n - (k + 1)) = omega arith in
      let p : i + (k + 1) ≡ i + k + 1 = omega arith in
      rw (m, p, e) (and_assoc ok _ _)

  pub all_end : (i n k : ℕ) → n ≤ k → (ok : Bool) → ok ≡ (ok && all_at good (n - k) s (i + k))
  unfolding all_at
  all_end i n k l ok = let m : n - k ≡ 0 = omega arith in rw m (and_true ok)

  pub all_first : (n i : ℕ) → all_at good (suc n) s i ≡ true → good (byte s i) ≡ true
  unfolding all_at
  all_first n i h = and_left (good (byte s i)) _ h

  pub all_later : (n i : ℕ) → all_at good (suc n) s i ≡ true → all_at good n s (i + 1) ≡ true
  unfolding all_at
  all_later n i h = and_right (good (byte s i)) _ h

  pub all_each : (n i : ℕ) → all_at good n s i ≡ true → (j : ℕ) → i ≤ j → j < i + n → good (byte s j) ≡ true
  all_each zero i h j l m = absurd (omega arith)
  all_each (suc n) i h j l m = go (eqb i j) refl (λ k. all_each n (i + 1) (all_later n i h) j k (omega arith)) where
    go : (t : Bool) → eqb i j ≡ t → (i + 1 ≤ j → good (byte s j) ≡ true) → good (byte s j) ≡ true
    go true e f = let q : i ≡ j = eqb-true _ _ e in rw (← q) (all_first n i h)
    go false e f = let q = eqb-false i j e in f (omega arith)

  -- n bytes that are good each
  pub all_of : (n i : ℕ) → ((j : ℕ) → i ≤ j → j < i + n → good (byte s j) ≡ true) → all_at good n s i ≡ true
  unfolding all_at
  all_of zero i h = refl
  all_of (suc n) i h = rw (h i (omega arith) (omega arith)) (all_of n (i + 1) (λ j l m. h j (omega arith) (omega arith)))

  -- a block of eight
  module _ (i : ℕ) (h : block_at good s i ≡ true) where
    pub block_room : i + 8 ≤ length s
    block_room = leb-true _ _ (and_left (leb (i + 8) (length s)) _ h)

    pub block_good : all_at good 8 s i ≡ true
    block_good = and_right (leb (i + 8) (length s)) _ h

  -- what good bytes leave as it is, n of them leave as it is
  pub all_pass : {A : Type 0} (f : ℕ → A) → ((i : ℕ) → i < length s → good (byte s i) ≡ true → f (i + 1) ≡ f i)
      → (n i : ℕ) → i + n ≤ length s → all_at good n s i ≡ true → f (i + n) ≡ f i
  all_pass f g zero i l h = let p : i + 0 ≡ i = omega arith in rw p
  all_pass f g (suc n) i l h =
      let p : i + suc n ≡ i + 1 + n = omega arith in
      rw p (all_pass f g n (i + 1) (omega arith) (all_later n i h) ∙ g i (omega arith) (all_first n i h))

-- ---- blanks
space_blank : (b : ℕ) → space_byte b ≡ true → blank b ≡ true
unfolding space_byte blank
space_blank b h = rw h

pub feed_pass : (s : List ℕ) (i b : ℕ) → b ≡ byte s i → b ≡ 0x0A → skip_blanks s (i + 1) ≡ skip_blanks s i
unfolding blank
feed_pass s i b e h = skip_on blank no_blank s i b e (rw h)

-- ---- bytes that are no quote and no backslash
pub record Ordinary (b : ℕ) : Type 0 where
  pub quote : b ≡ 0x22 → ⊥
  pub slash : b ≡ 0x5C → ⊥

pub ordinary_is : (b : ℕ) → ordinary_byte b ≡ true → Ordinary b
unfolding ordinary_byte
ordinary_is b h = record {
  quote = eqb-false b 0x22 (not-true _ (and_left _ (not (eqb b 0x5C)) h));
  slash = eqb-false b 0x5C (not-true _ (and_right (not (eqb b 0x22)) _ h));
}

-- ---- plain bytes
pub record Plain (b : ℕ) : Type 0 where
  pub low : 0x20 ≤ b
  pub high : b < 0x80
  pub quote : b ≡ 0x22 → ⊥
  pub slash : b ≡ 0x5C → ⊥

pub plain_is : (b : ℕ) → plain_byte b ≡ true → Plain b
unfolding plain_byte
plain_is b e =
    let l : (leb 0x20 b && ltb b 0x80 && not (eqb b 0x22)) ≡ true = and_left _ (not (eqb b 0x5C)) e in
    let m : (leb 0x20 b && ltb b 0x80) ≡ true = and_left _ (not (eqb b 0x22)) l in
    record {
      low = leb-true 0x20 b (and_left (leb 0x20 b) _ m);
      high = ltb-true b 0x80 (and_right (leb 0x20 b) _ m);
      quote = eqb-false b 0x22 (not-true _ (and_right (leb 0x20 b && ltb b 0x80) _ l));
      slash = eqb-false b 0x5C (not-true _ (and_right (leb 0x20 b && ltb b 0x80 && not (eqb b 0x22)) _ e));
    }

pub no_plain : plain_byte 0 ≡ false
unfolding plain_byte
no_plain = refl

module _ (s : List ℕ) where
  module _ (i b : ℕ) (e : b ≡ byte s i) (h : plain_byte b ≡ true) where
    pub plain_inside : i < length s
    plain_inside = let p = plain_is b h in inside s i b e (omega (arith, p.low))

-- ---- bytes up to a place
module _ (good : ℕ → Bool) (s : List ℕ) where
  -- a block more
  pub good_more : (at i : ℕ) → GoodTo good s at i → block_at good s i ≡ true → GoodTo good s at (i + 8)
  good_more at i p h = record { onward = omega (arith, p.onward); each = λ j l m. go j (ltb j i) refl l m } where
    go : (j : ℕ) (t : Bool) → ltb j i ≡ t → at ≤ j → j < i + 8 → good (byte s j) ≡ true
    go j true e l m = p.each j l (ltb-true _ _ e)
    go j false e l m = all_each good s 8 i (block_good good s i h) j (ltb-false _ _ e) m

  -- what each good byte leaves as it is, good bytes leave as it is
  module _ {A : Type 0} (f : ℕ → A) (same : (i : ℕ) → good (byte s i) ≡ true → f (i + 1) ≡ f i) where
    passed : (n at : ℕ) → ((i : ℕ) → at ≤ i → i < at + n → good (byte s i) ≡ true) → f (at + n) ≡ f at
    passed zero at h = let p : at + 0 ≡ at = omega arith in rw p
    passed (suc n) at h =
        let p : at + suc n ≡ at + 1 + n = omega arith in
        rw p (passed n (at + 1) (λ i l m. h i (omega arith) (omega arith)) ∙ same at (h at (omega arith) (omega arith)))

    pub good_pass : (at r : ℕ) → GoodTo good s at r → f r ≡ f at
    good_pass at r p =
        let l = p.onward in
        let e : r ≡ at + (r - at) = omega arith in
        rw e (passed (r - at) at (λ i l m. p.each i l (omega arith)))

-- blanks go on past spaces
pub spaces_pass : (s : List ℕ) (at r : ℕ) → GoodTo space_byte s at r → skip_blanks s r ≡ skip_blanks s at
spaces_pass s = good_pass space_byte s (skip_blanks s) (λ i h. skip_on blank no_blank s i (byte s i) refl (space_blank (byte s i) h))
