-- Laws of the functions that count and put digits.
use Prim.Native.Nat.{ℕ, suc, ◌+◌, ◌-◌, ◌/◌, ◌%◌, ◌^◌, ◌≤◌, ◌<◌}
use mathlib.Core.Path.{◌≡◌, refl, sym, ap, ◌∙◌}
use mathlib.Core.List.{List, [], ◌∷◌, ◌++◌}
use native.Mathlib.Omega.{arith}
use lib.ListN.{length, get_or, take, drop, set, length-append, length-set, take-append-drop}
use lib.Seq.{take_at, drop_at, take-take, take-length, drop-length, length-take-le, set_split, take-append-le, drop-cons, get_or_at, get_or-take}
use Rattle.table.specs.Memory.{written}
use Rattle.decimal.specs.Decimal.{digits_of, field}
use Rattle.decimal.proofs.Digits.{digits_small, digits_large, digits_some, digits_most}

-- ---- how many digits a number below 10000 has
pub one_digit : (m : ℕ) → m < 10 → length (digits_of m) ≡ 1
one_digit m h = ap length (digits_small m h)

one_more_lem : (m : ℕ) → 10 ≤ m → length (digits_of m) ≡ length (digits_of (m / 10)) + 1
one_more_lem m h = ap length (digits_large m h) ∙ length-append (digits_of (m / 10)) ((0x30 + m % 10) ∷ [])

pub two_digits : (m : ℕ) → 10 ≤ m → m < 100 → length (digits_of m) ≡ 2
two_digits m l h = omega (arith, one_more_lem m l, one_digit (m / 10) (omega arith))

pub three_digits : (m : ℕ) → 100 ≤ m → m < 1000 → length (digits_of m) ≡ 3
three_digits m l h = omega (arith, one_more_lem m (omega arith), two_digits (m / 10) (omega arith) (omega arith))

pub four_digits : (m : ℕ) → 1000 ≤ m → m < 10000 → length (digits_of m) ≡ 4
four_digits m l h = omega (arith, one_more_lem m (omega arith), three_digits (m / 10) (omega arith) (omega arith))

-- ---- counting: c digits were passed, and m is left
module _ (n m c : ℕ) (e : c + length (digits_of m) ≡ length (digits_of n)) where
  pub count_on : 10000 ≤ m → (c + 4) + length (digits_of (m / 10000)) ≡ length (digits_of n)
  count_on h =
      let q : m / 10 / 10 / 10 / 10 ≡ m / 10000 = omega arith in
      rw (sym q) (omega (arith, e, one_more_lem m (omega arith), one_more_lem (m / 10) (omega arith), one_more_lem (m / 10 / 10) (omega arith), one_more_lem (m / 10 / 10 / 10) (omega arith)))

  pub count_most : n < 2 ^ 64 → c < 20
  count_most f = omega (arith, e, digits_some m, digits_most n f)

-- ---- writing from the last digit: those of D past place i are written, m has the others
pub record Back (n : ℕ) (out₀ out : List ℕ) (m i : ℕ) : Type 0 where
  pub room : length (digits_of n) ≤ length out₀
  pub long : length out ≡ length out₀
  pub inside : i < length (digits_of n)
  pub left : digits_of m ≡ take (suc i) (digits_of n)
  pub back : out ≡ take (suc i) out₀ ++ (drop (suc i) (digits_of n) ++ drop (length (digits_of n)) out₀)

pub some_digit : (n c : ℕ) → c ≡ length (digits_of n) → 1 ≤ c
some_digit n c e = omega (arith, digits_some n)

pub back_begin : (n c : ℕ) (out₀ : List ℕ) → c ≡ length (digits_of n) → c ≤ length out₀ → Back n out₀ out₀ n (c - 1)
back_begin n c out₀ e h =
    let p = digits_some n in
    let k : suc (c - 1) ≡ length (digits_of n) = omega arith in
    record {
      room = omega arith;
      long = refl;
      inside = omega arith;
      left = rw k (sym (take-length (digits_of n)));
      back = rw (k, drop-length (digits_of n)) (sym (take-append-drop (length (digits_of n)) out₀));
    }

module _ (n : ℕ) (out₀ out : List ℕ) (m i : ℕ) (S : Back n out₀ out m i) where
  front : length (take (suc i) out₀) ≡ suc i
  front = length-take-le (suc i) out₀ (omega (arith, S.room, S.inside))

  many : length (digits_of m) ≡ suc i
  many = ap length S.left ∙ length-take-le (suc i) (digits_of n) (omega (arith, S.inside))

  pub back_inside : i < length out
  back_inside = omega (arith, S.long, S.room, S.inside)

  back_long : (d : ℕ) → length (set out i d) ≡ length out₀
  back_long d = length-set out i d ∙ S.long

  -- its last digit stored
  pub back_put : (l : List ℕ) (d : ℕ) → digits_of m ≡ l ++ (d ∷ []) → set out i d ≡ take i out₀ ++ (drop i (digits_of n) ++ drop (length (digits_of n)) out₀)
  back_put l d e = set_split out i d back_inside ∙ rw (one, two, three)
    where
      l_long : length l ≡ i
      l_long = omega (arith, many, ap length e ∙ length-append l (d ∷ []))

      one : take i out ≡ take i out₀
      one = rw S.back (take-append-le i (take (suc i) out₀) (drop (suc i) (digits_of n) ++ drop (length (digits_of n)) out₀) (omega (arith, front)) ∙ take-take i (suc i) out₀ (omega arith))

      two : drop (suc i) out ≡ drop (suc i) (digits_of n) ++ drop (length (digits_of n)) out₀
      two = rw S.back (drop_at (take (suc i) out₀) (drop (suc i) (digits_of n) ++ drop (length (digits_of n)) out₀) (suc i) front)

      last : get_or (digits_of n) i 0 ≡ d
      last = sym (get_or-take (suc i) (digits_of n) i 0 (omega arith)) ∙ ap (λ (x : List ℕ). get_or x i 0) (sym S.left ∙ e) ∙ get_or_at l d [] 0 i l_long

      three : drop i (digits_of n) ≡ d ∷ drop (suc i) (digits_of n)
      three = drop-cons (digits_of n) i 0 S.inside ∙ ap (λ (x : ℕ). x ∷ drop (suc i) (digits_of n)) last

  pub back_more : 10 ≤ m → 1 ≤ i
  back_more h = omega (arith, many, digits_some (m / 10), ap length (digits_large m h) ∙ length-append (digits_of (m / 10)) ((0x30 + m % 10) ∷ []))

  pub back_on : (d : ℕ) → 10 ≤ m → d ≡ 0x30 + m % 10 → Back n out₀ (set out i d) (m / 10) (i - 1)
  back_on d h z =
      let q = back_more h in
      let k : suc (i - 1) ≡ i = omega arith in
      let e : digits_of m ≡ digits_of (m / 10) ++ (d ∷ []) = digits_large m h ∙ rw z in
      let g : length (digits_of (m / 10)) ≡ i = omega (arith, many, ap length e ∙ length-append (digits_of (m / 10)) (d ∷ [])) in
      record {
        room = S.room;
        long = back_long d;
        inside = omega (arith, S.inside);
        left = rw k (sym (take_at (digits_of (m / 10)) (d ∷ []) i g) ∙ ap (take i) (sym e ∙ S.left) ∙ take-take i (suc i) (digits_of n) (omega arith));
        back = rw k (back_put (digits_of (m / 10)) d e);
      }

  pub back_end : (d : ℕ) → m < 10 → d ≡ 0x30 + m % 10 → set out i d ≡ written (digits_of n) out₀
  back_end d h z =
      let k : m % 10 ≡ m = omega arith in
      let e : digits_of m ≡ [] ++ (d ∷ []) = digits_small m h ∙ rw (z, k) in
      let i0 : i ≡ 0 = omega (arith, many, ap length e) in
      back_put [] d e ∙ rw i0

-- ---- two digits
pub two_some : (n : ℕ) (out₀ out : List ℕ) (m i : ℕ) → Back n out₀ out m i → 100 ≤ m → 1 ≤ i
two_some n out₀ out m i S h = back_more n out₀ out m i S (omega arith)

module _ (n : ℕ) (out₀ out : List ℕ) (m i : ℕ) (S : Back n out₀ out m i) (d : ℕ) where
  module _ (h : 100 ≤ m) (z : d ≡ 0x30 + m % 100 % 10) where
    second : Back n out₀ (set out i d) (m / 10) (i - 1)
    second = back_on n out₀ out m i S d (omega arith) (omega arith)

    pub second_inside : i - 1 < length (set out i d)
    second_inside = back_inside n out₀ (set out i d) (m / 10) (i - 1) second

    pub two_more : 2 ≤ i
    two_more = omega (arith, back_more n out₀ (set out i d) (m / 10) (i - 1) second (omega arith))

    pub two_on : (f : ℕ) → f ≡ 0x30 + m % 100 / 10 % 10 → Back n out₀ (set (set out i d) (i - 1) f) (m / 100) (i - 2)
    two_on f y =
        let p : m / 10 / 10 ≡ m / 100 = omega arith in
        let q : i - 1 - 1 ≡ i - 2 = omega arith in
        rw (sym p, sym q) (back_on n out₀ (set out i d) (m / 10) (i - 1) second f (omega arith) (omega arith))

  module _ (h : 10 ≤ m) (z : d ≡ 0x30 + m % 10) where
    next : Back n out₀ (set out i d) (m / 10) (i - 1)
    next = back_on n out₀ out m i S d h z

    pub next_inside : i - 1 < length (set out i d)
    next_inside = back_inside n out₀ (set out i d) (m / 10) (i - 1) next

    pub two_end : (f : ℕ) → m < 100 → f ≡ 0x30 + m / 10 % 10 → set (set out i d) (i - 1) f ≡ written (digits_of n) out₀
    two_end f l y = back_end n out₀ (set out i d) (m / 10) (i - 1) next f (omega arith) y

-- ---- a word and a number
pub field_long : (word : List ℕ) (n : ℕ) → length (field word n) ≡ length word + length (digits_of n)
unfolding field
field_long word n = length-append word (digits_of n)
