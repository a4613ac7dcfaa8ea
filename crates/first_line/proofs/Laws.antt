-- Laws of the first line.
use Prim.Native.Nat.{ℕ, ◌+◌, ◌-◌, ◌*◌, ◌^◌, ◌≤◌, ◌<◌}
use mathlib.Core.Path.{◌≡◌, refl, sym, ap, ◌∙◌}
use mathlib.Core.Bool.{Bool, true, false, ◌&&◌}
use mathlib.Core.List.{List, [], ◌∷◌}
use native.Mathlib.Omega.{arith}
use native.Mathlib.Numerals.{add-one}
use lib.ListN.{take, drop, drop_of_length-le, length-take}
use lib.Seq.{drop-cons, get_or-take}
use lib.Dec.{eqb}
use borrow.Author.Tests.{le-leb, lt-leb, eq-eqb, ne_eqb}
use Rattle.std.proofs.lemmas.Bool.Decides.{nat_tests}
use Rattle.json_blocks.specs.TextBytes.{byte, within}
use Rattle.json_blocks.specs.Lists.{number_from}
use Rattle.json_tokens.specs.Number.{digit, skip_digits}
use Rattle.json_blocks.proofs.ByteLaws.{within_above, good_inside, skip_on, skip_out, skip_onward}
use Rattle.json_tokens.proofs.NumberLaws.{no_digit}
use Rattle.refusals.specs.Answer.{accepted, refused}
use Rattle.first_line.specs.FirstLine.{digit_count, leading_number, is_first_line, line, first_line}

-- ---- digits and other bytes
pub digit_is : (b : ℕ) → 0x30 ≤ b → b ≤ 0x39 → digit b ≡ true
unfolding within
digit_is b l h = grind (arith, nat_tests)

pub digit_below : (b : ℕ) → b < 0x30 → digit b ≡ false
unfolding within
digit_below b h = grind (arith, nat_tests)

pub digit_above : (b : ℕ) → 0x39 < b → digit b ≡ false
unfolding within
digit_above b h = grind (arith, nat_tests)

and_none : (a : Bool) → a && false ≡ false
and_none true = refl
and_none false = refl

-- ---- lines of another form
module _ (s : List ℕ) where
  too_few : digit_count s < 1 → refused 1 ≡ first_line s
  unfolding first_line is_first_line within
  too_few h = rw (lt-leb _ _ h)

  too_many_lem : 20 < digit_count s → refused 1 ≡ first_line s
  unfolding first_line is_first_line
  too_many_lem h = rw (within_above 1 20 (digit_count s) h)

  no_feed : (byte s (digit_count s) ≡ 0x0A → ⊥) → refused 1 ≡ first_line s
  unfolding first_line is_first_line
  no_feed h = rw (ne_eqb _ _ h, and_none (within 1 20 (digit_count s)))

  too_large : 2 ^ 64 - 1 < leading_number s → refused 1 ≡ first_line s
  unfolding first_line is_first_line
  too_large h = rw (lt-leb _ _ h, and_none (within 1 20 (digit_count s) && eqb (byte s (digit_count s)) 0x0A))

-- more digits make no smaller number
number_onward : (n : ℕ) (l : List ℕ) → n ≤ number_from n l
unfolding number_from
number_onward n [] = omega arith
number_onward n (b ∷ l) = omega (arith, number_onward (n * 10 + (b - 0x30)) l)

-- ---- i digits were read, which write n
pub record Reading (s : List ℕ) (n i : ℕ) : Type 0 where
  pub few : i ≤ 20
  pub small : n < 2 ^ 64
  pub count : skip_digits s i ≡ digit_count s
  pub value : number_from n (drop i (take (digit_count s) s)) ≡ leading_number s

pub read_begin : (s : List ℕ) → Reading s 0 0
read_begin s = record { few = omega arith; small = omega arith; count = refl; value = refl }

module _ (s : List ℕ) (n i : ℕ) (S : Reading s n i) (b : ℕ) (z : b ≡ byte s i) where
  -- a digit more
  module _ (h : digit b ≡ true) where
    within_count : i < digit_count s
    within_count = omega (arith, skip_onward digit no_digit s (i + 1), skip_on digit no_digit s i b z h, S.count)

    next_is : drop i (take (digit_count s) s) ≡ b ∷ drop (i + 1) (take (digit_count s) s)
    next_is =
        let l = good_inside digit no_digit s i b z h in
        let w = within_count in
        rw (add-one i, z) (drop-cons (take (digit_count s) s) i 0 (omega (arith, length-take (digit_count s) s)) ∙ rw (get_or-take (digit_count s) s i 0 w))

    pub read_many : 20 ≤ i → refused 1 ≡ first_line s
    read_many g = too_many_lem s (omega (arith, within_count))

    value_on : number_from (n * 10 + (b - 0x30)) (drop (i + 1) (take (digit_count s) s)) ≡ leading_number s
    unfolding number_from
    value_on = ap (number_from n) (sym next_is) ∙ S.value

    pub read_over : 2 ^ 64 ≤ n * 10 + (b - 0x30) → refused 1 ≡ first_line s
    read_over g = too_large s (omega (arith, value_on, number_onward (n * 10 + (b - 0x30)) (drop (i + 1) (take (digit_count s) s))))

    pub read_on : n * 10 + (b - 0x30) < 2 ^ 64 → i < 20 → Reading s (n * 10 + (b - 0x30)) (i + 1)
    read_on g k = record { few = omega arith; small = g; count = skip_on digit no_digit s i b z h ∙ S.count; value = value_on }

  -- no digit: all are read
  module _ (h : digit b ≡ false) where
    last_is : i ≡ digit_count s
    last_is = skip_out digit no_digit s i b z h ∙ S.count

    number_is : n ≡ leading_number s
    unfolding number_from
    number_is = ap (number_from n) (sym (drop_of_length-le (take (digit_count s) s) {i = i} (omega (arith, last_is, length-take (digit_count s) s)))) ∙ S.value

    pub read_none : i < 1 → refused 1 ≡ first_line s
    read_none g = too_few s (omega (arith, last_is))

    pub read_other : (b ≡ 0x0A → ⊥) → refused 1 ≡ first_line s
    read_other g = no_feed s (λ e. g (z ∙ ap (byte s) last_is ∙ e))

    pub read_feed : 1 ≤ i → b ≡ 0x0A → accepted (line n (i + 1)) ≡ first_line s
    unfolding first_line is_first_line within
    read_feed g e =
        let f : byte s (digit_count s) ≡ 0x0A = ap (byte s) (sym last_is) ∙ sym z ∙ e in
        let p : 1 ≤ digit_count s = omega (arith, last_is) in
        let q : digit_count s ≤ 20 = omega (arith, last_is, S.few) in
        let v : leading_number s ≤ 2 ^ 64 - 1 = omega (arith, number_is, S.small) in
        rw (le-leb _ _ p, le-leb _ _ q, eq-eqb _ _ f, le-leb _ _ v, number_is, last_is)
