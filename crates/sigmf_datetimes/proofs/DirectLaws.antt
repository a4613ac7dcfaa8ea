-- A date and a time of day whose bytes stand for themselves, on plain variables.
use Rattle.std.specs.Prelude.{Some}
use mathlib.Core.Path.{◌≡◌, refl, ap, ◌∙◌}
use mathlib.Core.Bool.{true}
use mathlib.Core.List.{List, ◌∷◌}
use Prim.Native.Nat.{ℕ, ◌≤◌, ◌<◌, ◌+◌, ◌*◌}
use native.Mathlib.Omega.{arith}
use Rattle.std.proofs.lemmas.Grind.{common_steps}
use lib.ListN.{length}
use lib.Dec.{eqb}
use borrow.Author.Tests.{eqb-true}
use Rattle.json_blocks.specs.TextBytes.{byte}
use Rattle.json_tokens.specs.Number.{digit}
use Rattle.json_blocks.proofs.ByteLaws.{inside, within_is}
use Rattle.json_strings.specs.declared.Position.{Position}
use Rattle.json_strings.specs.Stream.{start_at, next_byte, stream}
use Rattle.json_strings.proofs.DecodeLaws.{start_is, next_plain, streamed_next}
use Rattle.sigmf_datetimes.specs.Datetimes.{got, pair_of, mark_after, pair_then, date_of, clock_of}
use Rattle.sigmf_datetimes.specs.DatetimeCode.{has_pair, has_pair_then, pair_at, has_date, has_clock}

-- ---- a byte from `-` to `Z` stands in the text, and for itself
module _ (s : List ℕ) (at b : ℕ) (e : b ≡ byte s at) (w : (0x2D ≤ b) × (b ≤ 0x5A)) where
  pub self_inside : at < length s
  self_inside = inside s at b e (omega arith)

pub self_next : (s : List ℕ) (p : Position) (b : ℕ) → b ≡ byte s p.at → (0x2D ≤ b) × (b ≤ 0x5A) → p.passed ≡ 0 → (i : ℕ) → i ≡ p.at + 1
    → Some (b, (start_at i)) ≡ next_byte s p
self_next s p b e w q i f = rw (e, f) (next_plain s p (self_inside s p.at b e w) (λ z. omega arith) (λ z. omega arith) q)

self_stream : (s : List ℕ) (at b : ℕ) → b ≡ byte s at → (0x2D ≤ b) × (b ≤ 0x5A) → (i : ℕ) → i ≡ at + 1 → stream s (start_at at) ≡ b ∷ stream s (start_at i)
self_stream s at b e w i p = streamed_next s (start_at at) (Some (b, (start_at i))) (self_next s (start_at at) b e w refl i p) b (start_at i) refl

-- ---- two digits
module _ (s : List ℕ) (at : ℕ) (h : has_pair s at ≡ true) where
  digits : (digit (byte s at) ≡ true) × (digit (byte s (at + 1)) ≡ true)
  unfolding has_pair
  digits = (grind (arith, common_steps), grind (arith, common_steps))

  pub pair_digits : ((0x30 ≤ byte s at) × (byte s at ≤ 0x39)) × ((0x30 ≤ byte s (at + 1)) × (byte s (at + 1) ≤ 0x39))
  pair_digits = (within_is 0x30 0x39 _ digits.0, within_is 0x30 0x39 _ digits.1)

  pair_self : (i : ℕ) → i ≡ at + 2 → got (pair_at s at) (stream s (start_at i)) ≡ pair_of (stream s (start_at at))
  unfolding pair_at pair_of
  pair_self i e =
      let d = pair_digits in
      rw (self_stream s at _ refl (omega arith, omega arith) (at + 1) refl, self_stream s (at + 1) _ refl (omega arith, omega arith) i (omega arith), digits.0, digits.1)

-- ---- two digits and a mark
module _ (mark : ℕ) (s : List ℕ) (at : ℕ) (h : has_pair_then mark s at ≡ true) where
  marked : (has_pair s at ≡ true) × (eqb (byte s (at + 2)) mark ≡ true)
  unfolding has_pair_then
  marked = (grind (arith, common_steps), grind (arith, common_steps))

  then_self : (0x2D ≤ mark) × (mark ≤ 0x5A) → (i : ℕ) → i ≡ at + 3 → got (pair_at s at) (stream s (start_at i)) ≡ pair_then mark (stream s (start_at at))
  unfolding pair_then mark_after
  then_self w i e =
      let q = eqb-true (byte s (at + 2)) mark marked.1 in
      rw (← pair_self s at marked.0 (at + 2) refl, self_stream s (at + 2) _ refl (omega arith, omega arith) i (omega arith), marked.1)

-- ---- a date
record DateAt (s : List ℕ) (at : ℕ) : Type 0 where
  pub century : has_pair s at ≡ true
  pub year : has_pair_then 0x2D s (at + 2) ≡ true
  pub month : has_pair_then 0x2D s (at + 5) ≡ true
  pub day : has_pair_then 0x54 s (at + 8) ≡ true

module _ (s : List ℕ) (at : ℕ) (h : has_date s at ≡ true) where
  date_at : DateAt s at
  unfolding has_date
  date_at = record { century = grind (arith, common_steps); year = grind (arith, common_steps); month = grind (arith, common_steps); day = grind (arith, common_steps) }

  pub date_self : (c y m d : ℕ) → c ≡ pair_at s at → y ≡ pair_at s (at + 2) → m ≡ pair_at s (at + 5) → d ≡ pair_at s (at + 8)
      → got (record { year = c * 100 + y; month = m; day = d }) (stream s (start_at (at + 11))) ≡ date_of (stream s (start_at at))
  unfolding date_of
  date_self c y m d ec ey em ed =
      rw (
        ec,
        ey,
        em,
        ed,
        ← pair_self s at date_at.century (at + 2) refl,
        ← then_self 0x2D s (at + 2) date_at.year (omega arith, omega arith) (at + 5) (omega arith),
        ← then_self 0x2D s (at + 5) date_at.month (omega arith, omega arith) (at + 8) (omega arith),
        ← then_self 0x54 s (at + 8) date_at.day (omega arith, omega arith) (at + 11) (omega arith),
      )

-- ---- a time of day
record ClockAt (s : List ℕ) (at : ℕ) : Type 0 where
  pub hour : has_pair_then 0x3A s at ≡ true
  pub minute : has_pair_then 0x3A s (at + 3) ≡ true
  pub second : has_pair s (at + 6) ≡ true

module _ (s : List ℕ) (at : ℕ) (h : has_clock s at ≡ true) where
  clock_at : ClockAt s at
  unfolding has_clock
  clock_at = record { hour = grind (arith, common_steps); minute = grind (arith, common_steps); second = grind (arith, common_steps) }

  clock_start : (h m n : ℕ) → h ≡ pair_at s at → m ≡ pair_at s (at + 3) → n ≡ pair_at s (at + 6)
      → got (record { hour = h; minute = m; second = n }) (stream s (start_at (at + 8))) ≡ clock_of (stream s (start_at at))
  unfolding clock_of
  clock_start h m n eh em en =
      rw (
        eh,
        em,
        en,
        ← then_self 0x3A s at clock_at.hour (omega arith, omega arith) (at + 3) refl,
        ← then_self 0x3A s (at + 3) clock_at.minute (omega arith, omega arith) (at + 6) (omega arith),
        ← pair_self s (at + 6) clock_at.second (at + 8) (omega arith),
      )

pub clock_self : (s : List ℕ) (p : Position) → has_clock s p.at ≡ true → p.passed ≡ 0 → (h m n : ℕ)
    → h ≡ pair_at s p.at → m ≡ pair_at s (p.at + 3) → n ≡ pair_at s (p.at + 6)
    → got (record { hour = h; minute = m; second = n }) (stream s (start_at (p.at + 8))) ≡ clock_of (stream s p)
clock_self s p e q h m n eh em en = clock_start s p.at e h m n eh em en ∙ ap (λ (o : Position). clock_of (stream s o)) (start_is p q)
