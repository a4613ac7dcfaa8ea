-- An escape's code point is one of Unicode's, and a decoded text is no longer than the bytes it is decoded from.
use Rattle.json_blocks.specs.declared.Cursor.{Cursor}
use Rattle.std.specs.Prelude.{None, Option, Some}
use mathlib.Core.Path.{◌≡◌, refl, subst}
use mathlib.Core.Bool.{Bool, true, false, ◌||◌}
use mathlib.Core.List.{List, [], ◌∷◌, ◌++◌}
use Prim.Native.Nat.{ℕ, zero, suc, ◌≤◌, ◌<◌, ◌+◌, ◌*◌}
use native.Mathlib.Omega.{arith}
use lib.ListN.{length, length-append}
use lib.Dec.{eqb, ltb, leb}
use borrow.Author.Tests.{lt-ltb, ltb-false, leb-false, eqb-false}
use Rattle.json_blocks.specs.TextBytes.{byte, within}
use Rattle.json_characters.specs.String.{hex_value, hex4_at}
use Rattle.json_blocks.proofs.ByteLaws.{inside, cond_elim, within_is}
use Rattle.json_characters.proofs.StringLaws.{hex_inside}
use Rattle.json_strings.specs.Decode.{short_code, unit_hex4, pair_code, low_unit, unicode_unit, escape_unit, unit_at, unit_bytes, unit_end, ends_string}
use Rattle.json_strings.specs.Utf8.{utf8}
use Rattle.json_strings.specs.Decode.{decoded_units, decoded_from}

-- ---- a code point's bytes
module _ (p : ℕ) where
  utf8_most : length (utf8 p) ≤ 4
  unfolding utf8
  utf8_most =
      cond_elim (λ (l : List ℕ). length l ≤ 4) (ltb p 0x80) _ _ (λ _. omega arith)
      (λ _. cond_elim (λ (l : List ℕ). length l ≤ 4) (ltb p 0x800) _ _ (λ _. omega arith)
      (λ _. cond_elim (λ (l : List ℕ). length l ≤ 4) (ltb p 0x10000) _ _ (λ _. omega arith) (λ _. omega arith)))

  utf8_two : p < 0x800 → length (utf8 p) ≤ 2
  unfolding utf8
  utf8_two h = rw (lt-ltb _ _ h) (cond_elim (λ (l : List ℕ). length l ≤ 2) (ltb p 0x80) _ _ (λ _. omega arith) (λ _. omega arith))

module _ (b : ℕ) where
  short_low : short_code b ≤ 256
  unfolding short_code
  short_low =
      cond_elim P (eqb b 0x22) _ _ (λ _. omega arith) (λ _. cond_elim P (eqb b 0x5C) _ _ (λ _. omega arith)
      (λ _. cond_elim P (eqb b 0x2F) _ _ (λ _. omega arith) (λ _. cond_elim P (eqb b 0x62) _ _ (λ _. omega arith)
      (λ _. cond_elim P (eqb b 0x66) _ _ (λ _. omega arith) (λ _. cond_elim P (eqb b 0x6E) _ _ (λ _. omega arith)
      (λ _. cond_elim P (eqb b 0x72) _ _ (λ _. omega arith) (λ _. cond_elim P (eqb b 0x74) _ _ (λ _. omega arith) (λ _. omega arith))))))))
    where
      P : ℕ → Type 0
      P n = n ≤ 256

short_some : (b : ℕ) → (short_code b ≡ 256 → ⊥) → 0 < b
unfolding short_code
short_some zero f = absurd (f refl)
short_some (suc b) f = omega arith

-- ---- an escape's code point is one of Unicode's; it has at most as many bytes as the escape, which ends inside the text
data Within (s : List ℕ) (at : ℕ) : Option (ℕ × ℕ) → Type 0 where
  within_byte : Within s at None
  within_escape : {p j : ℕ} → p ≤ 0x10FFFF → length (utf8 p) + at ≤ j → j ≤ length s → Within s at (Some (p, j))

digits_limit : (a b c d : ℕ) → a ≤ 15 → b ≤ 15 → c ≤ 15 → d ≤ 15 → ((a * 16 + b) * 16 + c) * 16 + d ≤ 0xFFFF
digits_limit a b c d h g f e = omega arith

module _ (s : List ℕ) where
  hex4_elim : (P : Option (ℕ × Cursor) → Type 0) (i : ℕ) → P None → ((n : ℕ) → n ≤ 0xFFFF → i + 4 ≤ length s → P (Some (n, (record { at = i + 4 })))) → P (hex4_at s i)
  unfolding hex4_at
  hex4_elim P i b f =
      cond_elim P (ltb 15 (hex_value (byte s i))) _ _ (λ _. b)
      (λ k. cond_elim P (ltb 15 (hex_value (byte s (i + 1)))) _ _ (λ _. b)
      (λ l. cond_elim P (ltb 15 (hex_value (byte s (i + 2)))) _ _ (λ _. b)
      (λ m. cond_elim P (ltb 15 (hex_value (byte s (i + 3)))) _ _ (λ _. b)
      (λ e. f _ (digits_limit _ _ _ _ (ltb-false 15 _ k) (ltb-false 15 _ l) (ltb-false 15 _ m) (ltb-false 15 _ e)) (omega (arith, hex_inside s (i + 3) _ _ refl refl (ltb-false _ _ e)))))))

  hex4_within : (i at : ℕ) (f : ℕ → ℕ → Option (ℕ × ℕ)) → ((n : ℕ) → n ≤ 0xFFFF → i + 4 ≤ length s → Within s at (f n (i + 4))) → Within s at (unit_hex4 (hex4_at s i) f)
  hex4_within i at f g = hex4_elim (λ (x : Option (ℕ × Cursor)). Within s at (unit_hex4 x f)) i within_byte g

  pair_limit : (n m : ℕ) → n ≤ 0xDBFF → m ≤ 0xDFFF → pair_code n m ≤ 0x10FFFF
  unfolding pair_code
  pair_limit n m h g = omega arith

  low_within : (n i at : ℕ) → n ≤ 0xDBFF → at ≤ i → Within s at (low_unit s n i)
  unfolding low_unit
  low_within n i at k l =
      cond_elim (Within s at) (eqb (byte s i) 0x5C) _ _
      (λ _. cond_elim (Within s at) (eqb (byte s (i + 1)) 0x75) _ _
      (λ _. hex4_within (i + 2) at _ (λ m _ h. cond_elim (Within s at) (within 0xDC00 0xDFFF m) _ _
      (λ e. within_escape (pair_limit n m k (within_is 0xDC00 0xDFFF m e).1) (omega (arith, utf8_most (pair_code n m))) h) (λ _. within_byte)))
      (λ _. within_byte))
      (λ _. within_byte)

  unicode_within : (i at : ℕ) → at ≤ i → Within s at (unicode_unit s i)
  unfolding unicode_unit
  unicode_within i at l =
      hex4_within i at _
      (λ n k h. cond_elim (Within s at) (within 0xD800 0xDBFF n) _ _ (λ e. low_within n (i + 4) at (within_is 0xD800 0xDBFF n e).1 (omega arith))
      (λ _. cond_elim (Within s at) (within 0xDC00 0xDFFF n) _ _ (λ _. within_byte) (λ _. within_escape (omega arith) (omega (arith, utf8_most n)) h)))

  unit_within : (at : ℕ) → Within s at (unit_at s at)
  unfolding unit_at escape_unit
  unit_within at =
      cond_elim (Within s at) (eqb (byte s at) 0x5C) _ _
      (λ _. cond_elim (Within s at) (eqb (short_code (byte s (at + 1))) 256) _ _
      (λ _. cond_elim (Within s at) (eqb (byte s (at + 1)) 0x75) _ _ (λ _. unicode_within (at + 1 + 1) at (omega arith)) (λ _. within_byte))
      (λ e.
      let b : ℕ = byte s (at + 1) in
      let h = inside s (at + 1) b refl (short_some b (eqb-false (short_code b) 256 e)) in
      within_escape (omega (arith, short_low b)) (omega (arith, utf8_two (short_code b) (omega (arith, short_low b)))) (omega arith)))
      (λ _. within_byte)

  pub unit_point : (at p j : ℕ) → unit_at s at ≡ Some (p, j) → p ≤ 0x10FFFF
  unit_point at p j e = go (subst (Within s at) e (unit_within at)) where
    go : Within s at (Some (p, j)) → p ≤ 0x10FFFF
    go (within_escape h k l) = h

  -- ---- all units
  ends_inside : (at : ℕ) → ends_string s at ≡ false → at < length s
  ends_inside at e = go (leb (length s) at) refl e where
    go : (t : Bool) → leb (length s) at ≡ t → (t || eqb (byte s at) 0x22) ≡ false → at < length s
    go true q e = let z : ◌≡◌ {A = ℕ} 0 1 = cc in absurd (omega arith)
    go false q e = leb-false _ _ q

  units_within : (n at : ℕ) → at ≤ length s → length (decoded_units n s at) + at ≤ length s
  unfolding decoded_units
  units_within zero at h = omega arith
  units_within (suc n) at h =
      cond_elim (λ (l : List ℕ). length l + at ≤ length s) (ends_string s at) _ _ (λ _. omega arith)
      (λ e. unit (unit_within at) (ends_inside at e) (λ k. units_within n k))
    where
      unit : {u : (Option (ℕ × ℕ))} → Within s at u → at < length s → ((k : ℕ) → k ≤ length s → length (decoded_units n s k) + k ≤ length s)
          → length (unit_bytes s at u ++ decoded_units n s (unit_end at u)) + at ≤ length s
      unit within_byte l f = omega (arith, f (at + 1) (omega arith), length-append (byte s at ∷ []) (decoded_units n s (at + 1)))
      unit (within_escape {p} {j} g k m) l f = omega (arith, f j m, k, length-append (utf8 p) (decoded_units n s j))

  pub decoded_length : (at : ℕ) → at ≤ length s → length (decoded_from s at) + at ≤ length s
  unfolding decoded_from
  decoded_length at h = units_within (length s) at h

  pub decoded_short : length (decoded_from s 0) ≤ length s
  decoded_short = omega (arith, decoded_length 0 (omega arith))
