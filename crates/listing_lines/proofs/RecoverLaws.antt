-- What was written is read back: numbers up to a space, and a label's bytes.
use Rattle.std.specs.Prelude.{None, Option, Some}
use Prim.Native.Nat.{ℕ, zero, suc, ◌+◌, ◌*◌, ◌-◌, ◌/◌, ◌%◌, ◌≤◌, ◌<◌}
use mathlib.Core.Path.{◌≡◌, refl, ap, ◌∙◌}
use mathlib.Core.Bool.{Bool, true, false, not, cond}
use mathlib.Core.List.{List, [], ◌∷◌, ◌++◌, append_assoc}
use mathlib.Core.Option.{none, some}
use native.Mathlib.Omega.{arith}
use native.Mathlib.Decide.{dec_lt}
use lib.ListN.{length, drop, length-take, get_or-eq_default}
use lib.Seq.{get_or-take, get_or-drop}
use lib.Dec.{eqb, ltb}
use borrow.Author.Tests.{ne_eqb, lt-ltb, le-ltb, ltb-true, le-leb, lt-leb, not-true}
use Rattle.json_blocks.specs.TextBytes.{byte, within}
use Rattle.json_characters.specs.String as T
use Rattle.json_blocks.proofs.ByteLaws.{cond_elim}
use Rattle.json_strings.proofs.LengthLaws.{unit_point}
use Rattle.json_strings.specs.Decode.{unit_at, unit_bytes, unit_end, ends_string, decoded_units, decoded_from}
use Rattle.json_strings.specs.Utf8.{utf8}
use Rattle.json_blocks.specs.Lists.{all}
use Rattle.table.specs.declared.Place.{Place}
use Rattle.table.specs.declared.Annotation.{Annotation}
use Rattle.table.specs.Rows.{flat}
use Rattle.table.proofs.Bools.{and_left, and_right}
use Rattle.decimal.specs.Decimal.{digits_of, field}
use Rattle.table.specs.Place.{absent}
use Rattle.listing_labels.specs.Text.{part}
use Rattle.listing_text.specs.Shown.{hex_digit_of, as_it_is, shown_byte, quoted, shown_text}
use Rattle.listing.specs.Lines.{feed, annotation_line}
use Rattle.listing_lines.specs.Recover.{up_to, past, hex_in, unquoted, shown_in, label_text}
use Rattle.listing_lines.proofs.LineLaws.{Free, all_join, digits_free, as_is}

-- ---- words
module _ (b : ℕ) (p : List ℕ) (h : Free 0x20 (b ∷ p)) where
  no_space : eqb b 0x20 ≡ false
  unfolding all
  no_space = not-true _ (and_left (not (eqb b 0x20)) _ h)

  more_free : Free 0x20 p
  unfolding all
  more_free = and_right (not (eqb b 0x20)) _ h

past_word : (p t : List ℕ) → Free 0x20 p → past (p ++ 0x20 ∷ t) ≡ t
unfolding past
past_word [] t h = refl
past_word (b ∷ p) t h = rw (no_space b p h, past_word p t (more_free b p h))

up_to_word : (p t : List ℕ) → Free 0x20 p → up_to (p ++ 0x20 ∷ t) ≡ p
unfolding up_to
up_to_word [] t h = refl
up_to_word (b ∷ p) t h = rw (no_space b p h, up_to_word p t (more_free b p h))

module _ (n : ℕ) (t : List ℕ) where
  pub past_number : past (digits_of n ++ 0x20 ∷ t) ≡ t
  past_number = past_word (digits_of n) t (digits_free 0x20 (omega arith) n)

  pub up_to_number : up_to (digits_of n ++ 0x20 ∷ t) ≡ digits_of n
  up_to_number = up_to_word (digits_of n) t (digits_free 0x20 (omega arith) n)

to_right : (a b c d e : List ℕ) → a ++ b ++ c ++ d ++ e ≡ a ++ (b ++ (c ++ (d ++ e)))
to_right a b c d e = append_assoc (a ++ b ++ c) d e ∙ append_assoc (a ++ b) c (d ++ e) ∙ append_assoc a b (c ++ (d ++ e))

-- past `annotation`
pub numbers_left : (s : List ℕ) (r : Annotation)
    → past (annotation_line s r) ≡ digits_of r.start ++ 0x20 ∷ (digits_of r.end ++ 0x20 ∷ (shown_text s r.texts.label ++ feed))
unfolding past annotation_line field
numbers_left s r = to_right (digits_of r.start) (0x20 ∷ digits_of r.end) (0x20 ∷ []) (shown_text s r.texts.label) feed

-- ---- a label's bytes
hex_back : (d : ℕ) → d < 16 → T.hex_value (hex_digit_of d) ≡ d
unfolding hex_digit_of T.hex_value within
hex_back d h = elim (dec_lt d 10) [ yes q ↦ low q | no q ↦ high (omega arith) ]
  where
    low : d < 10 → T.hex_value (hex_digit_of d) ≡ d
    low q =
        let a : 48 ≤ 0x30 + d = omega arith in
        let b : 0x30 + d ≤ 57 = omega arith in
        rw (lt-ltb _ _ q, le-leb _ _ a, le-leb _ _ b) (omega arith)

    high : 10 ≤ d → T.hex_value (hex_digit_of d) ≡ d
    high q =
        let e = d - 10 in
        let a : 48 ≤ 0x61 + e = omega arith in
        let b : 57 < 0x61 + e = omega arith in
        let c : 65 ≤ 0x61 + e = omega arith in
        let f : 70 < 0x61 + e = omega arith in
        let g : 97 ≤ 0x61 + e = omega arith in
        let k : 0x61 + e ≤ 102 = omega arith in
        rw (le-ltb _ _ q, le-leb _ _ a, lt-leb _ _ b, le-leb _ _ c, lt-leb _ _ f, le-leb _ _ g, le-leb _ _ k) (omega arith)

byte_back : (b : ℕ) (t : List ℕ) → b < 256 → unquoted 0 (shown_byte b ++ t) ≡ b ∷ unquoted 0 t
unfolding shown_byte unquoted hex_in
byte_back b t h =
    cond_elim (λ (x : List ℕ). unquoted 0 (x ++ t) ≡ b ∷ unquoted 0 t) (as_it_is b) _ _
    (λ e. let i = as_is b e in rw (ne_eqb b 0x22 i.quote, ne_eqb b 0x5C i.slash))
    (λ e. ap (λ (x : ℕ). x ∷ unquoted 0 t) both)
  where
    both : T.hex_value (hex_digit_of (b / 16)) * 16 + T.hex_value (hex_digit_of (b % 16)) ≡ b
    both = rw (hex_back (b / 16) (omega arith), hex_back (b % 16) (omega arith)) (omega arith)

abbrev Small : List ℕ → Type 0
Small xs = all (λ (b : ℕ). ltb b 256) xs ≡ true

bytes_back : (xs t : List ℕ) → Small xs → unquoted 0 (flat shown_byte xs ++ 0x22 ∷ t) ≡ xs
unfolding flat all unquoted
bytes_back [] t h = refl
bytes_back (b ∷ xs) t h =
    ap (unquoted 0) (append_assoc (shown_byte b) (flat shown_byte xs) (0x22 ∷ t))
    ∙ byte_back b (flat shown_byte xs ++ 0x22 ∷ t) (ltb-true b 256 (and_left (ltb b 256) _ h))
    ∙ ap (λ (x : List ℕ). b ∷ x) (bytes_back xs t (and_right (ltb b 256) _ h))

-- ---- decoded bytes are bytes
utf8_small : (p : ℕ) → p ≤ 0x10FFFF → Small (utf8 p)
unfolding utf8 all
utf8_small p h =
    cond_elim Small (ltb p 0x80) _ _ (λ e. let l = ltb-true p 0x80 e in rw (lt-ltb p 256 (omega arith)))
    (λ _. cond_elim Small (ltb p 0x800) _ _
    (λ e. let l = ltb-true p 0x800 e in rw (lt-ltb (0xC0 + p / 0x40) 256 (omega arith), lt-ltb (0x80 + p % 0x40) 256 (omega arith)))
    (λ _. cond_elim Small (ltb p 0x10000) _ _
    (λ e. let l = ltb-true p 0x10000 e in
    rw (lt-ltb (0xE0 + p / 0x1000) 256 (omega arith), lt-ltb (0x80 + p / 0x40 % 0x40) 256 (omega arith), lt-ltb (0x80 + p % 0x40) 256 (omega arith)))
    (λ _. rw (lt-ltb (0xF0 + p / 0x40000) 256 (omega arith), lt-ltb (0x80 + p / 0x1000 % 0x40) 256 (omega arith), lt-ltb (0x80 + p / 0x40 % 0x40) 256 (omega arith), lt-ltb (0x80 + p % 0x40) 256 (omega arith)))))

module _ (s : List ℕ) (h : (i : ℕ) → byte s i < 256) where
  unit_small : (at : ℕ) (u : Option (ℕ × ℕ)) → unit_at s at ≡ u → Small (unit_bytes s at u)
  unfolding all
  unit_small at None e = rw (lt-ltb _ _ (h at))
  unit_small at (Some (p, j)) e = utf8_small p (unit_point s at p j e)

  units_small : (n at : ℕ) → Small (decoded_units n s at)
  unfolding decoded_units all
  units_small zero at = refl
  units_small (suc n) at =
      cond_elim Small (ends_string s at) _ _ (λ e. refl)
      (λ e. all_join (λ (b : ℕ). ltb b 256) (unit_bytes s at (unit_at s at)) _ (unit_small at (unit_at s at) refl) (units_small n (unit_end at (unit_at s at))))

  part_small : (p : Place) (i : ℕ) → byte (part s p) i < 256
  part_small p i = elim (dec_lt i p.len) [ yes q ↦ inside q | no q ↦ over (omega arith) ]
    where
      inside : i < p.len → byte (part s p) i < 256
      inside q = rw (get_or-take p.len (drop p.at s) i 0 q, get_or-drop p.at s i 0) (h (p.at + i))

      over : p.len ≤ i → byte (part s p) i < 256
      over q = rw (get_or-eq_default (part s p) 0 {n = i} (omega (arith, length-take p.len (drop p.at s)))) (omega arith)

decoded_small : (s : List ℕ) → ((i : ℕ) → byte s i < 256) → (p : Place) → Small (decoded_from (part s p) 0)
unfolding decoded_from
decoded_small s h p = units_small (part s p) (part_small s h p) (length (part s p)) 0

-- ---- the label
-- told apart by their first byte
pub shown_in_lem : (s : List ℕ) (p : Place) → shown_in (shown_text s p ++ feed)
    ≡ cond (absent p) none (some (unquoted 0 (flat shown_byte (decoded_from (part s p) 0) ++ 0x22 ∷ feed)))
unfolding shown_text quoted shown_in
shown_in_lem s p = go (absent p)
  where
    go : (t : Bool) → shown_in (cond t (0x2D ∷ []) (quoted (part s p)) ++ feed)
        ≡ cond t none (some (unquoted 0 (flat shown_byte (decoded_from (part s p) 0) ++ 0x22 ∷ feed)))
    go true = refl
    go false = ap (λ (x : List ℕ). some (unquoted 0 x)) (append_assoc (flat shown_byte (decoded_from (part s p) 0)) (0x22 ∷ []) feed)

pub text_back : (s : List ℕ) → ((i : ℕ) → byte s i < 256) → (r : Annotation) → shown_in (shown_text s r.texts.label ++ feed) ≡ label_text s r
unfolding label_text
text_back s h r = shown_in_lem s r.texts.label ∙ rw (bytes_back (decoded_from (part s r.texts.label) 0) feed (decoded_small s h r.texts.label))
