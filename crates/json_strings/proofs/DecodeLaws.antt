-- Steps of the definitions of specs/Decode.antt, on plain variables.
use Rattle.std.specs.Prelude.{None, Option, Some}
use mathlib.Core.Path.{◌≡◌, refl, sym, ap, subst, ◌∙◌}
use mathlib.Core.Bool.{Bool, true, false, cond, ◌||◌}
use mathlib.Core.List.{List, [], ◌∷◌, ◌++◌}
use Prim.Native.Nat.{ℕ, zero, suc, ◌≤◌, ◌<◌, ◌+◌, ◌-◌, ◌/◌, ◌%◌}
use native.Mathlib.Omega.{arith}
use native.Mathlib.Numerals.{add-one}
use lib.ListN.{length, get_or, take, drop, drop_of_length-le}
use lib.Seq.{take-length, drop-cons}
use lib.Dec.{eqb, ltb, leb}
use borrow.Author.Tests.{eq-eqb, ne_eqb, lt-ltb, le-ltb, lt-leb, le-leb, ltb-true, ltb-false, leb-false, eqb-true, eqb-false}
use Rattle.json_blocks.specs.declared.Cursor.{Cursor}
use Rattle.json_blocks.specs.Turns.{Turn, on, out, run_text}
use Rattle.json_blocks.specs.TextBytes.{byte, to, within, skip_while}
use Rattle.json_blocks.specs.Blocks.{plain_byte}
use Rattle.json_characters.specs.String.{hex_value, if_hex, hex4_at, character_at}
use Rattle.json_blocks.proofs.TurnLaws.{Advances, run_out, run_on}
use Rattle.json_blocks.proofs.ByteLaws.{inside, skip_onward, skip_pass, Onward, onward_is}
use Rattle.json_blocks.proofs.BlockLaws.{plain_is, no_plain, plain_inside}
use Rattle.json_characters.proofs.StringLaws.{character_plain, character_onward}
use Rattle.json_strings.specs.declared.Position.{Position}
use Rattle.json_strings.specs.Decode.{short_code, unit_hex4, pair_code, low_unit, unicode_unit, escape_unit, unit_at, unit_bytes, unit_end, ends_string}
use Rattle.json_strings.specs.Utf8.{utf8}
use Rattle.json_strings.specs.Decode.{decoded_units, decoded_from, body_onward, body_turn}
use Rattle.json_strings.specs.Stream.{start_at, byte_more, bytes_at, stream, next_position, next_byte}
use Rattle.json_strings.specs.Utf8Code.{later_byte}

-- ---- a unit passes a byte
data Past (at : ℕ) : Option (ℕ × ℕ) → Type 0 where
  past_byte : Past at None
  past_escape : {p j : ℕ} → at < j → Past at (Some (p, j))

past_cond : {at : ℕ} {a b : (Option (ℕ × ℕ))} (t : Bool) → Past at a → Past at b → Past at (cond t a b)
past_cond true p q = p
past_cond false p q = q

hex4_elim : (P : Option (ℕ × Cursor) → Type 0) (s : List ℕ) (i : ℕ) → P None → ((n : ℕ) → P (Some (n, (record { at = i + 4 })))) → P (hex4_at s i)
unfolding hex4_at
hex4_elim P s i b f =
    digit (hex_value (byte s i)) (digit (hex_value (byte s (i + 1))) (digit (hex_value (byte s (i + 2))) (digit (hex_value (byte s (i + 3))) (f _))))
  where
    digit : {x : (Option (ℕ × Cursor))} (d : ℕ) → P x → P (if_hex d x)
    digit {x} d p = go (ltb 15 d) where
      go : (t : Bool) → P (cond t None x)
      go true = b
      go false = p

past_hex4 : (s : List ℕ) (i at : ℕ) (f : ℕ → ℕ → Option (ℕ × ℕ)) → ((n : ℕ) → Past at (f n (i + 4))) → Past at (unit_hex4 (hex4_at s i) f)
past_hex4 s i at f g = hex4_elim (λ (x : Option (ℕ × Cursor)). Past at (unit_hex4 x f)) s i past_byte g

module _ (s : List ℕ) where
  past_low : (n i at : ℕ) → at < i → Past at (low_unit s n i)
  unfolding low_unit
  past_low n i at l =
      past_cond (eqb (byte s i) 0x5C)
      (past_cond (eqb (byte s (i + 1)) 0x75)
      (past_hex4 s (i + 2) at (λ m j. cond (within 0xDC00 0xDFFF m) (Some ((pair_code n m), j)) None)
      (λ m. past_cond (within 0xDC00 0xDFFF m) (past_escape (omega arith)) past_byte))
      past_byte)
      past_byte

  past_unicode : (i at : ℕ) → at < i → Past at (unicode_unit s i)
  unfolding unicode_unit
  past_unicode i at l =
      past_hex4 s i at (λ n j. cond (within 0xD800 0xDBFF n) (low_unit s n j) (cond (within 0xDC00 0xDFFF n) None (Some (n, j))))
      (λ n. past_cond (within 0xD800 0xDBFF n) (past_low n (i + 4) at (omega arith))
      (past_cond (within 0xDC00 0xDFFF n) past_byte (past_escape (omega arith))))

  past_unit : (at : ℕ) → Past at (unit_at s at)
  unfolding unit_at escape_unit
  past_unit at =
      past_cond (eqb (byte s at) 0x5C)
      (past_cond (eqb (short_code (byte s (at + 1))) 256)
      (past_cond (eqb (byte s (at + 1)) 0x75) (past_unicode (at + 1 + 1) at (omega arith)) past_byte)
      (past_escape (omega arith)))
      past_byte

  end_past : (at : ℕ) → at < unit_end at (unit_at s at)
  end_past at = go (past_unit at) where
    go : {u : (Option (ℕ × ℕ))} → Past at u → at < unit_end at u
    go past_byte = omega arith
    go (past_escape p) = p

-- ---- where a string ends
module _ (s : List ℕ) (at : ℕ) where
  pub ends_over : length s ≤ at → ends_string s at ≡ true
  ends_over h = rw (le-leb _ _ h)

  ends_inside : ends_string s at ≡ false → at < length s
  ends_inside e = go (leb (length s) at) refl e where
    go : (t : Bool) → leb (length s) at ≡ t → (t || eqb (byte s at) 0x22) ≡ false → at < length s
    go true q e = let z : ◌≡◌ {A = ℕ} 0 1 = cc in absurd (omega arith)
    go false q e = leb-false _ _ q

  module _ (l : at < length s) where
    pub ends_quote : byte s at ≡ 0x22 → ends_string s at ≡ true
    ends_quote h = rw (lt-leb _ _ l, eq-eqb _ _ h)

    pub ends_not : (byte s at ≡ 0x22 → ⊥) → ends_string s at ≡ false
    ends_not h = rw (lt-leb _ _ l, ne_eqb _ _ h)

-- ---- how many units are allowed does not matter, once they are enough
module _ (s : List ℕ) where
  stop : (n at : ℕ) → ends_string s at ≡ true → decoded_units n s at ≡ []
  unfolding decoded_units
  stop zero at h = refl
  stop (suc n) at h = rw h

  step : (n at : ℕ) → ends_string s at ≡ false
      → decoded_units (suc n) s at ≡ unit_bytes s at (unit_at s at) ++ decoded_units n s (unit_end at (unit_at s at))
  unfolding decoded_units
  step n at h = rw h

  enough : (n m at : ℕ) → length s - at ≤ n → length s - at ≤ m → decoded_units n s at ≡ decoded_units m s at
  enough zero m at h k = stop zero at (ends_over s at (omega arith)) ∙ sym (stop m at (ends_over s at (omega arith)))
  enough (suc n) zero at h k = stop (suc n) at (ends_over s at (omega arith)) ∙ sym (stop zero at (ends_over s at (omega arith)))
  enough (suc n) (suc m) at h k =
      go (ends_string s at) refl
      (λ l. let p = end_past s at in enough n m (unit_end at (unit_at s at)) (omega arith) (omega arith))
    where
      go : (t : Bool) → ends_string s at ≡ t
          → (at < length s → decoded_units n s (unit_end at (unit_at s at)) ≡ decoded_units m s (unit_end at (unit_at s at)))
          → decoded_units (suc n) s at ≡ decoded_units (suc m) s at
      go true e f = stop (suc n) at e ∙ sym (stop (suc m) at e)
      go false e f = step n at e ∙ ap (λ (x : List ℕ). unit_bytes s at (unit_at s at) ++ x) (f (ends_inside s at e)) ∙ sym (step m at e)

  pub from_end : (at : ℕ) → ends_string s at ≡ true → decoded_from s at ≡ []
  unfolding decoded_from
  from_end at h = stop (length s) at h

  pub from_unit : (at : ℕ) (u : Option (ℕ × ℕ)) → ends_string s at ≡ false → unit_at s at ≡ u → decoded_from s at ≡ unit_bytes s at u ++ decoded_from s (unit_end at u)
  unfolding decoded_from
  from_unit at u h e = enough (length s) (suc (length s)) at (omega arith) (omega arith) ∙ step (length s) at h ∙ rw e refl

-- ---- a code point in UTF-8, by its three tests
abbrev utf8_by : ℕ → Bool → Bool → Bool → List ℕ
utf8_by p a b c =
    cond a (p ∷ [])
    (cond b ((0xC0 + p / 0x40) ∷ ((0x80 + p % 0x40) ∷ []))
    (cond c ((0xE0 + p / 0x1000) ∷ ((0x80 + p / 0x40 % 0x40) ∷ ((0x80 + p % 0x40) ∷ [])))
    ((0xF0 + p / 0x40000) ∷ ((0x80 + p / 0x1000 % 0x40) ∷ ((0x80 + p / 0x40 % 0x40) ∷ ((0x80 + p % 0x40) ∷ []))))))

module _ (p : ℕ) where
  utf8_some : 0 < length (utf8 p)
  unfolding utf8
  utf8_some = go (ltb p 0x80) (ltb p 0x800) (ltb p 0x10000) where
    go : (a b c : Bool) → 0 < length (utf8_by p a b c)
    go true b c = omega arith
    go false true c = omega arith
    go false false true = omega arith
    go false false false = omega arith

  later_by : (a b c : Bool) (k : ℕ) → k < length (utf8_by p a b c) → (k ≡ 0 → ⊥)
      → later_byte p (length (utf8_by p a b c) - 1 - k) ≡ get_or (utf8_by p a b c) k 0
  unfolding later_byte
  later_by a b c zero h f = absurd (f refl)
  later_by true b c (suc k) h f = absurd (omega arith)
  later_by false true c (suc zero) h f = refl
  later_by false true c (suc (suc k)) h f = absurd (omega arith)
  later_by false false true (suc zero) h f = refl
  later_by false false true (suc (suc zero)) h f = refl
  later_by false false true (suc (suc (suc k))) h f = absurd (omega arith)
  later_by false false false (suc zero) h f = refl
  later_by false false false (suc (suc zero)) h f = refl
  later_by false false false (suc (suc (suc zero))) h f = refl
  later_by false false false (suc (suc (suc (suc k)))) h f = absurd (omega arith)

  pub byte_later : (n k : ℕ) → n ≡ length (utf8 p) → k < n → (k ≡ 0 → ⊥) → later_byte p (n - 1 - k) ≡ get_or (utf8 p) k 0
  unfolding utf8
  byte_later n k e h f = rw e (later_by (ltb p 0x80) (ltb p 0x800) (ltb p 0x10000) k (rw e at h) f)

-- ---- the stream, at its end or at a unit u
module _ (s : List ℕ) (p : Position) where
  stream_end : ends_string s p.at ≡ true → [] ≡ stream s p
  unfolding stream bytes_at
  stream_end h = rw (h, le-ltb p.passed 0 (omega arith))

  module _ (h : ends_string s p.at ≡ false) (u : Option (ℕ × ℕ)) (e : unit_at s p.at ≡ u) where
    bytes_in_lem : bytes_at s p.at ≡ unit_bytes s p.at u
    unfolding bytes_at
    bytes_in_lem = rw (h, e)

    stream_none : length (unit_bytes s p.at u) ≤ p.passed → [] ≡ stream s p
    unfolding stream
    stream_none l = rw (bytes_in_lem, le-ltb _ _ l)

    stream_is : p.passed < length (unit_bytes s p.at u) → stream s p ≡ drop p.passed (unit_bytes s p.at u) ++ decoded_from s (unit_end p.at u)
    unfolding stream
    stream_is l = rw (bytes_in_lem, lt-ltb _ _ l, e)

module _ (s : List ℕ) (at : ℕ) where
  some : (u : Option (ℕ × ℕ)) → 0 < length (unit_bytes s at u)
  some None = omega arith
  some (Some (p, j)) = utf8_some p

  pub stream_start : stream s (start_at at) ≡ decoded_from s at
  stream_start = go (ends_string s at) refl where
    go : (t : Bool) → ends_string s at ≡ t → stream s (start_at at) ≡ decoded_from s at
    go true h = sym (stream_end s (start_at at) h) ∙ sym (from_end s at h)
    go false h = stream_is s (start_at at) h (unit_at s at) refl (some (unit_at s at)) ∙ sym (from_unit s at (unit_at s at) h refl)

module _ (s : List ℕ) (p : Position) (h : ends_string s p.at ≡ false) (u : Option (ℕ × ℕ)) (e : unit_at s p.at ≡ u) where
  -- a byte of the unit, and more of it
  stream_more : p.passed + 1 < length (unit_bytes s p.at u) → get_or (unit_bytes s p.at u) p.passed 0 ∷ stream s (byte_more p) ≡ stream s p
  stream_more l =
      rw (stream_is s (byte_more p) h u e l, stream_is s p h u e (omega arith), drop-cons (unit_bytes s p.at u) p.passed 0 (omega arith), add-one p.passed)

  -- the unit's last byte
  stream_last : p.passed < length (unit_bytes s p.at u) → length (unit_bytes s p.at u) ≤ p.passed + 1
      → get_or (unit_bytes s p.at u) p.passed 0 ∷ stream s (start_at (unit_end p.at u)) ≡ stream s p
  stream_last l m =
      let d = drop_of_length-le (unit_bytes s p.at u) {i = suc p.passed} (omega arith) in
      rw (stream_is s p h u e l, drop-cons (unit_bytes s p.at u) p.passed 0 l, d, stream_start s (unit_end p.at u))

-- a position at the first byte of a unit
pub start_is : (p : Position) → p.passed ≡ 0 → start_at p.at ≡ p
start_is p e = ap from (sym e) where
  from : ℕ → Position
  from k = record { at = p.at; passed = k }

-- ---- the next byte, at the end of a string or at a unit u
module _ (s : List ℕ) (p : Position) where
  next_stop : ends_string s p.at ≡ true → None ≡ next_byte s p
  unfolding next_byte bytes_at
  next_stop h = rw (h, le-ltb p.passed 0 (omega arith))

  module _ (h : ends_string s p.at ≡ false) (u : Option (ℕ × ℕ)) (e : unit_at s p.at ≡ u) where
    next_none : length (unit_bytes s p.at u) ≤ p.passed → None ≡ next_byte s p
    unfolding next_byte
    next_none l = rw (bytes_in_lem s p h u e, le-ltb _ _ l)

    next_more : p.passed + 1 < length (unit_bytes s p.at u) → Some ((get_or (unit_bytes s p.at u) p.passed 0), (byte_more p)) ≡ next_byte s p
    unfolding next_byte next_position
    next_more l =
        let m : p.passed < length (unit_bytes s p.at u) = omega arith in
        rw (bytes_in_lem s p h u e, lt-ltb _ _ m, lt-ltb _ _ l)

    next_last : p.passed < length (unit_bytes s p.at u) → length (unit_bytes s p.at u) ≤ p.passed + 1
        → Some ((get_or (unit_bytes s p.at u) p.passed 0), (start_at (unit_end p.at u))) ≡ next_byte s p
    unfolding next_byte next_position
    next_last l m = rw (bytes_in_lem s p h u e, lt-ltb _ _ l, le-ltb _ _ m, e)

-- a byte that stands for itself
module _ (s : List ℕ) (p : Position) (h : ends_string s p.at ≡ false) (e : unit_at s p.at ≡ None) where
  own_byte : cond (eqb p.passed 0) (Some ((byte s p.at), (start_at (p.at + 1)))) None ≡ next_byte s p
  own_byte = go (eqb p.passed 0) refl where
    go : (t : Bool) → eqb p.passed 0 ≡ t → cond t (Some ((byte s p.at), (start_at (p.at + 1)))) None ≡ next_byte s p
    go true q =
        let z : p.passed ≡ 0 = eqb-true _ _ q in
        let n = next_last s p h None e (omega arith) (omega arith) in
        ap (λ (k : ℕ). Some ((get_or (byte s p.at ∷ []) k 0), (start_at (p.at + 1)))) (sym z) ∙ n
    go false q = let z : p.passed ≡ 0 → ⊥ = eqb-false _ _ q in next_none s p h None e (omega arith)

-- ---- units
module _ (s : List ℕ) (n at b : ℕ) (eb : b ≡ byte s at) (u : ℕ) (hb : b ≡ 0x5C) (eu : u ≡ byte s (at + 1)) where
  module _ (f : Option (ℕ × Cursor)) (hu : u ≡ 0x75) (ef : f ≡ hex4_at s (at + 2)) (m : ℕ) (c : Cursor) (h : f ≡ Some (m, c)) where
    pub low_4 : (p : ℕ) → within 0xDC00 0xDFFF m ≡ true → p ≡ pair_code n m → Some (p, c.at) ≡ low_unit s n at
    unfolding low_unit
    low_4 p t e = rw (← eb, eq-eqb _ _ hb, ← eu, eq-eqb _ _ hu, ← ef, h, t, e)

module _ (s : List ℕ) (at : ℕ) (f : Option (ℕ × Cursor)) (ef : f ≡ hex4_at s at) (n : ℕ) (c : Cursor) (h : f ≡ Some (n, c)) where
  pub unicode_2 : (r : Option (ℕ × ℕ)) → within 0xD800 0xDBFF n ≡ true → r ≡ low_unit s n c.at → r ≡ unicode_unit s at
  unfolding unicode_unit
  unicode_2 r t e = rw (← ef, h, t) e

  pub unicode_4 : within 0xD800 0xDBFF n ≡ false → within 0xDC00 0xDFFF n ≡ false → Some (n, c.at) ≡ unicode_unit s at
  unfolding unicode_unit
  unicode_4 t u = rw (← ef, h, t, u)

module _ (s : List ℕ) (at b p : ℕ) (eb : b ≡ byte s at) (ep : p ≡ short_code b) where
  -- a short escape's letter stands inside the text
  pub short_inside : (p ≡ 256 → ⊥) → at < length s
  unfolding short_code
  short_inside h = inside s at b eb (go b ep) where
    go : (b : ℕ) → p ≡ short_code b → 0 < b
    go zero e = absurd (h e)
    go (suc b) e = omega arith

-- ---- the next byte
pub unit_plain : (s : List ℕ) (at : ℕ) → (byte s at ≡ 0x5C → ⊥) → unit_at s at ≡ None
unfolding unit_at
unit_plain s at h = rw (ne_eqb _ _ h)

pub next_over : (s : List ℕ) (p : Position) → length s ≤ p.at → None ≡ next_byte s p
next_over s p h = next_stop s p (ends_over s p.at h)

module _ (s : List ℕ) (at : ℕ) (l : at < length s) (eb : byte s at ≡ 0x5C) (u : Option (ℕ × ℕ)) (eu : u ≡ escape_unit s (at + 1)) where
  goes : ends_string s at ≡ false
  goes = ends_not s at l (λ z. omega arith)

  pub unit_escape : unit_at s at ≡ u
  unfolding unit_at
  unit_escape = rw (eq-eqb _ _ eb, ← eu)

module _ (s : List ℕ) (p : Position) (l : p.at < length s) where
  pub next_quote : byte s p.at ≡ 0x22 → None ≡ next_byte s p
  next_quote h = next_stop s p (ends_quote s p.at l h)

  module _ (h : byte s p.at ≡ 0x5C → ⊥) (q : byte s p.at ≡ 0x22 → ⊥) where
    pub next_own : cond (eqb p.passed 0) (Some ((byte s p.at), (start_at (p.at + 1)))) None ≡ next_byte s p
    next_own = own_byte s p (ends_not s p.at l q) (unit_plain s p.at h)

    pub next_plain : p.passed ≡ 0 → Some ((byte s p.at), (start_at (p.at + 1))) ≡ next_byte s p
    next_plain e = rw (eq-eqb _ _ e) at next_own

  module _ (eb : byte s p.at ≡ 0x5C) (u : Option (ℕ × ℕ)) (eu : u ≡ escape_unit s (p.at + 1)) where
    pub escape_own : u ≡ None → cond (eqb p.passed 0) (Some (0x5C, (start_at (p.at + 1)))) None ≡ next_byte s p
    escape_own h = let e = own_byte s p (goes s p.at l eb u eu) (unit_escape s p.at l eb u eu ∙ h) in rw eb at e

    module _ (c j n : ℕ) (h : u ≡ Some (c, j)) (en : n ≡ length (utf8 c)) where
      pub escape_none : n ≤ p.passed → None ≡ next_byte s p
      escape_none g = next_none s p (goes s p.at l eb u eu) (Some (c, j)) (unit_escape s p.at l eb u eu ∙ h) (omega arith)

      module _ (b : ℕ) (e : b ≡ get_or (utf8 c) p.passed 0) where
        pub escape_more : p.passed + 1 < n → Some (b, (byte_more p)) ≡ next_byte s p
        escape_more g = rw e (next_more s p (goes s p.at l eb u eu) (Some (c, j)) (unit_escape s p.at l eb u eu ∙ h) (omega arith))

        pub escape_last : p.passed < n → n ≤ p.passed + 1 → Some (b, (start_at j)) ≡ next_byte s p
        escape_last f g = rw e (next_last s p (goes s p.at l eb u eu) (Some (c, j)) (unit_escape s p.at l eb u eu ∙ h) (omega arith) (omega arith))

-- what a next byte says of the stream
abbrev streamed : List ℕ → Option (ℕ × Position) → List ℕ
streamed s (Some (b, p)) = b ∷ stream s p
streamed s None = []

stream_by : (s : List ℕ) (p : Position) → streamed s (next_byte s p) ≡ stream s p
stream_by s p = go (ends_string s p.at) refl where
  len : ℕ
  len = length (unit_bytes s p.at (unit_at s p.at))

  last : (t : Bool) → ltb (p.passed + 1) len ≡ t → ends_string s p.at ≡ false → p.passed < len → streamed s (next_byte s p) ≡ stream s p
  last true q h l = let m : p.passed + 1 < len = ltb-true _ _ q in rw (← next_more s p h (unit_at s p.at) refl m) (stream_more s p h (unit_at s p.at) refl m)
  last false q h l = let m : len ≤ p.passed + 1 = ltb-false _ _ q in rw (← next_last s p h (unit_at s p.at) refl l m) (stream_last s p h (unit_at s p.at) refl l m)

  inner : (t : Bool) → ltb p.passed len ≡ t → ends_string s p.at ≡ false → streamed s (next_byte s p) ≡ stream s p
  inner true q h = last (ltb (p.passed + 1) len) refl h (ltb-true _ _ q)
  inner false q h = let m : len ≤ p.passed = ltb-false _ _ q in rw (← next_none s p h (unit_at s p.at) refl m) (stream_none s p h (unit_at s p.at) refl m)

  go : (t : Bool) → ends_string s p.at ≡ t → streamed s (next_byte s p) ≡ stream s p
  go true h = rw (← next_stop s p h) (stream_end s p h)
  go false h = inner (ltb p.passed len) refl h

-- g is the next byte from a position on
module _ (s : List ℕ) (p : Position) (g : Option (ℕ × Position)) (e : g ≡ next_byte s p) where
  pub streamed_next : (b : ℕ) (q : Position) → g ≡ Some (b, q) → stream s p ≡ b ∷ stream s q
  streamed_next b q h = sym (stream_by s p) ∙ ap (streamed s) (sym e ∙ h)

  pub streamed_end : g ≡ None → stream s p ≡ []
  streamed_end h = sym (stream_by s p) ∙ ap (streamed s) (sym e ∙ h)

pub shorter : (x y : List ℕ) (b : ℕ) → x ≡ b ∷ y → length y < length x
shorter x y b e = omega (arith, ap length e)

pub ruleset stream_laws = (stream_start, streamed_next, streamed_end, shorter)

-- ---- a string's body by itself
module _ (s : List ℕ) where
  body_is : (r : Option Cursor) (j : ℕ) → body_onward r ≡ on j → r ≡ to j
  body_is (Some c) j e = let m : c.at ≡ j = cc in ap to m
  body_is None j e = let z : ◌≡◌ {A = ℕ} 0 1 = cc in absurd (omega arith)

  pub past_character : (i : ℕ) (c : Cursor) → character_at s i ≡ Some c → i < c.at
  past_character i c e = let l = onward_is (subst (λ (r : Option Cursor). Onward (i + 1) r) e (character_onward s i)) in omega arith

  body_advances : Advances s (body_turn s)
  unfolding body_turn
  body_advances i j e = go (leb (length s) i) (eqb (byte s i) 0x22) refl e where
    go : (t u : Bool) → leb (length s) i ≡ t
        → ◌≡◌ {A = Turn Bool} (cond t (out true) (cond u (out false) (body_onward (character_at s i)))) (on j) → (i < j) × (i < length s)
    go true u q e = let z : ◌≡◌ {A = ℕ} 0 1 = cc in absurd (omega arith)
    go false true q e = let z : ◌≡◌ {A = ℕ} 0 1 = cc in absurd (omega arith)
    go false false q e = (past_character i _ (body_is (character_at s i) j e), leb-false _ _ q)

  module _ (i : ℕ) where
    pub body_end : length s ≤ i → true ≡ run_text s false (body_turn s) i
    unfolding body_turn
    body_end h = run_out s false (body_turn s) i true (rw (le-leb _ _ h))

    module _ (l : i < length s) where
      pub body_quote : byte s i ≡ 0x22 → false ≡ run_text s false (body_turn s) i
      unfolding body_turn
      body_quote h = run_out s false (body_turn s) i false (rw (lt-leb _ _ l, eq-eqb _ _ h))

      module _ (h : byte s i ≡ 0x22 → ⊥) (r : Option Cursor) (er : r ≡ character_at s i) where
        pub body_bad : r ≡ None → false ≡ run_text s false (body_turn s) i
        unfolding body_turn
        body_bad g = run_out s false (body_turn s) i false (rw (lt-leb _ _ l, ne_eqb _ _ h, ← er, g))

        module _ (c : Cursor) (g : r ≡ Some c) where
          pub body_less : i < c.at
          body_less = past_character i c (sym er ∙ g)

          pub body_on : run_text s false (body_turn s) c.at ≡ run_text s false (body_turn s) i
          unfolding body_turn
          body_on = run_on s false (body_turn s) body_advances i c.at (rw (lt-leb _ _ l, ne_eqb _ _ h, ← er, g))

  -- a plain byte is a character
  body_plain : (i : ℕ) → plain_byte (byte s i) ≡ true → run_text s false (body_turn s) (i + 1) ≡ run_text s false (body_turn s) i
  body_plain i t =
      let p = plain_is (byte s i) t in
      body_on i (plain_inside s i (byte s i) refl t) p.quote (to (i + 1)) (character_plain s i (byte s i) refl p.low p.slash p.high) (record { at = i + 1 }) refl

  -- past plain bytes, the first of them at i
  module _ (i j : ℕ) (t : plain_byte (byte s i) ≡ true) (e : j ≡ skip_while plain_byte s (i + 1)) where
    pub body_skip_less : i < j
    body_skip_less = omega (arith, e, skip_onward plain_byte no_plain s (i + 1))

    pub body_skip_on : run_text s false (body_turn s) j ≡ run_text s false (body_turn s) i
    body_skip_on = rw e (skip_pass plain_byte no_plain s (run_text s false (body_turn s)) body_plain (i + 1) ∙ body_plain i t)

pub ruleset body_laws = (body_end, body_quote, body_bad, body_less, body_on, body_skip_less, body_skip_on)

-- ---- bytes that are neither a backslash nor a quote, up to the end z, stand for themselves
module _ (s : List ℕ) where
  pub plain_part : (z : ℕ) → ends_string s z ≡ true → z ≤ length s → (n at : ℕ) → at + n ≡ z
      → ((i : ℕ) → at ≤ i → i < z → (byte s i ≡ 0x5C → ⊥) × (byte s i ≡ 0x22 → ⊥)) → decoded_from s at ≡ take n (drop at s)
  plain_part z e l zero at q h = let p : at ≡ z = omega arith in from_end s at (rw p e)
  plain_part z e l (suc n) at q h =
      let b = h at (omega arith) (omega arith) in
      let r = plain_part z e l n (at + 1) (omega arith) (λ i f g. h i (omega arith) g) in
      let m : at < length s = omega arith in
      rw (from_unit s at None (ends_not s at m b.1) (unit_plain s at b.0), r, add-one at, drop-cons s at 0 m)

  pub plain_whole : ((i : ℕ) → i < length s → (byte s i ≡ 0x5C → ⊥) × (byte s i ≡ 0x22 → ⊥)) → decoded_from s 0 ≡ s
  plain_whole h = plain_part (length s) (ends_over s (length s) (omega arith)) (omega arith) (length s) 0 (omega arith) (λ i f g. h i g) ∙ take-length s
