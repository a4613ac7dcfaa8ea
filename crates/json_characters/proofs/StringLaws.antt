-- Steps of the definitions of specs/String.antt, on plain variables.
use Rattle.std.specs.Prelude.{None, Option, Some}
use mathlib.Core.Path.{◌≡◌, refl, sym, ap, subst, ◌∙◌}
use mathlib.Core.Bool.{Bool, true, false, cond}
use mathlib.Core.List.{List}
use Prim.Native.Nat.{ℕ, zero, suc, ◌≤◌, ◌<◌, ◌+◌, ◌*◌}
use native.Mathlib.Omega.{arith}
use lib.ListN.{length}
use lib.Dec.{eqb, ltb}
use borrow.Author.Tests.{eq-eqb, ne_eqb, lt-ltb, le-ltb, ltb-false}
use Rattle.json_blocks.specs.declared.Cursor.{Cursor}
use Rattle.json_blocks.specs.Turns.{Turn, on, out, after_turn, run_turns, run_text}
use Rattle.json_blocks.specs.TextBytes.{byte, to, within, skip_while, byte_within}
use Rattle.json_blocks.specs.Blocks.{plain_byte, PlainTo}
use Rattle.json_characters.specs.String.{two_bytes, three_bytes, multibyte_at, hex_value, if_hex, hex4_at, after_hex4, low_surrogate_at, unicode_escape_at, short_escape, escape_at, character_at, onward, string_turn, string_at}
use Rattle.json_blocks.proofs.TurnLaws.{Advances, run_out, run_on}
use Rattle.json_blocks.proofs.BlockLaws.{plain_is, no_plain, good_pass}
use Rattle.json_blocks.proofs.ByteLaws.{inside, cond_elim, skip_on, Onward, on_to, on_bad, onward_is, onward_cond, onward_less, onward_past, onward_then, byte_onward}

-- ---- four hexadecimal digits
pub hex_inside : (s : List ℕ) (i b x : ℕ) → b ≡ byte s i → x ≡ hex_value b → x ≤ 15 → i < length s
unfolding hex_value within
hex_inside s i b x e h l = inside s i b e (go b (omega arith)) where
  go : (b : ℕ) → hex_value b ≤ 15 → 0 < b
  go zero p = absurd (omega arith)
  go (suc b) p = omega arith

pub hex4_is : (s : List ℕ) (at a : ℕ) → a ≡ hex_value (byte s at) → (b : ℕ) → a ≤ 15 → b ≡ hex_value (byte s (at + 1)) → (c : ℕ) → b ≤ 15 → c ≡ hex_value (byte s (at + 2)) → (d : ℕ) → c ≤ 15 → d ≡ hex_value (byte s (at + 3))
    → d ≤ 15 → Some ((((a * 16 + b) * 16 + c) * 16 + d), (record { at = at + 4 })) ≡ hex4_at s at
unfolding hex4_at
hex4_is s at a ea b ha eb c hb ec d hc ed h = rw (← ea, le-ltb _ _ ha, ← eb, le-ltb _ _ hb, ← ec, le-ltb _ _ hc, ← ed, le-ltb _ _ h)

-- ---- the escape of a low surrogate
pub low_is : (s : List ℕ) (at b : ℕ) → b ≡ byte s at → (u : ℕ) → b ≡ 0x5C → u ≡ byte s (at + 1) → (f : Option (ℕ × Cursor)) → u ≡ 0x75 → f ≡ hex4_at s (at + 2)
    → (n : ℕ) (c : Cursor) → f ≡ Some (n, c) → within 0xDC00 0xDFFF n ≡ true → Some c ≡ low_surrogate_at s at
unfolding low_surrogate_at
low_is s at b eb u hb eu f hu ef n c h t = rw (← eb, eq-eqb _ _ hb, ← eu, eq-eqb _ _ hu, ← ef, h, t)

-- ---- past `\u`
module _ (s : List ℕ) (at : ℕ) (f : Option (ℕ × Cursor)) (ef : f ≡ hex4_at s at) where
  module _ (n : ℕ) (c : Cursor) (h : f ≡ Some (n, c)) where
    pub unicode_pair : (r : Option Cursor) → within 0xD800 0xDBFF n ≡ true → r ≡ low_surrogate_at s c.at → r ≡ unicode_escape_at s at
    unfolding unicode_escape_at
    unicode_pair r t e = rw (← ef, h, t) e

    pub unicode_one : within 0xD800 0xDBFF n ≡ false → within 0xDC00 0xDFFF n ≡ false → Some c ≡ unicode_escape_at s at
    unfolding unicode_escape_at
    unicode_one t u = rw (← ef, h, t, u)

-- ---- past a backslash
module _ (s : List ℕ) (at b : ℕ) (eb : b ≡ byte s at) where
  pub escape_short : short_escape b ≡ true → to (at + 1) ≡ escape_at s at
  unfolding escape_at
  escape_short h = rw (← eb, h)

  pub escape_unicode : (r : Option Cursor) → short_escape b ≡ false → b ≡ 0x75 → r ≡ unicode_escape_at s (at + 1) → r ≡ escape_at s at
  unfolding escape_at
  escape_unicode r h g e = rw (← eb, h, eq-eqb _ _ g) e

pub no_short : short_escape 0 ≡ false
unfolding short_escape
no_short = refl

-- ---- characters
module _ (s : List ℕ) (at b : ℕ) (eb : b ≡ byte s at) where
  module _ (h : 0x20 ≤ b) where
    pub character_escape : (r : Option Cursor) → b ≡ 0x5C → r ≡ escape_at s (at + 1) → r ≡ character_at s at
    unfolding character_at
    character_escape r g e = rw (← eb, le-ltb _ _ h, eq-eqb _ _ g) e

    pub character_plain : (b ≡ 0x5C → ⊥) → b < 0x80 → to (at + 1) ≡ character_at s at
    unfolding character_at
    character_plain g l = rw (← eb, le-ltb _ _ h, ne_eqb _ _ g, lt-ltb _ _ l)

    pub character_wide : (r : Option Cursor) → (b ≡ 0x5C → ⊥) → 0x80 ≤ b → r ≡ multibyte_at b s (at + 1) → r ≡ character_at s at
    unfolding character_at
    character_wide r g l e = rw (← eb, le-ltb _ _ h, ne_eqb _ _ g, le-ltb _ _ l) e

-- ---- no reader goes back
two_onward : (s : List ℕ) (lo hi at : ℕ) → Onward at (two_bytes s lo hi at)
unfolding two_bytes
two_onward s lo hi at = onward_then (byte_within s 0x80 0xBF) (byte_onward s lo hi at) (byte_onward s 0x80 0xBF)

three_onward : (s : List ℕ) (lo hi at : ℕ) → Onward at (three_bytes s lo hi at)
unfolding three_bytes
three_onward s lo hi at = onward_then (two_bytes s 0x80 0xBF) (byte_onward s lo hi at) (two_onward s 0x80 0xBF)

multibyte_onward : (b : ℕ) (s : List ℕ) (at : ℕ) → Onward at (multibyte_at b s at)
unfolding multibyte_at
multibyte_onward b s at =
    onward_cond (within 0xC2 0xDF b) (byte_onward s 0x80 0xBF at)
    (onward_cond (eqb b 0xE0) (two_onward s 0xA0 0xBF at)
    (onward_cond (within 0xE1 0xEC b) (two_onward s 0x80 0xBF at)
    (onward_cond (eqb b 0xED) (two_onward s 0x80 0x9F at)
    (onward_cond (within 0xEE 0xEF b) (two_onward s 0x80 0xBF at)
    (onward_cond (eqb b 0xF0) (three_onward s 0x90 0xBF at)
    (onward_cond (within 0xF1 0xF3 b) (three_onward s 0x80 0xBF at)
    (onward_cond (eqb b 0xF4) (three_onward s 0x80 0x8F at)
    on_bad)))))))

data OnwardHex4 (at : ℕ) : Option (ℕ × Cursor) → Type 0 where
  hex_code : {n : ℕ} {c : Cursor} → at ≤ c.at → OnwardHex4 at (Some (n, c))
  hex_bad : OnwardHex4 at None

onward_digit : {at : ℕ} {f : (Option (ℕ × Cursor))} (x : ℕ) → OnwardHex4 at f → OnwardHex4 at (if_hex x f)
onward_digit x p = go (ltb 15 x) p where
  go : {at : ℕ} {f : (Option (ℕ × Cursor))} (t : Bool) → OnwardHex4 at f → OnwardHex4 at (cond t None f)
  go true p = hex_bad
  go false p = p

hex4_onward : (s : List ℕ) (at : ℕ) → OnwardHex4 at (hex4_at s at)
unfolding hex4_at
hex4_onward s at =
    onward_digit (hex_value (byte s at))
    (onward_digit (hex_value (byte s (at + 1)))
    (onward_digit (hex_value (byte s (at + 2)))
    (onward_digit (hex_value (byte s (at + 3))) (hex_code {c = record { at = at + 4 }} (omega arith)))))

onward_hex4 : {at : ℕ} {x : (Option (ℕ × Cursor))} (f : ℕ → ℕ → Option Cursor) → OnwardHex4 at x → ((n j : ℕ) → Onward j (f n j)) → Onward at (after_hex4 x f)
onward_hex4 f (hex_code {n} {c} p) g = onward_less p (g n c.at)
onward_hex4 f hex_bad g = on_bad

low_onward : (s : List ℕ) (at : ℕ) → Onward at (low_surrogate_at s at)
unfolding low_surrogate_at
low_onward s at =
    onward_cond (eqb (byte s at) 0x5C)
    (onward_cond (eqb (byte s (at + 1)) 0x75)
    (onward_less {at = at} {i = at + 2} (omega arith)
    (onward_hex4 (λ n j. cond (within 0xDC00 0xDFFF n) (to j) None) (hex4_onward s (at + 2)) (λ n j. onward_cond (within 0xDC00 0xDFFF n) (on_to (omega arith)) on_bad)))
    on_bad)
    on_bad

unicode_onward : (s : List ℕ) (at : ℕ) → Onward at (unicode_escape_at s at)
unfolding unicode_escape_at
unicode_onward s at =
    onward_hex4 (λ n j. cond (within 0xD800 0xDBFF n) (low_surrogate_at s j) (cond (within 0xDC00 0xDFFF n) None (to j))) (hex4_onward s at)
    (λ n j. onward_cond (within 0xD800 0xDBFF n) (low_onward s j) (onward_cond (within 0xDC00 0xDFFF n) on_bad (on_to (omega arith))))

escape_onward : (s : List ℕ) (at : ℕ) → Onward at (escape_at s at)
unfolding escape_at
escape_onward s at =
    onward_cond (short_escape (byte s at)) (on_to (omega arith))
    (onward_cond (eqb (byte s at) 0x75) (onward_past (unicode_onward s (at + 1))) on_bad)

pub character_onward : (s : List ℕ) (at : ℕ) → Onward (at + 1) (character_at s at)
unfolding character_at
character_onward s at =
    onward_cond (ltb (byte s at) 0x20) on_bad
    (onward_cond (eqb (byte s at) 0x5C) (escape_onward s (at + 1))
    (onward_cond (ltb (byte s at) 0x80) (on_to (omega arith))
    (multibyte_onward (byte s at) s (at + 1))))

pub character_inside : (s : List ℕ) (at : ℕ) (c : Cursor) → character_at s at ≡ Some c → at < length s
unfolding character_at
character_inside s at c e =
    cond_elim (λ (r : Option Cursor). r ≡ Some c → at < length s) (ltb (byte s at) 0x20) _ _
    (λ q h. let z : ◌≡◌ {A = ℕ} 0 1 = cc in absurd (omega arith))
    (λ q h. let l : 0x20 ≤ byte s at = ltb-false (byte s at) 0x20 q in inside s at (byte s at) refl (omega arith)) e

-- ---- strings
module _ (s : List ℕ) where
  turn_is : (r : Option Cursor) (j : ℕ) → onward r ≡ on j → r ≡ to j
  turn_is (Some c) j e = let m : c.at ≡ j = cc in ap to m
  turn_is None j e = let z : ◌≡◌ {A = ℕ} 0 1 = cc in absurd (omega arith)

  string_advances : Advances s (string_turn s)
  unfolding string_turn
  string_advances i j e = go (eqb (byte s i) 0x22) e where
    go : (t : Bool) → ◌≡◌ {A = Turn (Option Cursor)} (cond t (out (to (i + 1))) (onward (character_at s i))) (on j) → (i < j) × (i < length s)
    go true e = let z : ◌≡◌ {A = ℕ} 0 1 = cc in absurd (omega arith)
    go false e =
        let u = turn_is (character_at s i) j e in
        let l = onward_is (subst (λ (r : Option Cursor). Onward (i + 1) r) u (character_onward s i)) in
        (omega arith, character_inside s i _ u)

  module _ (i b : ℕ) (eb : b ≡ byte s i) where
    pub string_close : b ≡ 0x22 → to (i + 1) ≡ string_at s i
    unfolding string_at string_turn
    string_close h = run_out s None (string_turn s) i _ (rw (← eb, eq-eqb _ _ h))

    module _ (h : b ≡ 0x22 → ⊥) (r : Option Cursor) (er : r ≡ character_at s i) where
      pub string_bad : r ≡ None → None ≡ string_at s i
      unfolding string_at string_turn
      string_bad g = run_out s None (string_turn s) i None (rw (← eb, ne_eqb _ _ h, ← er, g))

      pub string_less : (c : Cursor) → r ≡ Some c → (i < c.at) × (i < length s)
      string_less c g =
          let l = onward_is (subst (λ (x : Option Cursor). Onward (i + 1) x) (sym er ∙ g) (character_onward s i)) in
          (omega arith, character_inside s i c (sym er ∙ g))

      pub string_on : (c : Cursor) → r ≡ Some c → string_at s c.at ≡ string_at s i
      unfolding string_at string_turn
      string_on c g = run_on s None (string_turn s) string_advances i c.at (rw (← eb, ne_eqb _ _ h, ← er, g))

string_onward_f : (s : List ℕ) (n at : ℕ) → Onward (at + 1) (run_turns None (string_turn s) n at)
unfolding run_turns string_turn
string_onward_f s zero at = on_bad
string_onward_f s (suc n) at = go (eqb (byte s at) 0x22) (character_at s at) (character_onward s at) (string_onward_f s n) where
  go : (t : Bool) (r : Option Cursor) → Onward (at + 1) r → ((i : ℕ) → Onward (i + 1) (run_turns None (string_turn s) n i))
      → Onward (at + 1) (after_turn {A = (Option Cursor)} (cond t (out (to (at + 1))) (onward r)) (λ j. run_turns None (string_turn s) n j))
  go true r p f = on_to {c = record { at = at + 1 }} (omega arith)
  go false (Some c) p f = let l = onward_is p in onward_less {at = at + 1} {i = c.at + 1} (omega arith) (f c.at)
  go false None p f = on_bad

-- a string has its closing quote
pub string_onward : (s : List ℕ) (at : ℕ) → Onward (at + 1) (string_at s at)
unfolding string_at run_text
string_onward s at = string_onward_f s (suc (length s)) at

-- ---- past plain bytes
module _ (s : List ℕ) where
  -- a plain byte is a character
  pub plain_string : (i b : ℕ) → b ≡ byte s i → plain_byte b ≡ true → string_at s (i + 1) ≡ string_at s i
  plain_string i b e h =
      let p = plain_is b h in
      string_on s i b e p.quote (to (i + 1)) (character_plain s i b e p.low p.slash p.high) (record { at = i + 1 }) refl

  -- a string goes on past plain bytes
  pub plain_strings : (at r : ℕ) → PlainTo s at r → string_at s r ≡ string_at s at
  plain_strings = good_pass plain_byte s (string_at s) (λ i h. plain_string i (byte s i) refl h)

  -- so do the plain bytes themselves
  pub plain_skips : (at r : ℕ) → PlainTo s at r → skip_while plain_byte s r ≡ skip_while plain_byte s at
  plain_skips = good_pass plain_byte s (skip_while plain_byte s) (λ i h. skip_on plain_byte no_plain s i (byte s i) refl h)
