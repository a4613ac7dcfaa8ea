-- Strings: what the reader finds is a string, and a string is found.
use Rattle.std.specs.Prelude.{None, Option, Some}
use mathlib.Core.Path.{◌≡◌, refl, sym, ap, subst, ◌∙◌}
use mathlib.Core.Bool.{Bool, true, false, cond}
use mathlib.Core.List.{List, [], ◌∷◌, ◌++◌}
use Prim.Native.Nat.{ℕ, zero, suc, ◌≤◌, ◌<◌, ◌+◌, ◌*◌}
use native.Mathlib.Omega.{arith}
use lib.ListN.{length}
use lib.Dec.{eqb, ltb, leb}
use borrow.Author.Tests.{ne_eqb, eqb-true, eqb-false, ltb-true, ltb-false, leb-true, leb-false}
use Rattle.json_blocks.specs.declared.Cursor.{Cursor}
use Rattle.json_blocks.specs.Turns.{out, after_turn, run_turns, run_text}
use Rattle.json_blocks.specs.TextBytes.{byte, to, and_then, within, byte_within}
use Rattle.json_characters.specs.String.{two_bytes, three_bytes, multibyte_at, hex_value, hex4_at, after_hex4, low_surrogate_at, unicode_escape_at, short_escape, escape_at, character_at}
use Rattle.json_characters.specs.String.{onward, string_turn, string_at}
use Rattle.json_blocks.proofs.ByteLaws.{inside, cond_elim, good_inside, within_from, within_below, within_above}
use Rattle.json_characters.proofs.StringLaws.{hex_inside, hex4_is, low_is, unicode_pair, unicode_one, escape_short, escape_unicode, no_short}
use Rattle.json_characters.proofs.StringLaws.{character_escape, character_plain, character_wide, string_close, string_on}
use Rattle.json_grammar.specs.Grammar.{Between, HexDigit, decimal, capital, small, CodeUnit, code_unit, Multibyte, row2, row3, row4, row5, row6, row7, row8, row9}
use Rattle.json_grammar.specs.Grammar.{Short, quotation_mark, reverse_solidus, solidus, backspace, form_feed, new_line, return, tabulation}
use Rattle.json_grammar.specs.Grammar.{Character, plain, multibyte, short, below, above, surrogates, Characters, no_characters, characters, String, string}
use Rattle.json_grammar.specs.Stands.{Stands}
use Rattle.json_grammar.proofs.Stands.{stands_none, stands_one, stands_join, stands_head, stands_tail, stands_left, stands_right}
use Rattle.json_grammar.proofs.Derived.{Derived, derived, Closed, closed, derived_cons, derived_after}
use Rattle.json_grammar.proofs.Derived.{stands_here, stands_cons, stands_at, stands_first, stands_nil, stands_next, Got, got, not_got, got_to_lem, got_map}
use Rattle.json_grammar.proofs.Skips.{or_is, between_is, is_between}

-- ---- bytes in a row, sound
module _ (s : List ℕ) (lo hi i : ℕ) (P : List ℕ → Type 0) (h : 0 < lo) where
  byte_sound : ((b : ℕ) → Between lo hi b → P (b ∷ [])) → Got (Derived P s i) (byte_within s lo hi i)
  unfolding byte_within
  byte_sound f =
      cond_elim (Got (Derived P s i)) (within lo hi (byte s i)) _ _
      (λ e. let w = between_is e in got_to_lem (derived (f (byte s i) w) (stands_here refl (omega (arith, w.low))))) (λ e. not_got)

  byte_then : (g : ℕ → Option Cursor) → ((b : ℕ) → Between lo hi b → Got (Derived (λ xs. P (b ∷ xs)) s (i + 1)) (g (i + 1))) → Got (Derived P s i) (and_then (byte_within s lo hi i) g)
  unfolding byte_within
  byte_then g f =
      cond_elim (λ r. Got (Derived P s i) (and_then r g)) (within lo hi (byte s i)) _ _
      (λ e. let w = between_is e in got_map (λ j p. derived_cons refl (omega (arith, w.low)) p) (f (byte s i) w)) (λ e. not_got)

module _ (s : List ℕ) (lo hi i : ℕ) (P : List ℕ → Type 0) (h : 0 < lo) where
  two_sound : ((b c : ℕ) → Between lo hi b → Between 0x80 0xBF c → P (b ∷ (c ∷ []))) → Got (Derived P s i) (two_bytes s lo hi i)
  unfolding two_bytes
  two_sound f = byte_then s lo hi i P h _ (λ b p. byte_sound s 0x80 0xBF (i + 1) _ (omega arith) (λ c q. f b c p q))

module _ (s : List ℕ) (lo hi i : ℕ) (P : List ℕ → Type 0) (h : 0 < lo) where
  three_sound : ((b c d : ℕ) → Between lo hi b → Between 0x80 0xBF c → Between 0x80 0xBF d → P (b ∷ (c ∷ (d ∷ [])))) → Got (Derived P s i) (three_bytes s lo hi i)
  unfolding three_bytes
  three_sound f = byte_then s lo hi i P h _ (λ b p. two_sound s 0x80 0xBF (i + 1) _ (omega arith) (λ c d q r. f b c d p q r))

multibyte_sound : (b : ℕ) (s : List ℕ) (i : ℕ) → Got (Derived (λ xs. Character (b ∷ xs)) s i) (multibyte_at b s i)
unfolding multibyte_at
multibyte_sound b s i =
    cond_elim G (within 0xC2 0xDF b) _ _ (λ e. byte_sound s 0x80 0xBF i P (omega arith) (λ c p. multibyte (row2 (between_is e) p)))
    (λ _. cond_elim G (eqb b 0xE0) _ _ (λ e. two_sound s 0xA0 0xBF i P (omega arith) (λ c d p q. rw (eqb-true b 0xE0 e) (multibyte (row3 p q))))
    (λ _. cond_elim G (within 0xE1 0xEC b) _ _ (λ e. two_sound s 0x80 0xBF i P (omega arith) (λ c d p q. multibyte (row4 (between_is e) p q)))
    (λ _. cond_elim G (eqb b 0xED) _ _ (λ e. two_sound s 0x80 0x9F i P (omega arith) (λ c d p q. rw (eqb-true b 0xED e) (multibyte (row5 p q))))
    (λ _. cond_elim G (within 0xEE 0xEF b) _ _ (λ e. two_sound s 0x80 0xBF i P (omega arith) (λ c d p q. multibyte (row6 (between_is e) p q)))
    (λ _. cond_elim G (eqb b 0xF0) _ _ (λ e. three_sound s 0x90 0xBF i P (omega arith) (λ c d f p q r. rw (eqb-true b 0xF0 e) (multibyte (row7 p q r))))
    (λ _. cond_elim G (within 0xF1 0xF3 b) _ _ (λ e. three_sound s 0x80 0xBF i P (omega arith) (λ c d f p q r. multibyte (row8 (between_is e) p q r)))
    (λ _. cond_elim G (eqb b 0xF4) _ _ (λ e. three_sound s 0x80 0x8F i P (omega arith) (λ c d f p q r. rw (eqb-true b 0xF4 e) (multibyte (row9 p q r))))
    (λ _. not_got))))))))
  where
    P : List ℕ → Type 0
    P xs = Character (b ∷ xs)

    G : Option Cursor → Type 0
    G r = Got (Derived P s i) r

-- ---- escapes, sound
digit_sound : (b : ℕ) → hex_value b ≤ 15 → HexDigit b (hex_value b)
unfolding hex_value
digit_sound b =
    cond_elim P (within 48 57 b) _ _ (λ e _. decimal (between_is e))
    (λ _. cond_elim P (within 65 70 b) _ _ (λ e _. let w : Between 65 70 b = between_is e in subst (HexDigit b) (omega arith) (capital w))
    (λ _. cond_elim P (within 97 102 b) _ _ (λ e _. let w : Between 97 102 b = between_is e in subst (HexDigit b) (omega arith) (small w))
    (λ _ h. absurd (omega arith))))
  where
    P : ℕ → Type 0
    P n = n ≤ 15 → HexDigit b n

-- four hexadecimal digits that were read make a code unit
data GotHex (s : List ℕ) (i : ℕ) : Option (ℕ × Cursor) → Type 0 where
  got_hex : {n : ℕ} {c : Cursor} → Derived (λ xs. CodeUnit (0x5C ∷ (0x75 ∷ xs)) n) s i c.at → GotHex s i (Some (n, c))
  not_hex : GotHex s i None

hex4_sound : (s : List ℕ) (i : ℕ) → GotHex s i (hex4_at s i)
unfolding hex4_at
hex4_sound s i =
    cond_elim (GotHex s i) (ltb 15 (hex_value (byte s i))) _ _ (λ _. not_hex)
    (λ e. cond_elim (GotHex s i) (ltb 15 (hex_value (byte s (i + 1)))) _ _ (λ _. not_hex)
    (λ f. cond_elim (GotHex s i) (ltb 15 (hex_value (byte s (i + 2)))) _ _ (λ _. not_hex)
    (λ g. cond_elim (GotHex s i) (ltb 15 (hex_value (byte s (i + 3)))) _ _ (λ _. not_hex)
    (λ h. got_hex {c = record { at = i + 4 }} (derived (code_unit (is _ e) (is _ f) (is _ g) (is _ h))
    (stands_join s (stands_one s i (in_text i e))
    (stands_join s (stands_at i 1 (in_text (i + 1) f)) (stands_join s (stands_at i 2 (in_text (i + 2) g)) (stands_at i 3 (in_text (i + 3) h))))))))))
  where
    is : (b : ℕ) → ltb 15 (hex_value b) ≡ false → HexDigit b (hex_value b)
    is b e = digit_sound b (ltb-false 15 _ e)

    in_text : (k : ℕ) → ltb 15 (hex_value (byte s k)) ≡ false → k < length s
    in_text k e = hex_inside s k (byte s k) _ refl refl (ltb-false 15 _ e)

within_not : {lo hi b : ℕ} → within lo hi b ≡ false → lo ≤ b → hi < b
within_not {lo} {hi} {b} e h = leb-false b hi (within_from lo hi b h ∙ e)

hex_limit : {b x : ℕ} → HexDigit b x → x ≤ 15
hex_limit (decimal p) = omega (arith, p.high)
hex_limit (capital p) = omega (arith, p.high)
hex_limit (small p) = omega (arith, p.high)

pub unit_limit : {u : List ℕ} {n : ℕ} → CodeUnit u n → n ≤ 0xFFFF
unit_limit (code_unit p q r t) = omega (arith, hex_limit p, hex_limit q, hex_limit r, hex_limit t)

-- a code unit that is no surrogate
single : {u : List ℕ} {n : ℕ} → CodeUnit u n → within 0xD800 0xDBFF n ≡ false → within 0xDC00 0xDFFF n ≡ false → Character u
single {u} {n} p e f = go (leb n 0xD7FF) refl where
  go : (t : Bool) → leb n 0xD7FF ≡ t → Character u
  go true h = let l = leb-true n 0xD7FF h in below p (omega arith)
  go false h =
      let l = leb-false n 0xD7FF h in
      let m = within_not e (omega arith) in
      let k = within_not f (omega arith) in
      above p (record { low = omega arith; high = unit_limit p })

low_sound : (s : List ℕ) (i : ℕ) (P : List ℕ → Type 0) → ((v : List ℕ) (m : ℕ) → CodeUnit v m → Between 0xDC00 0xDFFF m → P v) → Got (Derived P s i) (low_surrogate_at s i)
unfolding low_surrogate_at
low_sound s i P f =
    cond_elim (Got (Derived P s i)) (eqb (byte s i) 0x5C) _ _
    (λ e. cond_elim (Got (Derived P s i)) (eqb (byte s (i + 1)) 0x75) _ _
    (λ g. go (eqb-true _ _ e) (eqb-true _ _ g) (hex4_sound s (i + 2))) (λ _. not_got)) (λ _. not_got)
  where
    two : byte s i ≡ 0x5C → byte s (i + 1) ≡ 0x75 → Stands s i (0x5C ∷ (0x75 ∷ [])) (i + 2)
    two e g =
        stands_join s (stands_here e (omega arith))
        (subst (λ (b : ℕ). Stands s (i + 1) (b ∷ []) (i + 2)) g (stands_at i 1 (inside s (i + 1) 0x75 (sym g) (omega arith))))

    go : {x : (Option (ℕ × Cursor))} → byte s i ≡ 0x5C → byte s (i + 1) ≡ 0x75 → GotHex s (i + 2) x → Got (Derived P s i) (after_hex4 x (λ n j. cond (within 0xDC00 0xDFFF n) (to j) None))
    go e g (got_hex {n} {c} (derived p q)) =
        cond_elim (Got (Derived P s i)) (within 0xDC00 0xDFFF n) _ _ (λ h. got_to_lem (derived (f _ n p (between_is h)) (stands_join s (two e g) q))) (λ _. not_got)
    go e g not_hex = not_got

unicode_sound : (s : List ℕ) (i : ℕ) → Got (Derived (λ xs. Character (0x5C ∷ (0x75 ∷ xs))) s i) (unicode_escape_at s i)
unfolding unicode_escape_at
unicode_sound s i = go (hex4_sound s i) where
  G : Option Cursor → Type 0
  G r = Got (Derived (λ xs. Character (0x5C ∷ (0x75 ∷ xs))) s i) r

  go : {x : (Option (ℕ × Cursor))} → GotHex s i x → G (after_hex4 x (λ n j. cond (within 0xD800 0xDBFF n) (low_surrogate_at s j) (cond (within 0xDC00 0xDFFF n) None (to j))))
  go (got_hex {n} {c} (derived {xs = u} p q)) =
      cond_elim G (within 0xD800 0xDBFF n) _ _
      (λ e. got_map (λ j r. derived_after q r)
      (low_sound s c.at (λ v. Character (0x5C ∷ (0x75 ∷ (u ++ v)))) (λ v m r h. surrogates p (between_is e) r h)))
      (λ e. cond_elim G (within 0xDC00 0xDFFF n) _ _ (λ _. not_got) (λ f. got_to_lem (derived (single p e f) q)))
  go not_hex = not_got

short_sound : (b : ℕ) → short_escape b ≡ true → Short b
unfolding short_escape
short_sound b =
    or_is Short b 0x74 _ (or_is Short b 0x72 _ (or_is Short b 0x6E _ (or_is Short b 0x66 _
    (or_is Short b 0x62 _ (or_is Short b 0x2F _ (or_is Short b 0x5C _ (λ e. subst Short (sym (eqb-true b 0x22 e)) quotation_mark)
    reverse_solidus) solidus) backspace) form_feed) new_line) return) tabulation

escape_sound : (s : List ℕ) (i : ℕ) → Got (Derived (λ xs. Character (0x5C ∷ xs)) s i) (escape_at s i)
unfolding escape_at
escape_sound s i =
    cond_elim G (short_escape (byte s i)) _ _
    (λ e. got_to_lem (derived (short (short_sound (byte s i) e)) (stands_one s i (good_inside short_escape no_short s i (byte s i) refl e))))
    (λ _. cond_elim G (eqb (byte s i) 0x75) _ _ (λ e. got_map (λ j p. derived_cons (eqb-true _ _ e) (omega arith) p) (unicode_sound s (i + 1))) (λ _. not_got))
  where
    G : Option Cursor → Type 0
    G r = Got (Derived (λ xs. Character (0x5C ∷ xs)) s i) r

pub character_sound : (s : List ℕ) (i : ℕ) → (byte s i ≡ 0x22 → ⊥) → Got (Derived Character s i) (character_at s i)
unfolding character_at
character_sound s i h =
    cond_elim G (ltb (byte s i) 0x20) _ _ (λ _. not_got)
    (λ c. cond_elim G (eqb (byte s i) 0x5C) _ _ (λ e. got_map (λ j p. derived_cons (eqb-true _ _ e) (omega arith) p) (escape_sound s (i + 1)))
    (λ e. cond_elim G (ltb (byte s i) 0x80) _ _
    (λ l.
    let d = ltb-false (byte s i) 0x20 c in
    let m = ltb-true (byte s i) 0x80 l in
    got_to_lem (derived (plain (omega arith) h (eqb-false _ _ e)) (stands_here refl (omega arith))))
    (λ l. let m = ltb-false (byte s i) 0x80 l in got_map (λ j p. derived_cons refl (omega arith) p) (multibyte_sound (byte s i) s (i + 1)))))
  where
    G : Option Cursor → Type 0
    G r = Got (Derived Character s i) r

-- ---- strings, sound
one_more_lem : {s : List ℕ} {i j k : ℕ} → Derived Character s i j → Closed Characters 0x22 s j k → Closed Characters 0x22 s i k
one_more_lem {s} (derived p q) (closed (derived r t) e) = closed (derived (characters p r) (stands_join s q t)) e

characters_sound : (s : List ℕ) (n i : ℕ) → Got (Closed Characters 0x22 s i) (run_turns None (string_turn s) n i)
unfolding run_turns string_turn
characters_sound s zero i = not_got
characters_sound s (suc n) i = go (eqb (byte s i) 0x22) refl (characters_sound s n) where
  next : {r : (Option Cursor)} → Got (Derived Character s i) r → ((j : ℕ) → Got (Closed Characters 0x22 s j) (run_turns None (string_turn s) n j))
      → Got (Closed Characters 0x22 s i) (after_turn {A = (Option Cursor)} (onward r) (λ j. run_turns None (string_turn s) n j))
  next (got {c} p) f = got_map (λ k q. one_more_lem p q) (f c.at)
  next not_got f = not_got

  go : (t : Bool) → eqb (byte s i) 0x22 ≡ t → ((j : ℕ) → Got (Closed Characters 0x22 s j) (run_turns None (string_turn s) n j))
      → Got (Closed Characters 0x22 s i) (after_turn {A = (Option Cursor)} (cond t (out (to (i + 1))) (onward (character_at s i))) (λ j. run_turns None (string_turn s) n j))
  go true e f = got_to_lem (closed (derived no_characters (stands_none s i)) (eqb-true _ _ e))
  go false e f = next (character_sound s i (eqb-false _ _ e)) f

string_of_lem : {s : List ℕ} {i j : ℕ} → byte s i ≡ 0x22 → Closed Characters 0x22 s (i + 1) j → Derived String s i j
string_of_lem {s} e (closed (derived p q) f) = derived (string p) (stands_cons e (omega arith) (stands_join s q (stands_here f (omega arith))))

pub string_sound : (s : List ℕ) (i : ℕ) → byte s i ≡ 0x22 → Got (Derived String s i) (string_at s (i + 1))
unfolding string_at run_text
string_sound s i e = got_map (λ j p. string_of_lem e p) (characters_sound s (suc (length s)) (i + 1))

-- ---- bytes in a row, complete
module _ {s : List ℕ} {i j lo hi b : ℕ} (p : Between lo hi b) where
  byte_complete : Stands s i (b ∷ []) j → byte_within s lo hi i ≡ to j
  unfolding byte_within
  byte_complete q = rw (stands_head s q, is_between p, stands_next q)

module _ {s : List ℕ} {i j lo hi b : ℕ} (p : Between lo hi b) where
  two_complete : {c : ℕ} → Between 0x80 0xBF c → Stands s i (b ∷ (c ∷ [])) j → two_bytes s lo hi i ≡ to j
  unfolding two_bytes
  two_complete r q = rw (byte_complete p (stands_first q)) (byte_complete r (stands_tail s q))

module _ {s : List ℕ} {i j lo hi b : ℕ} (p : Between lo hi b) where
  three_complete : {c d : ℕ} → Between 0x80 0xBF c → Between 0x80 0xBF d → Stands s i (b ∷ (c ∷ (d ∷ []))) j → three_bytes s lo hi i ≡ to j
  unfolding three_bytes
  three_complete r t q = rw (byte_complete p (stands_first q)) (two_complete r t (stands_tail s q))

-- a character is read from i up to j, and is not the closing quote
pub record Reads (s : List ℕ) (i j : ℕ) : Type 0 where
  pub inner : byte s i ≡ 0x22 → ⊥
  pub reads : character_at s i ≡ to j

wide : {s : List ℕ} {i j b : ℕ} → byte s i ≡ b → 0x80 ≤ b → multibyte_at b s (i + 1) ≡ to j → Reads s i j
wide {s} {i} {j} {b} e h m = record {
  inner = omega arith;
  reads = sym (character_wide s i b (sym e) (omega arith) (to j) (omega arith) h (sym m));
}

-- the rows whose first byte is no single one
module _ (s : List ℕ) (i b : ℕ) where
  at_row4 : Between 0xE1 0xEC b → multibyte_at b s i ≡ two_bytes s 0x80 0xBF i
  unfolding multibyte_at
  at_row4 p = rw (within_above 0xC2 0xDF b (omega arith), ne_eqb b 0xE0 (omega arith), is_between p)

  at_row6 : Between 0xEE 0xEF b → multibyte_at b s i ≡ two_bytes s 0x80 0xBF i
  unfolding multibyte_at
  at_row6 p = rw (within_above 0xC2 0xDF b (omega arith), ne_eqb b 0xE0 (omega arith), within_above 0xE1 0xEC b (omega arith), ne_eqb b 0xED (omega arith), is_between p)

  at_row8 : Between 0xF1 0xF3 b → multibyte_at b s i ≡ three_bytes s 0x80 0xBF i
  unfolding multibyte_at
  at_row8 p =
      rw (within_above 0xC2 0xDF b (omega arith), ne_eqb b 0xE0 (omega arith), within_above 0xE1 0xEC b (omega arith), ne_eqb b 0xED (omega arith))
      (rw (within_above 0xEE 0xEF b (omega arith), ne_eqb b 0xF0 (omega arith), is_between p))

multibyte_complete : {s : List ℕ} {i j : ℕ} {c : List ℕ} → Multibyte c → Stands s i c j → Reads s i j
unfolding multibyte_at within
multibyte_complete {s} (row2 p x) q = wide (stands_head s q) (omega arith) (rw (is_between p) (byte_complete x (stands_tail s q)))
multibyte_complete {s} (row3 x y) q = wide (stands_head s q) (omega arith) (two_complete x y (stands_tail s q))
multibyte_complete {s} (row4 p x y) q = wide (stands_head s q) (omega arith) (at_row4 s _ _ p ∙ two_complete x y (stands_tail s q))
multibyte_complete {s} (row5 x y) q = wide (stands_head s q) (omega arith) (two_complete x y (stands_tail s q))
multibyte_complete {s} (row6 p x y) q = wide (stands_head s q) (omega arith) (at_row6 s _ _ p ∙ two_complete x y (stands_tail s q))
multibyte_complete {s} (row7 x y z) q = wide (stands_head s q) (omega arith) (three_complete x y z (stands_tail s q))
multibyte_complete {s} (row8 p x y z) q = wide (stands_head s q) (omega arith) (at_row8 s _ _ p ∙ three_complete x y z (stands_tail s q))
multibyte_complete {s} (row9 x y z) q = wide (stands_head s q) (omega arith) (three_complete x y z (stands_tail s q))

-- ---- escapes, complete
digit_complete : {b x : ℕ} → HexDigit b x → x ≡ hex_value b
unfolding hex_value
digit_complete (decimal p) = rw (is_between p)
digit_complete (capital {b} p) = rw (within_above 48 57 b (omega arith), is_between p) (omega arith)
digit_complete (small {b} p) = rw (within_above 48 57 b (omega arith), within_above 65 70 b (omega arith), is_between p) (omega arith)

hex4_complete : {s : List ℕ} {k j a b c d w x y z : ℕ} → HexDigit a w → HexDigit b x → HexDigit c y → HexDigit d z → Stands s k (a ∷ (b ∷ (c ∷ (d ∷ [])))) j
    → hex4_at s k ≡ Some ((((w * 16 + x) * 16 + y) * 16 + z), (record { at = j }))
hex4_complete {s} {k} {j} {a} {b} {c} {d} {w} {x} {y} {z} p q r t u =
    let u₁ = stands_right s (a ∷ []) (b ∷ (c ∷ (d ∷ []))) u in
    let u₂ = stands_right s (a ∷ (b ∷ [])) (c ∷ (d ∷ [])) u in
    let u₃ = stands_right s (a ∷ (b ∷ (c ∷ []))) (d ∷ []) u in
    sym
    (hex4_is s k w (at p (stands_head s u)) x (hex_limit p) (at q (stands_head s u₁)) y (hex_limit q) (at r (stands_head s u₂)) z (hex_limit r) (at t (stands_head s u₃))
    (hex_limit t))
    ∙ rw (sym u.end)
  where
    at : {e n f : ℕ} → HexDigit e n → f ≡ e → n ≡ hex_value f
    at h g = digit_complete h ∙ ap hex_value (sym g)

-- a code unit stands from i up to j
pub record CodeAt (s : List ℕ) (i n j : ℕ) : Type 0 where
  pub slash : byte s i ≡ 0x5C
  pub letter : byte s (i + 1) ≡ 0x75
  pub code : hex4_at s (i + 2) ≡ Some (n, (record { at = j }))

pub unit_complete : {s : List ℕ} {i j n : ℕ} {u : List ℕ} → CodeUnit u n → Stands s i u j → CodeAt s i n j
unit_complete {s} (code_unit {a} {b} {c} {d} p q r t) u = record {
  slash = stands_head s u;
  letter = stands_head s (stands_tail s u);
  code = hex4_complete p q r t (stands_right s (0x5C ∷ (0x75 ∷ [])) (a ∷ (b ∷ (c ∷ (d ∷ [])))) u);
}

-- the escape of a code unit is read as what follows `\u`
escaped : {s : List ℕ} {i j n k : ℕ} → CodeAt s i n k → to j ≡ unicode_escape_at s (i + 2) → Reads s i j
unfolding short_escape
escaped {s} {i} {j} u e = record {
  inner = omega (arith, u.slash);
  reads = sym
      (character_escape s i 0x5C (sym u.slash) (omega arith) (to j) refl
      (escape_unicode s (i + 1) 0x75 (sym u.letter) (to j) refl refl (e ∙ ap (unicode_escape_at s) (omega arith))));
}

short_complete : {b : ℕ} → Short b → short_escape b ≡ true
unfolding short_escape
short_complete quotation_mark = refl
short_complete reverse_solidus = refl
short_complete solidus = refl
short_complete backspace = refl
short_complete form_feed = refl
short_complete new_line = refl
short_complete return = refl
short_complete tabulation = refl

pub character_complete : {s : List ℕ} {i j : ℕ} {c : List ℕ} → Character c → Stands s i c j → Reads s i j
character_complete {s} {i} (plain {b} p f g) q = record {
  inner = λ e. f (sym (stands_head s q) ∙ e);
  reads = sym (character_plain s i b (sym (stands_head s q)) p.low g (omega arith)) ∙ ap to (stands_next q);
}
character_complete (multibyte p) q = multibyte_complete p q
character_complete {s} {i} (short {b} p) q = let e = stands_head s q in record {
  inner = omega arith;
  reads = sym
      (character_escape s i 0x5C (sym e) (omega arith) _ refl (escape_short s (i + 1) b (sym (stands_head s (stands_tail s q))) (short_complete p)))
      ∙ ap to (stands_next (stands_tail s q));
}
character_complete {s} {i} {j} (below {n} p h) q =
    let c = unit_complete p q in
    escaped c (unicode_one s (i + 2) _ refl n (record { at = j }) c.code (sym (within_below _ _ n (omega arith))) (sym (within_below _ _ n (omega arith))))
character_complete {s} {i} {j} (above {n} p h) q =
    let c = unit_complete p q in
    escaped c (unicode_one s (i + 2) _ refl n (record { at = j }) c.code (within_above _ _ n (omega arith)) (within_above _ _ n (omega arith)))
character_complete {s} {i} {j} (surrogates {u} {v} {n} {m} p h r k) q =
    let c = unit_complete p (stands_left s u v q) in
    let l = unit_complete r (stands_right s u v q) in
    escaped c
    (unicode_pair s (i + 2) _ refl n _ c.code (to j) (is_between h)
    (low_is s _ _ (sym l.slash) _ refl (sym l.letter) _ refl refl m (record { at = j }) l.code (is_between k)))

-- ---- strings, complete
characters_complete : {s : List ℕ} {i k : ℕ} {cs : List ℕ} → Characters cs → Stands s i cs k → byte s k ≡ 0x22 → string_at s i ≡ to (k + 1)
characters_complete {s} {i} {k} no_characters q e = rw (stands_nil q) (sym (string_close s k (byte s k) refl e))
characters_complete {s} {i} (characters {c} {cs} p r) q e =
    let f = character_complete p (stands_left s c cs q) in
    sym (string_on s i (byte s i) refl f.inner (character_at s i) refl (record { at = i + length c }) f.reads) ∙ characters_complete {i = i + length c} r (stands_right s c cs q) e

-- a string starts with a quote and is read from past it, whatever follows
pub string_complete : {s : List ℕ} {i j : ℕ} {x : List ℕ} → String x → Stands s i x j → (byte s i ≡ 0x22) × (string_at s (i + 1) ≡ to j)
string_complete {s} (string {cs} p) q =
    let r = stands_right s cs (0x22 ∷ []) (stands_tail s q) in
    (stands_head s q, characters_complete p (stands_left s cs (0x22 ∷ []) (stands_tail s q)) (stands_head s r) ∙ ap to (stands_next r))
