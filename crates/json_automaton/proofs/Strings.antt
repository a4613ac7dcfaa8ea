-- In a string: what is accepted is a string's rest and what is accepted after it.
use Rattle.std.specs.Prelude.{None, Option, Some}
use mathlib.Core.Path.{◌≡◌, refl, sym, ap, ◌∙◌}
use mathlib.Core.Bool.{Bool, true, false, cond}
use mathlib.Core.List.{List}
use Prim.Native.Nat.{ℕ, zero, suc, ◌≤◌, ◌<◌, ◌+◌, ◌*◌, ◌-◌}
use native.Mathlib.Omega.{arith}
use lib.ListN.{length}
use lib.Dec.{eqb, ltb}
use borrow.Author.Tests.{le-ltb, le-leb, eqb-true, eqb-false, ltb-true, ltb-false, leb-false}
use Rattle.json_blocks.specs.Turns.{Turn, after_turn, run_turns, run_text}
use Rattle.json_blocks.specs.TextBytes.{byte, to, within, byte_within}
use Rattle.json_characters.specs.String.{two_bytes, three_bytes, multibyte_at, hex_value, if_hex, hex4_at, after_hex4, low_surrogate_at, unicode_escape_at, short_escape, escape_at, character_at, onward, string_turn, string_at}
use Rattle.json_blocks.specs.declared.Cursor.{Cursor}
use Rattle.json_blocks.proofs.ByteLaws.{cond_elim, within_below, within_above, within_from, within_is}
use Rattle.json_characters.proofs.StringLaws.{string_less}
use Rattle.json_automaton.specs.Token.{bad, byte_move, is_move, hex_move, low_move, wide_move, text_move, escape_move, first_hex_move, surrogate_move, token_moves, token_move, whole}
use Rattle.json_automaton.specs.Control.{control, lost, moved}
use Rattle.json_automaton.proofs.Accept.{accepts_at, then_at, then_then, then_same, cond_both, accepts_lost, token_step, byte_step}

-- ---- tests of numbers
is_within : (lo hi n : ℕ) → lo ≤ n → n ≤ hi → within lo hi n ≡ true
is_within lo hi n h l = sym (within_from lo hi n h) ∙ le-leb n hi l

outside : (lo hi n : ℕ) {X : Type 0} → within lo hi n ≡ false → (n < lo → X) → (hi < n → X) → X
outside lo hi n {X} e f g = go (ltb n lo) refl where
  go : (t : Bool) → ltb n lo ≡ t → X
  go true h = f (ltb-true _ _ h)
  go false h = g (leb-false n hi (within_from lo hi n (ltb-false _ _ h) ∙ e))

abbrev hex : List ℕ → ℕ → ℕ
hex s i = hex_value (byte s i)

two_on : (i : ℕ) → i + 1 + 1 ≡ i + 2
two_on i = omega arith

-- four digits and their number
abbrev code : ℕ → ℕ → ℕ → ℕ → ℕ
code a b c d = ((a * 16 + b) * 16 + c) * 16 + d

module _ (a b c d : ℕ) (hb : b ≤ 15) (hc : c ≤ 15) (hd : d ≤ 15) where
  -- a first digit that is no `d`: no surrogate
  other_digit : (lo hi : ℕ) → 0xD000 ≤ lo → hi ≤ 0xDFFF → (a ≡ 13 → ⊥) → within lo hi (code a b c d) ≡ false
  other_digit lo hi l h e = go (ltb a 13) refl where
    go : (t : Bool) → ltb a 13 ≡ t → within lo hi (code a b c d) ≡ false
    go true q = let m = ltb-true a 13 q in sym (within_below lo hi _ (omega arith))
    go false q =
        let m = ltb-false a 13 q in
        within_above lo hi _ (omega arith)

  second_low : a ≡ 13 → b < 12 → within 0xDC00 0xDFFF (code a b c d) ≡ false
  second_low e h = sym (within_below 0xDC00 0xDFFF _ (omega arith))

  second_not : a ≡ 13 → b < 8 → within 0xD800 0xDBFF (code a b c d) ≡ false
  second_not e h = sym (within_below 0xD800 0xDBFF _ (omega arith))

  second_high : a ≡ 13 → 8 ≤ b → b < 12 → within 0xD800 0xDBFF (code a b c d) ≡ true
  second_high e h l = is_within 0xD800 0xDBFF _ (omega arith) (omega arith)

  second_above : a ≡ 13 → 12 ≤ b → within 0xD800 0xDBFF (code a b c d) ≡ false
  second_above e h = within_above 0xD800 0xDBFF _ (omega arith)

  is_low : a ≡ 13 → 12 ≤ b → within 0xDC00 0xDFFF (code a b c d) ≡ true
  is_low e h = is_within 0xDC00 0xDFFF _ (omega arith) (omega arith)

-- no token of a string takes a 0
no_zero : (token_move 1 0 ≡ bad) × (token_move 9 0 ≡ bad) × (token_move 13 0 ≡ bad) × (token_move 14 0 ≡ bad) × (token_move 17 0 ≡ bad) × (token_move 18 0 ≡ bad)
    × (token_move 19 0 ≡ bad) × (token_move 20 0 ≡ bad)
unfolding token_move token_moves text_move escape_move short_escape first_hex_move surrogate_move is_move low_move hex_value within
no_zero = (refl, refl, refl, refl, refl, refl, refl, refl)

module _ (s : List ℕ) (p o : ℕ) where
  in_string : ℕ → Bool
  in_string i = accepts_at s (control p 1 o) i

  -- the token goes on as x from i on: a read y, and the string goes on after it
  Goes : ℕ → ℕ → ℕ → Option Cursor → Type 0
  Goes b i x y = accepts_at s (moved p o false x b) i ≡ then_at y (accepts_at s (control p 1 o))

  -- ---- characters of several bytes
  one_more_lem : (i : ℕ) → accepts_at s (control p 2 o) i ≡ then_at (byte_within s 0x80 0xBF i) (accepts_at s (control p 1 o))
  unfolding token_move token_moves whole byte_move within
  one_more_lem i = byte_step s p o 2 refl 0x80 0xBF 1 i (λ b. refl) refl refl

  two_more : (t lo hi i : ℕ) → accepts_at s (control p t o) i ≡ then_at (byte_within s lo hi i) (accepts_at s (control p 2 o))
      → accepts_at s (control p t o) i ≡ then_at (two_bytes s lo hi i) (accepts_at s (control p 1 o))
  unfolding two_bytes
  two_more t lo hi i e = e ∙ then_same (byte_within s lo hi i) one_more_lem ∙ sym (then_then (byte_within s lo hi i) (byte_within s 0x80 0xBF) _)

  two_of : (i : ℕ) → accepts_at s (control p 3 o) i ≡ then_at (two_bytes s 0x80 0xBF i) (accepts_at s (control p 1 o))
  unfolding token_move token_moves whole byte_move within
  two_of i = two_more 3 0x80 0xBF i (byte_step s p o 3 refl 0x80 0xBF 2 i (λ b. refl) refl refl)

  three_more : (t lo hi i : ℕ) → accepts_at s (control p t o) i ≡ then_at (byte_within s lo hi i) (accepts_at s (control p 3 o))
      → accepts_at s (control p t o) i ≡ then_at (three_bytes s lo hi i) (accepts_at s (control p 1 o))
  unfolding three_bytes
  three_more t lo hi i e = e ∙ then_same (byte_within s lo hi i) two_of ∙ sym (then_then (byte_within s lo hi i) (two_bytes s 0x80 0xBF) _)

  wide : (b i : ℕ) → Goes b i (wide_move b) (multibyte_at b s i)
  unfolding Goes wide_move multibyte_at moved token_move token_moves whole byte_move within
  wide b i =
      cond_both (Goes b i) (within 0xC2 0xDF b) (λ _. one_more_lem i)
      (λ _. cond_both (Goes b i) (eqb b 0xE0) (λ _. two_more 5 0xA0 0xBF i (byte_step s p o 5 refl 0xA0 0xBF 2 i (λ b. refl) refl refl))
      (λ _. cond_both (Goes b i) (within 0xE1 0xEC b) (λ _. two_of i)
      (λ _. cond_both (Goes b i) (eqb b 0xED) (λ _. two_more 6 0x80 0x9F i (byte_step s p o 6 refl 0x80 0x9F 2 i (λ b. refl) refl refl))
      (λ _. cond_both (Goes b i) (within 0xEE 0xEF b) (λ _. two_of i)
      (λ _. cond_both (Goes b i) (eqb b 0xF0) (λ _. three_more 7 0x90 0xBF i (byte_step s p o 7 refl 0x90 0xBF 3 i (λ b. refl) refl refl))
      (λ _. cond_both (Goes b i) (within 0xF1 0xF3 b) (λ _. three_more 4 0x80 0xBF i (byte_step s p o 4 refl 0x80 0xBF 3 i (λ b. refl) refl refl))
      (λ _. cond_both (Goes b i) (eqb b 0xF4) (λ _. three_more 8 0x80 0x8F i (byte_step s p o 8 refl 0x80 0x8F 3 i (λ b. refl) refl refl))
      (λ _. accepts_lost s i))))))))

  -- ---- hexadecimal digits
  hex_step : (t n i j : ℕ) → whole t ≡ false → ((b : ℕ) → token_move t b ≡ hex_move n b) → eqb n bad ≡ false → i + 1 ≡ j
      → accepts_at s (control p t o) i ≡ cond (ltb 15 (hex_value (byte s i))) false (accepts_at s (control p n o) j)
  unfolding hex_move hex_value within moved
  hex_step t n i j w e q h =
      token_step s p o t w i (e 0) ∙ ap (λ (m : ℕ). accepts_at s (moved p o false m (byte s i)) (i + 1)) (e (byte s i)) ∙ rw h
      (cond_both (λ (m : ℕ) (v : Bool). accepts_at s (moved p o false m (byte s i)) j ≡ v) (ltb 15 (hex_value (byte s i)))
      (λ _. accepts_lost s j) (λ _. rw q))

  if_false : (x : ℕ) (y : Option (ℕ × Cursor)) (f : ℕ → ℕ → Option Cursor) → (x ≤ 15 → then_at (after_hex4 y f) (accepts_at s (control p 1 o)) ≡ false)
      → then_at (after_hex4 (if_hex x y) f) (accepts_at s (control p 1 o)) ≡ false
  if_false x y f g = cond_elim (λ (z : Option (ℕ × Cursor)). then_at (after_hex4 z f) (accepts_at s (control p 1 o)) ≡ false) (ltb 15 x) None y (λ _. refl) (λ e. g (ltb-false 15 x e))

  if_hex_lem : (x : ℕ) (y : Option (ℕ × Cursor)) (f : ℕ → ℕ → Option Cursor) {v : Bool} → (x ≤ 15 → v ≡ then_at (after_hex4 y f) (accepts_at s (control p 1 o)))
      → cond (ltb 15 x) false v ≡ then_at (after_hex4 (if_hex x y) f) (accepts_at s (control p 1 o))
  if_hex_lem x y f g = cond_both (λ (v : Bool) (z : Option (ℕ × Cursor)). v ≡ then_at (after_hex4 z f) (accepts_at s (control p 1 o))) (ltb 15 x) (λ _. refl) (λ e. g (ltb-false 15 x e))

  -- two digits more, of a number that begins with a; then the token is v
  two_digits : (t u v : ℕ) (f : ℕ → ℕ → Option Cursor) (a i j k : ℕ) → whole t ≡ false → whole u ≡ false → ((b : ℕ) → token_move t b ≡ hex_move u b)
      → ((b : ℕ) → token_move u b ≡ hex_move v b) → eqb u bad ≡ false → eqb v bad ≡ false → i + 1 ≡ j → j + 1 ≡ k
      → ((c d : ℕ) → c ≤ 15 → d ≤ 15 → accepts_at s (control p v o) k ≡ then_at (f ((a * 16 + c) * 16 + d) k) (accepts_at s (control p 1 o)))
      → accepts_at s (control p t o) i
      ≡ then_at (after_hex4 (if_hex (hex_value (byte s i)) (if_hex (hex_value (byte s j)) (Some (((a * 16 + hex_value (byte s i)) * 16 + hex_value (byte s j)), (record { at = k }))))) f) (accepts_at s (control p 1 o))
  two_digits t u v f a i j k wt wu et eu qu qv ej ek g =
      hex_step t u i j wt et qu ej
      ∙ if_hex_lem (hex_value (byte s i)) _ f (λ c. hex_step u v j k wu eu qv ek ∙ if_hex_lem (hex_value (byte s j)) _ f (λ d. g _ _ c d))

  -- ---- escapes
  at_low : ℕ → ℕ → Option Cursor
  at_low n j = cond (within 0xDC00 0xDFFF n) (to j) None

  no_low : (n j : ℕ) → within 0xDC00 0xDFFF n ≡ false → then_at (at_low n j) (accepts_at s (control p 1 o)) ≡ false
  unfolding at_low
  no_low n j e = rw e

  is_low_at : (n j : ℕ) → within 0xDC00 0xDFFF n ≡ true → accepts_at s (control p 1 o) j ≡ then_at (at_low n j) (accepts_at s (control p 1 o))
  unfolding at_low
  is_low_at n j e = rw e

  -- two digits more, of any number and of a high surrogate
  last_digits : (f : ℕ → ℕ → Option Cursor) (a i : ℕ) → ((c d : ℕ) → c ≤ 15 → d ≤ 15 → accepts_at s (control p 1 o) (i + 4) ≡ then_at (f ((a * 16 + c) * 16 + d) (i + 4)) (accepts_at s (control p 1 o)))
      → accepts_at s (control p 11 o) (i + 2)
      ≡ then_at (after_hex4 (if_hex (hex s (i + 2)) (if_hex (hex s (i + 3)) (Some (((a * 16 + hex s (i + 2)) * 16 + hex s (i + 3)), (record { at = i + 4 }))))) f) (accepts_at s (control p 1 o))
  unfolding token_move token_moves whole
  last_digits f a i g = two_digits 11 10 1 f a (i + 2) (i + 3) (i + 4) refl refl (λ b. refl) (λ b. refl) refl refl (omega arith) (omega arith) g

  high_digits : (f : ℕ → ℕ → Option Cursor) (a i : ℕ) → ((c d : ℕ) → c ≤ 15 → d ≤ 15 → accepts_at s (control p 17 o) (i + 4) ≡ then_at (f ((a * 16 + c) * 16 + d) (i + 4)) (accepts_at s (control p 1 o)))
      → accepts_at s (control p 15 o) (i + 2)
      ≡ then_at (after_hex4 (if_hex (hex s (i + 2)) (if_hex (hex s (i + 3)) (Some (((a * 16 + hex s (i + 2)) * 16 + hex s (i + 3)), (record { at = i + 4 }))))) f) (accepts_at s (control p 1 o))
  unfolding token_move token_moves whole
  high_digits f a i g = two_digits 15 16 17 f a (i + 2) (i + 3) (i + 4) refl refl (λ b. refl) (λ b. refl) refl refl (omega arith) (omega arith) g

  -- the digits of a low surrogate's escape
  low_digits : (i : ℕ) → accepts_at s (control p 19 o) i ≡ then_at (after_hex4 (hex4_at s i) at_low) (accepts_at s (control p 1 o))
  unfolding hex4_at token_move token_moves whole low_move moved
  low_digits i =
      token_step s p o 19 refl i no_zero.6
      ∙ cond_elim P (within 13 13 (hex s i)) 20 bad (λ e. dee (is_13 e))
      (λ e. accepts_lost s (i + 1) ∙ none (λ a b c d. other_digit _ _ _ _ b c d 0xDC00 0xDFFF (omega arith) (omega arith) (λ q. not_13 e q)))
    where
      P : ℕ → Type 0
      P m = accepts_at s (moved p o false m (byte s i)) (i + 1) ≡ then_at (after_hex4 (hex4_at s i) at_low) (accepts_at s (control p 1 o))

      is_13 : within 13 13 (hex s i) ≡ true → hex s i ≡ 13
      is_13 e = let w = within_is 13 13 (hex s i) e in omega arith

      not_13 : within 13 13 (hex s i) ≡ false → hex s i ≡ 13 → ⊥
      not_13 e q = outside 13 13 (hex s i) e (λ l. omega arith) (λ l. omega arith)

      none : (hex s i ≤ 15 → hex s (i + 1) ≤ 15 → hex s (i + 2) ≤ 15 → hex s (i + 3) ≤ 15 → within 0xDC00 0xDFFF (code (hex s i) (hex s (i + 1)) (hex s (i + 2)) (hex s (i + 3))) ≡ false)
          → false ≡ then_at (after_hex4 (hex4_at s i) at_low) (accepts_at s (control p 1 o))
      none f = sym (if_false (hex s i) _ at_low (λ a. if_false (hex s (i + 1)) _ at_low (λ b. if_false (hex s (i + 2)) _ at_low (λ c. if_false (hex s (i + 3)) _ at_low
          (λ d. no_low _ _ (f a b c d))))))

      second : hex s i ≡ 13 → (12 ≤ hex s (i + 1)) × (hex s (i + 1) ≤ 15) → accepts_at s (control p 11 o) (i + 1 + 1) ≡ then_at (after_hex4 (hex4_at s i) at_low) (accepts_at s (control p 1 o))
      second a w =
          rw (two_on i, le-ltb 15 (hex s i) (omega arith), le-ltb 15 (hex s (i + 1)) w.1)
          (last_digits at_low (hex s i * 16 + hex s (i + 1)) i (λ c d hc hd. is_low_at _ _ (is_low (hex s i) (hex s (i + 1)) c d w.1 hc hd a w.0)))

      dee : hex s i ≡ 13 → accepts_at s (control p 20 o) (i + 1) ≡ then_at (after_hex4 (hex4_at s i) at_low) (accepts_at s (control p 1 o))
      dee a =
          token_step s p o 20 refl (i + 1) no_zero.7
          ∙ cond_elim (λ (m : ℕ). accepts_at s (moved p o false m (byte s (i + 1))) (i + 1 + 1) ≡ then_at (after_hex4 (hex4_at s i) at_low) (accepts_at s (control p 1 o)))
          (within 12 15 (hex s (i + 1))) 11 bad
          (λ e. second a (within_is 12 15 (hex s (i + 1)) e))
          (λ e. accepts_lost s (i + 1 + 1) ∙ none (λ _ b c d. second_low _ _ _ _ b c d a (outside 12 15 (hex s (i + 1)) e (λ l. l) (λ l. absurd (omega arith)))))

  -- the escape of a low surrogate
  low_escape : (i : ℕ) → accepts_at s (control p 17 o) i ≡ then_at (low_surrogate_at s i) (accepts_at s (control p 1 o))
  unfolding low_surrogate_at token_move token_moves whole is_move moved at_low
  low_escape i =
      token_step s p o 17 refl i no_zero.4
      ∙ cond_both (λ (m : ℕ) (r : Option Cursor). accepts_at s (moved p o false m (byte s i)) (i + 1) ≡ then_at r (accepts_at s (control p 1 o))) (eqb (byte s i) 0x5C)
      (λ _. token_step s p o 18 refl (i + 1) no_zero.5
      ∙ cond_both (λ (m : ℕ) (r : Option Cursor). accepts_at s (moved p o false m (byte s (i + 1))) (i + 1 + 1) ≡ then_at r (accepts_at s (control p 1 o))) (eqb (byte s (i + 1)) 0x75)
      (λ _. rw (two_on i) (low_digits (i + 2))) (λ _. accepts_lost s (i + 1 + 1)))
      (λ _. accepts_lost s (i + 1))

  -- past `\u`
  at_unit : ℕ → ℕ → Option Cursor
  at_unit n j = cond (within 0xD800 0xDBFF n) (low_surrogate_at s j) (cond (within 0xDC00 0xDFFF n) None (to j))

  module _ (n j : ℕ) where
    unit_high : within 0xD800 0xDBFF n ≡ true → accepts_at s (control p 17 o) j ≡ then_at (at_unit n j) (accepts_at s (control p 1 o))
    unfolding at_unit
    unit_high e = rw e (low_escape j)

    unit_low : within 0xD800 0xDBFF n ≡ false → within 0xDC00 0xDFFF n ≡ true → then_at (at_unit n j) (accepts_at s (control p 1 o)) ≡ false
    unfolding at_unit
    unit_low e f = rw (e, f)

    unit_one : within 0xD800 0xDBFF n ≡ false → within 0xDC00 0xDFFF n ≡ false → accepts_at s (control p 1 o) j ≡ then_at (at_unit n j) (accepts_at s (control p 1 o))
    unfolding at_unit
    unit_one e f = rw (e, f)

  unicode : (i : ℕ) → accepts_at s (control p 13 o) i ≡ then_at (unicode_escape_at s i) (accepts_at s (control p 1 o))
  unfolding unicode_escape_at hex4_at token_move token_moves whole first_hex_move surrogate_move hex_move moved at_unit
  unicode i =
      token_step s p o 13 refl i no_zero.2
      ∙ cond_both (λ (m : ℕ) (h : Option (ℕ × Cursor)). accepts_at s (moved p o false m (byte s i)) (i + 1) ≡ then_at (after_hex4 h at_unit) (accepts_at s (control p 1 o))) (ltb 15 (hex s i))
      (λ _. accepts_lost s (i + 1))
      (λ h. cond_elim (λ (m : ℕ). accepts_at s (moved p o false m (byte s i)) (i + 1) ≡ then_at (after_hex4 more at_unit) (accepts_at s (control p 1 o))) (eqb (hex s i) 13) 14 12
      (λ e. dee (eqb-true _ _ e)) (λ e. other (eqb-false _ _ e)))
    where
      more : Option (ℕ × Cursor)
      more = if_hex (hex s (i + 1)) (if_hex (hex s (i + 2)) (if_hex (hex s (i + 3)) (Some ((code (hex s i) (hex s (i + 1)) (hex s (i + 2)) (hex s (i + 3))), (record { at = i + 4 })))))

      other : (hex s i ≡ 13 → ⊥) → accepts_at s (control p 12 o) (i + 1) ≡ then_at (after_hex4 more at_unit) (accepts_at s (control p 1 o))
      other e =
          hex_step 12 11 (i + 1) (i + 2) refl (λ b. refl) refl (omega arith)
          ∙ if_hex_lem (hex s (i + 1)) _ at_unit (λ b. last_digits at_unit (hex s i * 16 + hex s (i + 1)) i
          (λ c d hc hd. unit_one _ _ (other_digit (hex s i) (hex s (i + 1)) c d b hc hd 0xD800 0xDBFF (omega arith) (omega arith) e)
          (other_digit (hex s i) (hex s (i + 1)) c d b hc hd 0xDC00 0xDFFF (omega arith) (omega arith) e)))

      Q : ℕ → Type 0
      Q m = accepts_at s (moved p o false m (byte s (i + 1))) (i + 1 + 1) ≡ then_at (after_hex4 more at_unit) (accepts_at s (control p 1 o))

      neither : hex s i ≡ 13 → hex s (i + 1) < 8 → accepts_at s (control p 11 o) (i + 1 + 1) ≡ then_at (after_hex4 more at_unit) (accepts_at s (control p 1 o))
      neither a l =
          rw (two_on i, le-ltb 15 (hex s (i + 1)) (omega arith))
          (last_digits at_unit (hex s i * 16 + hex s (i + 1)) i
          (λ c d hc hd. unit_one _ _ (second_not (hex s i) (hex s (i + 1)) c d (omega arith) hc hd a l) (second_low (hex s i) (hex s (i + 1)) c d (omega arith) hc hd a (omega arith))))

      high : hex s i ≡ 13 → 8 ≤ hex s (i + 1) → hex s (i + 1) < 12 → accepts_at s (control p 15 o) (i + 1 + 1) ≡ then_at (after_hex4 more at_unit) (accepts_at s (control p 1 o))
      high a h l =
          rw (two_on i, le-ltb 15 (hex s (i + 1)) (omega arith))
          (high_digits at_unit (hex s i * 16 + hex s (i + 1)) i (λ c d hc hd. unit_high _ _ (second_high (hex s i) (hex s (i + 1)) c d (omega arith) hc hd a h l)))

      low : hex s i ≡ 13 → 12 ≤ hex s (i + 1) → accepts_at s lost (i + 1 + 1) ≡ then_at (after_hex4 more at_unit) (accepts_at s (control p 1 o))
      low a h =
          accepts_lost s (i + 1 + 1)
          ∙ sym (if_false (hex s (i + 1)) _ at_unit (λ b. if_false (hex s (i + 2)) _ at_unit (λ c. if_false (hex s (i + 3)) _ at_unit
          (λ d. unit_low _ _ (second_above (hex s i) (hex s (i + 1)) (hex s (i + 2)) (hex s (i + 3)) b c d a h) (is_low (hex s i) (hex s (i + 1)) (hex s (i + 2)) (hex s (i + 3)) b c d a h)))))

      dee : hex s i ≡ 13 → accepts_at s (control p 14 o) (i + 1) ≡ then_at (after_hex4 more at_unit) (accepts_at s (control p 1 o))
      dee e =
          token_step s p o 14 refl (i + 1) no_zero.3
          ∙ cond_elim Q (ltb (hex s (i + 1)) 8) 11 _ (λ h. neither e (ltb-true _ _ h))
          (λ h. cond_elim Q (ltb (hex s (i + 1)) 12) 15 bad (λ l. high e (ltb-false _ _ h) (ltb-true _ _ l)) (λ l. low e (ltb-false _ _ l)))

  -- past a backslash
  escaped : (i : ℕ) → accepts_at s (control p 9 o) i ≡ then_at (escape_at s i) (accepts_at s (control p 1 o))
  unfolding escape_at token_move token_moves whole escape_move moved
  escaped i =
      token_step s p o 9 refl i no_zero.1
      ∙ cond_both R (short_escape (byte s i)) (λ _. refl)
      (λ _. cond_both R (eqb (byte s i) 0x75) (λ _. unicode (i + 1)) (λ _. accepts_lost s (i + 1)))
    where
      R : ℕ → Option Cursor → Type 0
      R m r = accepts_at s (moved p o false m (byte s i)) (i + 1) ≡ then_at r (accepts_at s (control p 1 o))

  -- ---- characters up to the closing quote
  strings : (n i : ℕ) → length s - i < n → accepts_at s (control p 1 o) i ≡ then_at (run_turns None (string_turn s) n i) (accepts_at s (control p 0 o))
  unfolding run_turns string_turn token_move token_moves whole text_move character_at moved Goes
  strings zero i h = absurd (omega arith)
  strings (suc n) i h =
      token_step s p o 1 refl i no_zero.0
      ∙ cond_both Q (eqb (byte s i) 0x22) (λ _. refl) (λ e. character ∙ go (character_at s i) refl (λ c r. less e c r) (strings n))
    where
      Q : ℕ → Turn (Option Cursor) → Type 0
      Q m t = accepts_at s (moved p o false m (byte s i)) (i + 1) ≡ then_at (after_turn t (λ j. run_turns None (string_turn s) n j)) (accepts_at s (control p 0 o))

      R : ℕ → Option Cursor → Type 0
      R m r = accepts_at s (moved p o false m (byte s i)) (i + 1) ≡ then_at r (accepts_at s (control p 1 o))

      character : R (cond (ltb (byte s i) 0x20) bad (cond (eqb (byte s i) 0x5C) 9 (cond (ltb (byte s i) 0x80) 1 (wide_move (byte s i))))) (character_at s i)
      character =
          cond_both R (ltb (byte s i) 0x20) (λ _. accepts_lost s (i + 1))
          (λ _. cond_both R (eqb (byte s i) 0x5C) (λ _. escaped (i + 1))
          (λ _. cond_both R (ltb (byte s i) 0x80) (λ _. refl) (λ _. wide (byte s i) (i + 1))))

      less : eqb (byte s i) 0x22 ≡ false → (c : Cursor) → character_at s i ≡ Some c → (i < c.at) × (i < length s)
      less e c r = string_less s i (byte s i) refl (eqb-false _ _ e) (character_at s i) refl c r

      go : (r : Option Cursor) → character_at s i ≡ r → ((c : Cursor) → character_at s i ≡ Some c → (i < c.at) × (i < length s))
          → ((j : ℕ) → length s - j < n → accepts_at s (control p 1 o) j ≡ then_at (run_turns None (string_turn s) n j) (accepts_at s (control p 0 o)))
          → then_at r (accepts_at s (control p 1 o)) ≡ then_at (after_turn (onward r) (λ j. run_turns None (string_turn s) n j)) (accepts_at s (control p 0 o))
      go (Some c) e l f = let m = l c e in f c.at (omega arith)
      go None e l f = refl

  -- from past the opening quote
  pub string_accepts : (i : ℕ) → accepts_at s (control p 1 o) i ≡ then_at (string_at s i) (accepts_at s (control p 0 o))
  unfolding string_at run_text
  string_accepts i = strings (suc (length s)) i (omega arith)
