-- Literals, arrays, objects and values: what is accepted is the rest of one and what is accepted after it.
use Rattle.std.specs.Prelude.{None, Option, Some}
use mathlib.Core.Path.{◌≡◌, refl, sym, ap, ◌∙◌}
use mathlib.Core.Bool.{Bool, true, false, cond, ◌&&◌}
use mathlib.Core.List.{List, [], ◌∷◌}
use Prim.Native.Nat.{ℕ, zero, suc, ◌≤◌, ◌<◌, ◌+◌, ◌*◌, ◌/◌, ◌%◌, ◌-◌, ◌^◌}
use native.Mathlib.Omega.{arith}
use native.Mathlib.Nat.{pow-suc, pow-le-pow_right}
use lib.Pow.{pow_pos}
use lib.ListN.{length, get_or}
use lib.Dec.{eqb, ltb, leb}
use borrow.Author.Tests.{eq-eqb, ne_eqb, lt-ltb, le-ltb, le-leb, lt-leb, eqb-true, ltb-true, ltb-false}
use Rattle.limits.specs.Limits.{nesting}
use Rattle.json_blocks.specs.Turns.{after_turn as after_turn_lem, run_turns, run_text}
use Rattle.json_blocks.specs.TextBytes.{byte, ascii, and_then, within, blank, skip_blanks, literal_at}
use Rattle.json_blocks.specs.Group.{after_item, colon_at}
use Rattle.json_tokens.specs.MemberName.{name_at}
use Rattle.json_characters.specs.String.{string_at}
use Rattle.json_blocks.specs.declared.Cursor.{Cursor}
use Rattle.json_blocks.specs.declared.After.{After}
use Rattle.json_blocks.specs.declared.After.TheVariants as A
use Rattle.json_blocks.proofs.ByteLaws.{cond_elim, inside, no_blank}
use Rattle.json_grammar.specs.ByPlace.{close_turn as close-turn, then_turn, item_turn as item-turn, items_at, group_at, member_at, any_value_at, value_at, ends_text, is_json}
use Rattle.json_grammar.proofs.ItemLaws.{Forward, items_less, value_forward, member_forward}
use Rattle.json_automaton.specs.Token.{bad, is_move, byte_move, minus_move, token_moves, token_move, whole}
use Rattle.json_automaton.specs.declared.Control.{Control}
use Rattle.json_automaton.specs.Control.{control, lost, start, full_stack, is_object_top, closing, push, pop, number_move, value_move, item_move, first_move, colon_move, after_move, place_moves, place_move, moved, move, run_moves, accepting}
use Rattle.json_automaton.proofs.Accept.{accepts_at, then_at, cond_both, accepts_lost, accepts_past, accepts_inside, accepts_step, accepts_skip, blank_stays, skip_ended, token_step}
use Rattle.json_automaton.proofs.Strings.{string_accepts}
use Rattle.json_automaton.proofs.Numbers.{number_accepts}

module _ (s : List ℕ) (o : ℕ) where
  -- ---- literals
  literal_on : (w : ℕ) (ws : List ℕ) (i : ℕ) {v : Bool} → byte s i ≡ w → 0 < w → v ≡ then_at (literal_at s ws (i + 1)) (accepts_at s (control 5 0 o))
      → v ≡ then_at (literal_at s (w ∷ ws) i) (accepts_at s (control 5 0 o))
  unfolding literal_at
  literal_on w ws i e h g = rw (lt-ltb i (length s) (inside s i w (sym e) h), eq-eqb (byte s i) w e) g

  literal_bad : (w : ℕ) (ws : List ℕ) (i : ℕ) → eqb (byte s i) w ≡ false → then_at (literal_at s (w ∷ ws) i) (accepts_at s (control 5 0 o)) ≡ false
  unfolding literal_at
  literal_bad w ws i e = rw e (go (ltb i (length s))) where
    go : (t : Bool) → then_at (cond (t && false) (literal_at s ws (i + 1)) None) (accepts_at s (control 5 0 o)) ≡ false
    go true = refl
    go false = refl

  word_step : (t n w : ℕ) (ws : List ℕ) (i : ℕ) → whole t ≡ false → ((b : ℕ) → token_move t b ≡ is_move w n b) → eqb n bad ≡ false → 0 < w
      → accepts_at s (control 5 n o) (i + 1) ≡ then_at (literal_at s ws (i + 1)) (accepts_at s (control 5 0 o))
      → accepts_at s (control 5 t o) i ≡ then_at (literal_at s (w ∷ ws) i) (accepts_at s (control 5 0 o))
  unfolding is_move moved
  word_step t n w ws i h e q l g =
      token_step s 5 o t h i (e 0 ∙ rw (ne_eqb 0 w (omega arith))) ∙ ap (λ (m : ℕ). accepts_at s (moved 5 o false m (byte s i)) (i + 1)) (e (byte s i))
      ∙ cond_elim (λ (m : ℕ). accepts_at s (moved 5 o false m (byte s i)) (i + 1) ≡ then_at (literal_at s (w ∷ ws) i) (accepts_at s (control 5 0 o))) (eqb (byte s i) w) n bad
      (λ y. rw q (literal_on w ws i (eqb-true _ _ y) l g)) (λ y. accepts_lost s (i + 1) ∙ sym (literal_bad w ws i y))

  last_e : (i : ℕ) → accepts_at s (control 5 31 o) i ≡ then_at (literal_at s (0x65 ∷ []) i) (accepts_at s (control 5 0 o))
  unfolding literal_at token_move token_moves whole
  last_e i = word_step 31 0 0x65 [] i refl (λ b. refl) refl (omega arith) refl

  true_accepts : (i : ℕ) → byte s i ≡ 0x74 → accepts_at s (control 5 29 o) (i + 1) ≡ then_at (literal_at s (ascii "true") i) (accepts_at s (control 5 0 o))
  unfolding literal_at token_move token_moves whole
  true_accepts i e =
      literal_on 0x74 (ascii "rue") i e (omega arith) (word_step 29 30 0x72 (ascii "ue") (i + 1) refl (λ b. refl) refl (omega arith)
      (word_step 30 31 0x75 (ascii "e") (i + 1 + 1) refl (λ b. refl) refl (omega arith) (last_e (i + 1 + 1 + 1))))

  false_accepts : (i : ℕ) → byte s i ≡ 0x66 → accepts_at s (control 5 32 o) (i + 1) ≡ then_at (literal_at s (ascii "false") i) (accepts_at s (control 5 0 o))
  unfolding literal_at token_move token_moves whole
  false_accepts i e =
      literal_on 0x66 (ascii "alse") i e (omega arith) (word_step 32 33 0x61 (ascii "lse") (i + 1) refl (λ b. refl) refl (omega arith)
      (word_step 33 34 0x6C (ascii "se") (i + 1 + 1) refl (λ b. refl) refl (omega arith)
      (word_step 34 31 0x73 (ascii "e") (i + 1 + 1 + 1) refl (λ b. refl) refl (omega arith) (last_e (i + 1 + 1 + 1 + 1)))))

  null_accepts : (i : ℕ) → byte s i ≡ 0x6E → accepts_at s (control 5 35 o) (i + 1) ≡ then_at (literal_at s (ascii "null") i) (accepts_at s (control 5 0 o))
  unfolding literal_at token_move token_moves whole
  null_accepts i e =
      literal_on 0x6E (ascii "ull") i e (omega arith) (word_step 35 36 0x75 (ascii "ll") (i + 1) refl (λ b. refl) refl (omega arith)
      (word_step 36 37 0x6C (ascii "l") (i + 1 + 1) refl (λ b. refl) refl (omega arith)
      (word_step 37 0 0x6C [] (i + 1 + 1 + 1) refl (λ b. refl) refl (omega arith) refl)))

  -- ---- between tokens: past the blanks
  place_move_lem : (p b : ℕ) → blank b ≡ false → move (control p 0 o) b ≡ get_or (place_moves o b) p lost
  unfolding move moved token_move token_moves whole place_move
  place_move_lem p b e = rw e

  place_step : (p i : ℕ) → accepting (control p 0 o) ≡ false → get_or (place_moves o 0) p lost ≡ lost
      → accepts_at s (control p 0 o) i ≡ accepts_at s (get_or (place_moves o (byte s (skip_blanks s i))) p lost) (skip_blanks s i + 1)
  place_step p i e z =
      accepts_skip s blank no_blank (control p 0 o) (blank_stays (control p 0 o) refl) i
      ∙ accepts_step s (control p 0 o) (skip_blanks s i) e (place_move_lem p 0 no_blank ∙ z)
      ∙ ap (λ (c : Control). accepts_at s c (skip_blanks s i + 1)) (place_move_lem p _ (skip_ended blank no_blank s i))

  value_none : value_move o 0 ≡ lost
  unfolding value_move number_move minus_move byte_move within
  value_none = refl

  item_none : item_move o 0 ≡ lost
  unfolding item_move
  item_none = cond_elim (λ (c : Control). c ≡ lost) (is_object_top o) _ _ (λ _. refl) (λ _. value_none)

  value_step : (i : ℕ) → accepts_at s (control 1 0 o) i ≡ accepts_at s (value_move o (byte s (skip_blanks s i))) (skip_blanks s i + 1)
  unfolding place_moves accepting whole
  value_step i = place_step 1 i refl value_none

  next_step : (i : ℕ) → accepts_at s (control 3 0 o) i ≡ accepts_at s (item_move o (byte s (skip_blanks s i))) (skip_blanks s i + 1)
  unfolding place_moves accepting whole
  next_step i = place_step 3 i refl item_none

  colon_step : (i : ℕ) → accepts_at s (control 4 0 o) i ≡ accepts_at s (colon_move o (byte s (skip_blanks s i))) (skip_blanks s i + 1)
  unfolding place_moves accepting whole colon_move
  colon_step i = place_step 4 i refl refl

-- ---- what follows an item
abbrev then_after : Option After → (ℕ → Bool) → (ℕ → Bool) → Bool
then_after (Some (A.Item c)) f g = f c.at
then_after (Some (A.Close c)) f g = g c.at
then_after None f g = false

module _ (s : List ℕ) (o close : ℕ) (inner : 2 ≤ o) (closed : closing o ≡ close) (solid : 0 < close) where
  group_none : get_or (place_moves o 0) 2 lost ≡ lost
  unfolding place_moves first_move
  group_none = rw (closed, ne_eqb 0 close (omega arith)) (item_none s o)

  after_none : get_or (place_moves o 0) 5 lost ≡ lost
  unfolding place_moves after_move
  after_none = rw (le-ltb o 2 inner, closed, ne_eqb 0 close (omega arith))

  not_over : accepting (control 5 0 o) ≡ false
  unfolding accepting whole
  not_over = le-ltb o 2 inner

  after_accepts : (i : ℕ)
      → accepts_at s (control 5 0 o) i ≡ then_after (after_item s close i) (λ j. accepts_at s (item_move o (byte s j)) (j + 1)) (accepts_at s (pop o))
  unfolding place_moves after_move after_item
  after_accepts i =
      place_step s o 5 i not_over after_none
      ∙ rw (le-ltb o 2 inner, closed)
      (cond_both Q (eqb (byte s (skip_blanks s i)) 0x2C) (λ _. next_step s o (skip_blanks s i + 1))
      (λ _. cond_both Q (eqb (byte s (skip_blanks s i)) close) (λ _. refl) (λ _. accepts_lost s (skip_blanks s i + 1))))
    where
      Q : Control → Option After → Type 0
      Q c a = accepts_at s c (skip_blanks s i + 1) ≡ then_after a (λ j. accepts_at s (item_move o (byte s j)) (j + 1)) (accepts_at s (pop o))

  module _ (item : ℕ → Option Cursor) (forward : Forward item)
      (item-accepts : (j : ℕ) → accepts_at s (item_move o (byte s j)) (j + 1) ≡ then_at (item j) (accepts_at s (control 5 0 o))) where
    items : (n i : ℕ) → length s - i < n
        → accepts_at s (item_move o (byte s i)) (i + 1) ≡ then_at (run_turns None (item-turn item s close) n i) (accepts_at s (pop o))
    unfolding run_turns item-turn
    items zero i h = absurd (omega arith)
    items (suc n) i h = item-accepts i ∙ go (item i) refl (items n) where
      follow : (c : Cursor) (a : Option After) → item i ≡ Some c → after_item s close c.at ≡ a
          → ((j : ℕ) → length s - j < n → accepts_at s (item_move o (byte s j)) (j + 1) ≡ then_at (run_turns None (item-turn item s close) n j) (accepts_at s (pop o)))
          → then_after a (λ j. accepts_at s (item_move o (byte s j)) (j + 1)) (accepts_at s (pop o))
          ≡ then_at (after_turn_lem (close-turn a) (λ j. run_turns None (item-turn item s close) n j)) (accepts_at s (pop o))
      follow c (Some (A.Item d)) e q f = let m = items_less item s close i c e forward d q in f d.at (omega arith)
      follow c (Some (A.Close d)) e q f = refl
      follow c None e q f = refl

      go : (r : Option Cursor) → item i ≡ r
          → ((j : ℕ) → length s - j < n → accepts_at s (item_move o (byte s j)) (j + 1) ≡ then_at (run_turns None (item-turn item s close) n j) (accepts_at s (pop o)))
          → then_at r (accepts_at s (control 5 0 o))
          ≡ then_at (after_turn_lem (then_turn r (λ j. close-turn (after_item s close j))) (λ j. run_turns None (item-turn item s close) n j)) (accepts_at s (pop o))
      go (Some c) e f = after_accepts c.at ∙ follow c (after_item s close c.at) e refl f
      go None e f = refl

    -- from past the opening bracket
    group_accepts : (i : ℕ) → accepts_at s (control 2 0 o) i ≡ then_at (group_at item s close i) (accepts_at s (pop o))
    unfolding place_moves first_move group_at items_at run_text accepting whole
    group_accepts i =
        place_step s o 2 i refl group_none
        ∙ rw closed
        (cond_both (λ (c : Control) (r : Option Cursor). accepts_at s c (skip_blanks s i + 1) ≡ then_at r (accepts_at s (pop o))) (eqb (byte s (skip_blanks s i)) close) (λ _. refl)
        (λ _. items (suc (length s)) (skip_blanks s i) (omega arith)))

-- ---- members
module _ (s : List ℕ) (o : ℕ) (object : is_object_top o ≡ true) (value : ℕ → Option Cursor)
    (value_accepts : (j : ℕ) → accepts_at s (value_move o (byte s j)) (j + 1) ≡ then_at (value j) (accepts_at s (control 5 0 o))) where
  colon_accepts : (i : ℕ) → accepts_at s (control 4 0 o) i ≡ then_at (and_then (colon_at s i) value) (accepts_at s (control 5 0 o))
  unfolding colon_move colon_at
  colon_accepts i =
      colon_step s o i
      ∙ cond_both (λ (c : Control) (r : Option Cursor). accepts_at s c (skip_blanks s i + 1) ≡ then_at (and_then r value) (accepts_at s (control 5 0 o)))
      (eqb (byte s (skip_blanks s i)) 0x3A)
      (λ _. value_step s o (skip_blanks s i + 1) ∙ value_accepts (skip_blanks s (skip_blanks s i + 1))) (λ _. accepts_lost s (skip_blanks s i + 1))

  member_accepts : (i : ℕ) → accepts_at s (item_move o (byte s i)) (i + 1) ≡ then_at (member_at value s i) (accepts_at s (control 5 0 o))
  unfolding item_move member_at name_at
  member_accepts i =
      rw object
      (cond_both (λ (c : Control) (n : Option Cursor). accepts_at s c (i + 1) ≡ then_at (and_then n value) (accepts_at s (control 5 0 o))) (eqb (byte s i) 0x22)
      (λ _. string_accepts s 4 o (i + 1) ∙ go (string_at s (i + 1))) (λ _. accepts_lost s (i + 1)))
    where
      go : (r : Option Cursor) → then_at r (accepts_at s (control 4 0 o)) ≡ then_at (and_then (and_then r (colon_at s)) value) (accepts_at s (control 5 0 o))
      go (Some c) = colon_accepts c.at
      go None = refl

-- ---- values
module _ (s : List ℕ) (o i : ℕ) (array object : ℕ → Option Cursor)
    (array-accepts : accepts_at s (push o 0) (i + 1) ≡ then_at (array (i + 1)) (accepts_at s (control 5 0 o)))
    (object-accepts : accepts_at s (push o 1) (i + 1) ≡ then_at (object (i + 1)) (accepts_at s (control 5 0 o))) where
  any_accepts : accepts_at s (value_move o (byte s i)) (i + 1) ≡ then_at (any_value_at array object s i) (accepts_at s (control 5 0 o))
  unfolding value_move any_value_at
  any_accepts =
      cond_both Q (eqb (byte s i) 0x22) (λ _. string_accepts s 5 o (i + 1))
      (λ _. cond_both Q (eqb (byte s i) 0x5B) (λ _. array-accepts)
      (λ _. cond_both Q (eqb (byte s i) 0x7B) (λ _. object-accepts)
      (λ _. cond_both Q (eqb (byte s i) 0x74) (λ e. true_accepts s o i (eqb-true _ _ e))
      (λ _. cond_both Q (eqb (byte s i) 0x66) (λ e. false_accepts s o i (eqb-true _ _ e))
      (λ _. cond_both Q (eqb (byte s i) 0x6E) (λ e. null_accepts s o i (eqb-true _ _ e))
      (λ _. number_accepts s o i))))))
    where
      Q : Control → Option Cursor → Type 0
      Q c r = accepts_at s c (i + 1) ≡ then_at r (accepts_at s (control 5 0 o))

-- ---- the stack: m brackets open
half : (o k : ℕ) → k ≤ 1 → (o * 2 + k) / 2 ≡ o
half o k h = omega arith

array_top : (o : ℕ) → is_object_top (o * 2 + 0) ≡ false
array_top o = ne_eqb ((o * 2 + 0) % 2) 1 (omega arith)

object_top : (o : ℕ) → is_object_top (o * 2 + 1) ≡ true
object_top o = eq-eqb ((o * 2 + 1) % 2) 1 (omega arith)

push_full : (o k : ℕ) → full_stack ≤ o → push o k ≡ lost
unfolding push
push_full o k h = rw (le-ltb o full_stack h)

push_on : (o k : ℕ) → o < full_stack → push o k ≡ control 2 0 (o * 2 + k)
unfolding push
push_on o k h = rw (lt-ltb o full_stack h)

deep : (m o : ℕ) → m ≡ 32 → 2 ^ m ≤ o → full_stack ≤ o
deep m o e h = rw e at h

not_deep : (m o : ℕ) → m < 32 → o < 2 ^ suc m → o < full_stack
not_deep m o h l = let q : 2 ^ suc m ≤ 2 ^ 32 = pow-le-pow_right {n = 2} (omega arith) h in omega (arith, q, l)

element : (s : List ℕ) (o : ℕ) → is_object_top o ≡ false → (j : ℕ) → accepts_at s (item_move o (byte s j)) (j + 1) ≡ accepts_at s (value_move o (byte s j)) (j + 1)
unfolding item_move
element s o e j = rw e

-- a value, where d brackets more may be opened
pub value_accepts : (s : List ℕ) (d m o : ℕ) → m + d ≡ 32 → 2 ^ m ≤ o → o < 2 ^ suc m → (i : ℕ)
    → accepts_at s (value_move o (byte s i)) (i + 1) ≡ then_at (value_at d s i) (accepts_at s (control 5 0 o))
unfolding value_at
value_accepts s zero m o e h l i = any_accepts s o i (λ _. None) (λ _. None) (closed 0) (closed 1) where
  closed : (k : ℕ) → accepts_at s (push o k) (i + 1) ≡ false
  closed k = rw (push_full o k (deep m o (omega arith) h)) (accepts_lost s (i + 1))
value_accepts s (suc d) m o e h l i = any_accepts s o i _ _ (array (value_accepts s d (suc m) (o * 2 + 0) (omega arith) (twice 0) (below 0 (omega arith))))
    (object (value_accepts s d (suc m) (o * 2 + 1) (omega arith) (twice 1) (below 1 (omega arith)))) where
      open_up : o < full_stack
      open_up = not_deep m o (omega arith) l

      some : 0 < o
      some = omega (arith, pow_pos m, h)

      twice : (k : ℕ) → 2 ^ suc m ≤ o * 2 + k
      twice k = omega (arith, pow-suc 2 m)

      below : (k : ℕ) → k ≤ 1 → o * 2 + k < 2 ^ suc (suc m)
      below k b = omega (arith, pow-suc 2 (suc m))

      array : ((j : ℕ) → accepts_at s (value_move (o * 2 + 0) (byte s j)) (j + 1) ≡ then_at (value_at d s j) (accepts_at s (control 5 0 (o * 2 + 0))))
          → accepts_at s (push o 0) (i + 1) ≡ then_at (group_at (value_at d s) s 0x5D (i + 1)) (accepts_at s (control 5 0 o))
      array f =
          rw (push_on o 0 open_up)
          (group_accepts s (o * 2 + 0) 0x5D (omega (arith, some)) (rw (array_top o)) (omega arith) (value_at d s) (value_forward d s) (λ j. element s (o * 2 + 0) (array_top o) j ∙ f j) (i + 1)
          ∙ ap (λ (n : ℕ). then_at (group_at (value_at d s) s 0x5D (i + 1)) (accepts_at s (control 5 0 n))) (half o 0 (omega arith)))

      object : ((j : ℕ) → accepts_at s (value_move (o * 2 + 1) (byte s j)) (j + 1) ≡ then_at (value_at d s j) (accepts_at s (control 5 0 (o * 2 + 1))))
          → accepts_at s (push o 1) (i + 1) ≡ then_at (group_at (member_at (value_at d s) s) s 0x7D (i + 1)) (accepts_at s (control 5 0 o))
      object f =
          rw (push_on o 1 open_up)
          (group_accepts s (o * 2 + 1) 0x7D (omega (arith, some)) (rw (object_top o)) (omega arith) (member_at (value_at d s) s) (member_forward d s)
          (member_accepts s (o * 2 + 1) (object_top o) (value_at d s) f) (i + 1)
          ∙ ap (λ (n : ℕ). then_at (group_at (member_at (value_at d s) s) s 0x7D (i + 1)) (accepts_at s (control 5 0 n))) (half o 1 (omega arith)))

-- ---- a whole text
over : (s : List ℕ) (i : ℕ) → accepts_at s (control 5 0 1) i ≡ leb (length s) (skip_blanks s i)
unfolding place_moves after_move accepting whole
over s i = accepts_skip s blank no_blank (control 5 0 1) (blank_stays (control 5 0 1) refl) i ∙ go (ltb (skip_blanks s i) (length s)) refl where
  go : (t : Bool) → ltb (skip_blanks s i) (length s) ≡ t → accepts_at s (control 5 0 1) (skip_blanks s i) ≡ leb (length s) (skip_blanks s i)
  go true h =
      accepts_inside s (control 5 0 1) (skip_blanks s i) (ltb-true _ _ h)
      ∙ ap (λ (c : Control). accepts_at s c (skip_blanks s i + 1)) (place_move_lem s 1 5 _ (skip_ended blank no_blank s i))
      ∙ accepts_lost s (skip_blanks s i + 1) ∙ sym (lt-leb (length s) (skip_blanks s i) (ltb-true _ _ h))
  go false h = accepts_past s (control 5 0 1) (skip_blanks s i) (ltb-false _ _ h) ∙ sym (le-leb (length s) (skip_blanks s i) (ltb-false _ _ h))

-- taken byte by byte, exactly the JSON texts are accepted
pub accepts_json : (s : List ℕ) → accepting (run_moves start s) ≡ is_json s
unfolding is_json accepts_at
accepts_json s =
    value_step s 1 0 ∙ value_accepts s 32 0 1 refl (omega arith) (omega arith) (skip_blanks s 0) ∙ go (value_at nesting s (skip_blanks s 0))
  where
    go : (r : Option Cursor) → then_at r (accepts_at s (control 5 0 1)) ≡ ends_text s r
    go (Some c) = over s c.at
    go None = refl
