-- Acceptance of what is left of a text from a place on, and its steps.
use Rattle.json_blocks.specs.declared.Cursor.{Cursor}
use Rattle.std.specs.Prelude.{None, Option, Some}
use mathlib.Core.Path.{◌≡◌, refl, sym, ap, ◌∙◌}
use mathlib.Core.Bool.{Bool, true, false, cond}
use mathlib.Core.List.{List, [], ◌∷◌}
use Prim.Native.Nat.{ℕ, zero, suc, ◌≤◌, ◌<◌, ◌+◌, ◌-◌}
use native.Mathlib.Omega.{arith}
use native.Mathlib.Numerals.{add-one}
use lib.ListN.{length, drop, drop_of_length-le, get_or-eq_default}
use lib.Seq.{drop-cons}
use lib.Dec.{eqb, ltb}
use borrow.Author.Tests.{ne_eqb, lt-ltb, le-ltb, ltb-true, ltb-false}
use Rattle.json_blocks.specs.Turns.{on, out, after_turn, run_turns, run_text}
use Rattle.json_blocks.specs.TextBytes.{byte, to, and_then, blank, within, byte_within, skip_turn, skip_while}
use Rattle.json_blocks.specs.Blocks.{plain_byte}
use Rattle.json_blocks.proofs.BlockLaws.{plain_is}
use Rattle.json_blocks.proofs.ByteLaws.{cond_elim, good_inside, skip_pass}
use Rattle.json_automaton.specs.Token.{bad, byte_move, text_move, token_moves, token_move, whole}
use Rattle.json_automaton.specs.declared.Control.{Control}
use Rattle.json_automaton.specs.Control.{control, lost, place_moves, place_move, moved, move, run_moves, accepting}

-- what is left of s from i on makes the text whole
unfoldable pub accepts_at : List ℕ → Control → ℕ → Bool
accepts_at s c i = accepting (run_moves c (drop i s))

-- go on where a read got to; no read, no text
abbrev pub then_at : Option Cursor → (ℕ → Bool) → Bool
then_at (Some c) f = f c.at
then_at None f = false

pub then_then : (r : Option Cursor) (f : ℕ → Option Cursor) (g : ℕ → Bool) → then_at (and_then r f) g ≡ then_at r (λ j. then_at (f j) g)
then_then (Some c) f g = refl
then_then None f g = refl

pub then_same : (r : Option Cursor) {f g : ℕ → Bool} → ((j : ℕ) → f j ≡ g j) → then_at r f ≡ then_at r g
then_same (Some c) h = h c.at
then_same None h = refl

-- two answers of one test
pub cond_both : {A B : Type 0} (R : A → B → Type 0) (t : Bool) {a c : A} {b d : B} → (t ≡ true → R a b) → (t ≡ false → R c d) → R (cond t a c) (cond t b d)
cond_both R true f g = f refl
cond_both R false f g = g refl

-- ---- a lost text stays lost
pub move_lost : (b : ℕ) → move lost b ≡ lost
unfolding move moved token_move token_moves whole place_move place_moves
move_lost b = cond_elim (λ c. c ≡ lost) (blank b) _ _ (λ _. refl) (λ _. refl)

pub run_lost : (s : List ℕ) → run_moves lost s ≡ lost
unfolding run_moves
run_lost [] = refl
run_lost (b ∷ s) = rw (move_lost b) (run_lost s)

-- ---- bytes of a text, one by one
module _ (s : List ℕ) where
  pub run_inside : (c : Control) (i : ℕ) → i < length s → run_moves c (drop i s) ≡ run_moves (move c (byte s i)) (drop (i + 1) s)
  unfolding run_moves
  run_inside c i h = rw (add-one i, drop-cons s i 0 h)

  pub run_past : (c : Control) (i : ℕ) → length s ≤ i → run_moves c (drop i s) ≡ c
  unfolding run_moves
  run_past c i h = rw (drop_of_length-le s h)

  -- bytes that leave the control as it is
  module _ (good : ℕ → Bool) (good0 : good 0 ≡ false) (c : Control) (stays : (b : ℕ) → good b ≡ true → move c b ≡ c) where
    pub run_skip : (i : ℕ) → run_moves c (drop (skip_while good s i) s) ≡ run_moves c (drop i s)
    run_skip i = skip_pass good good0 s (λ j. run_moves c (drop j s)) same i
      where
        same : (i : ℕ) → good (byte s i) ≡ true → run_moves c (drop (i + 1) s) ≡ run_moves c (drop i s)
        same i e = sym (run_inside c i (good_inside good good0 s i (byte s i) refl e) ∙ ap (λ (d : Control). run_moves d (drop (i + 1) s)) (stays (byte s i) e))

    pub accepts_skip : (i : ℕ) → accepts_at s c i ≡ accepts_at s c (skip_while good s i)
    unfolding accepts_at
    accepts_skip i = ap accepting (sym (run_skip i))

  -- ---- what is accepted from a place on
  pub accepts_lost : (i : ℕ) → accepts_at s lost i ≡ false
  unfolding accepts_at accepting whole
  accepts_lost i = rw (run_lost (drop i s))

  pub accepts_inside : (c : Control) (i : ℕ) → i < length s → accepts_at s c i ≡ accepts_at s (move c (byte s i)) (i + 1)
  unfolding accepts_at
  accepts_inside c i h = ap accepting (run_inside c i h)

  pub accepts_past : (c : Control) (i : ℕ) → length s ≤ i → accepts_at s c i ≡ accepting c
  unfolding accepts_at
  accepts_past c i h = ap accepting (run_past c i h)

  -- a step that needs no test for the end: no text ends here
  pub accepts_step : (c : Control) (i : ℕ) → accepting c ≡ false → move c 0 ≡ lost → accepts_at s c i ≡ accepts_at s (move c (byte s i)) (i + 1)
  accepts_step c i e z = go (ltb i (length s)) refl where
    go : (t : Bool) → ltb i (length s) ≡ t → accepts_at s c i ≡ accepts_at s (move c (byte s i)) (i + 1)
    go true h = accepts_inside c i (ltb-true _ _ h)
    go false h =
        let l : length s ≤ i = ltb-false _ _ h in
        let y : byte s i ≡ 0 = get_or-eq_default s 0 l in
        rw (accepts_past c i l, e, y, z, accepts_lost (i + 1))

-- a blank between tokens, and a plain byte of a string, leave the control as it is
pub blank_stays : (c : Control) → c.token ≡ 0 → (b : ℕ) → blank b ≡ true → move c b ≡ c
unfolding move moved token_move token_moves whole place_move
blank_stays c e b h = rw (e, h)

pub plain_stays : (c : Control) → c.token ≡ 1 → (b : ℕ) → plain_byte b ≡ true → move c b ≡ c
unfolding move moved token_move token_moves text_move
plain_stays c e b h =
    let p = plain_is b h in
    rw (e, ne_eqb b 0x22 p.quote, le-ltb b 0x20 p.low, ne_eqb b 0x5C p.slash, lt-ltb b 0x80 p.high)

-- where the good bytes end stands another
module _ (good : ℕ → Bool) (good0 : good 0 ≡ false) (s : List ℕ) where
  end_f : (n i : ℕ) → length s - i < n → good (byte s (run_turns 0 (skip_turn good s) n i)) ≡ false
  unfolding run_turns skip_turn
  end_f zero i h = absurd (omega arith)
  end_f (suc n) i h = go (good (byte s i)) refl (λ l. end_f n (i + 1) (omega (arith, l))) where
    go : (t : Bool) → good (byte s i) ≡ t → (i < length s → good (byte s (run_turns 0 (skip_turn good s) n (i + 1))) ≡ false)
        → good (byte s (after_turn {A = ℕ} (cond t (on (i + 1)) (out i)) (λ j. run_turns 0 (skip_turn good s) n j))) ≡ false
    go true e p = p (good_inside good good0 s i (byte s i) refl e)
    go false e p = e

  pub skip_ended : (i : ℕ) → good (byte s (skip_while good s i)) ≡ false
  unfolding skip_while run_text
  skip_ended i = end_f (suc (length s)) i (omega arith)

-- ---- tokens that are not whole
moved_bad : (p o b : ℕ) {n : ℕ} → n ≡ bad → moved p o false n b ≡ lost
unfolding moved
moved_bad p o b e = rw e

module _ (s : List ℕ) (p o t : ℕ) (w : whole t ≡ false) where
  not_accepting : accepting (control p t o) ≡ false
  unfolding accepting
  not_accepting = rw w

  move_token : (b : ℕ) → move (control p t o) b ≡ moved p o false (token_move t b) b
  unfolding move
  move_token b = rw w

  pub token_step : (i : ℕ) → token_move t 0 ≡ bad → accepts_at s (control p t o) i ≡ accepts_at s (moved p o false (token_move t (byte s i)) (byte s i)) (i + 1)
  token_step i z =
      accepts_step s (control p t o) i not_accepting (move_token 0 ∙ moved_bad p o 0 z)
      ∙ ap (λ (d : Control). accepts_at s d (i + 1)) (move_token (byte s i))

  -- one byte from lo to hi
  pub byte_step : (lo hi n i : ℕ) → ((b : ℕ) → token_move t b ≡ byte_move lo hi n b) → byte_move lo hi n 0 ≡ bad → eqb n bad ≡ false
      → accepts_at s (control p t o) i ≡ then_at (byte_within s lo hi i) (accepts_at s (control p n o))
  unfolding byte_move byte_within moved
  byte_step lo hi n i e z q =
      token_step i (e 0 ∙ z) ∙ ap (λ (m : ℕ). accepts_at s (moved p o false m (byte s i)) (i + 1)) (e (byte s i))
      ∙ cond_elim P (within lo hi (byte s i)) n bad (λ h. rw (q, h)) (λ h. rw h (accepts_lost s (i + 1)))
    where
      P : ℕ → Type 0
      P m = accepts_at s (moved p o false m (byte s i)) (i + 1) ≡ then_at (cond (within lo hi (byte s i)) (to (i + 1)) None) (accepts_at s (control p n o))
