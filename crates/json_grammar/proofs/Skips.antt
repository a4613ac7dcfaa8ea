-- Blanks and digits: bytes of one kind, up to the first of another.
use mathlib.Core.Path.{◌≡◌, refl, sym, subst, ◌∙◌}
use mathlib.Core.Bool.{Bool, true, false, cond, ◌||◌}
use mathlib.Core.List.{List, [], ◌∷◌}
use Prim.Native.Nat.{ℕ, zero, suc, ◌<◌, ◌+◌, ◌-◌}
use native.Mathlib.Omega.{arith}
use lib.ListN.{length}
use lib.Dec.{eqb}
use borrow.Author.Tests.{eqb-true, le-leb}
use Rattle.json_blocks.specs.Turns.{on, out, after_turn, run_turns, run_text}
use Rattle.json_blocks.specs.TextBytes.{byte, within, blank, skip_turn, skip_while, skip_blanks}
use Rattle.json_tokens.specs.Number.{digit, skip_digits}
use Rattle.json_blocks.proofs.ByteLaws.{within_is, good_inside, no_blank, skip_on, skip_out}
use Rattle.json_tokens.proofs.NumberLaws.{no_digit}
use Rattle.json_grammar.specs.Grammar.{Between, Blank, space, tab, line_feed, carriage_return, Blanks, no_blanks, blanks, Digits, no_digits, digits}
use Rattle.json_grammar.specs.Stands.{Stands}
use Rattle.json_grammar.proofs.Stands.{stands_none, stands_one, stands_join, stands_head, stands_tail}
use Rattle.json_grammar.proofs.Derived.{Derived, derived, stands_nil}

-- ---- lists of bytes that are good
module _ (good : ℕ → Bool) (good0 : good 0 ≡ false) (P : List ℕ → Type 0) (s : List ℕ) where
  module _ (nil : P []) (cons : (b : ℕ) (w : List ℕ) → good b ≡ true → P w → P (b ∷ w)) where
    put : {i j : ℕ} → good (byte s i) ≡ true → i < length s → Derived P s (i + 1) j → Derived P s i j
    put {i} e h (derived p q) = derived (cons _ _ e p) (stands_join s (stands_one s i h) q)

    skip_sound_f : (n i : ℕ) → length s - i < n → Derived P s i (run_turns 0 (skip_turn good s) n i)
    unfolding run_turns skip_turn
    skip_sound_f zero i h = absurd (omega arith)
    skip_sound_f (suc n) i h = go (good (byte s i)) refl (λ l. skip_sound_f n (i + 1) (omega (arith, l))) where
      go : (t : Bool) → good (byte s i) ≡ t → (i < length s → Derived P s (i + 1) (run_turns 0 (skip_turn good s) n (i + 1)))
          → Derived P s i (after_turn {A = ℕ} (cond t (on (i + 1)) (out i)) (λ j. run_turns 0 (skip_turn good s) n j))
      go true e f = let l = good_inside good good0 s i (byte s i) refl e in put e l (f l)
      go false e f = derived nil (stands_none s i)

    skip_sound : (i : ℕ) → Derived P s i (skip_while good s i)
    unfolding skip_while run_text
    skip_sound i = skip_sound_f (suc (length s)) i (omega arith)

  module _ (uncons : (b : ℕ) (w : List ℕ) → P (b ∷ w) → (good b ≡ true) × P w) where
    skip_complete : (w : List ℕ) {i j : ℕ} → P w → Stands s i w j → good (byte s j) ≡ false → skip_while good s i ≡ j
    skip_complete [] {i} {j} p q e = let n = stands_nil q in rw (← n) (sym (skip_out good good0 s i (byte s i) refl (rw n e)))
    skip_complete (b ∷ w) {i} {j} p q e =
        let u = uncons b w p in
        sym (skip_on good good0 s i b (sym (stands_head s q)) u.0) ∙ skip_complete w u.1 (stands_tail s q) e

-- ---- blanks
-- a byte is one of those that it was compared with
pub or_is : (P : ℕ → Type 0) (b c : ℕ) (t : Bool) → (t ≡ true → P b) → P c → (t || eqb b c) ≡ true → P b
or_is P b c true f p e = f refl
or_is P b c false f p e = subst P (sym (eqb-true b c e)) p

blank_sound : (b : ℕ) → blank b ≡ true → Blank b
unfolding blank
blank_sound b =
    or_is Blank b 0x0D _ (or_is Blank b 0x0A _ (or_is Blank b 0x09 _ (λ e. subst Blank (sym (eqb-true b 0x20 e)) space) tab) line_feed) carriage_return

blank_complete : {b : ℕ} → Blank b → blank b ≡ true
unfolding blank
blank_complete space = refl
blank_complete tab = refl
blank_complete line_feed = refl
blank_complete carriage_return = refl

blanks_uncons : {b : ℕ} {w : List ℕ} → Blanks (b ∷ w) → (blank b ≡ true) × Blanks w
blanks_uncons (blanks p q) = (blank_complete p, q)

pub blanks_sound : (s : List ℕ) (i : ℕ) → Derived Blanks s i (skip_blanks s i)
blanks_sound s i = skip_sound blank no_blank Blanks s no_blanks (λ b w e p. blanks (blank_sound b e) p) i

pub blanks_complete : {s w : List ℕ} {i j : ℕ} → Blanks w → Stands s i w j → blank (byte s j) ≡ false → skip_blanks s i ≡ j
blanks_complete {s} {w} p q e = skip_complete blank no_blank Blanks s (λ b w r. blanks_uncons r) w p q e

-- what holds of every blank and of the byte after blanks holds of the byte where they begin
pub blanks_first : {s w : List ℕ} {i j : ℕ} (P : ℕ → Type 0) → ((b : ℕ) → Blank b → P b) → Blanks w → Stands s i w j → P (byte s j) → P (byte s i)
blanks_first {s} P f no_blanks q h = rw (stands_nil q) h
blanks_first {s} P f (blanks {b} p r) q h = rw (stands_head s q) (f b p)

-- ---- digits
pub between_is : {lo hi b : ℕ} → within lo hi b ≡ true → Between lo hi b
between_is {lo} {hi} {b} e = let w = within_is lo hi b e in record { low = w.0; high = w.1 }

pub is_between : {lo hi b : ℕ} → Between lo hi b → within lo hi b ≡ true
unfolding within
is_between {lo} {hi} {b} p = rw (le-leb lo b p.low, le-leb b hi p.high)

digits_uncons : {b : ℕ} {w : List ℕ} → Digits (b ∷ w) → (digit b ≡ true) × Digits w
digits_uncons (digits p q) = (is_between p, q)

pub digits_sound : (s : List ℕ) (i : ℕ) → Derived Digits s i (skip_digits s i)
digits_sound s i = skip_sound digit no_digit Digits s no_digits (λ b w e p. digits (between_is e) p) i

pub digits_complete : {s w : List ℕ} {i j : ℕ} → Digits w → Stands s i w j → digit (byte s j) ≡ false → skip_digits s i ≡ j
digits_complete {s} {w} p q e = skip_complete digit no_digit Digits s (λ b w r. digits_uncons r) w p q e
