-- Steps of the definitions of specs/TextBytes.antt, on plain variables.
use Rattle.std.specs.Prelude.{None, Option, Some}
use mathlib.Core.Path.{◌≡◌, refl, sym, ◌∙◌}
use mathlib.Core.Bool.{Bool, true, false, cond, ◌&&◌}
use mathlib.Core.List.{List}
use Prim.Native.Nat.{ℕ, zero, suc, ◌≤◌, ◌<◌, ◌+◌, ◌-◌}
use native.Mathlib.Omega.{arith}
use native.Mathlib.Numerals.{add-one}
use lib.ListN.{length, get_or, drop, drop_of_length-le, get_or-eq_default}
use lib.Seq.{drop-cons}
use lib.Dec.{ltb, leb}
use borrow.Author.Tests.{eq-eqb, ne_eqb, lt-ltb, le-ltb, lt-leb, le-leb, ltb-true, ltb-false, leb-true}
use Rattle.json_blocks.specs.declared.Cursor.{Cursor}
use Rattle.json_blocks.specs.Turns.{Turn, on, out, after_turn, run_turns, run_text}
use Rattle.json_blocks.specs.TextBytes.{byte, to, and_then, within, blank, skip_turn, skip_while, byte_within, literal_at}
use Rattle.json_blocks.proofs.TurnLaws.{Advances, run_out, run_on}

-- a byte that is not 0 stands inside the text
pub inside : (s : List ℕ) (i b : ℕ) → b ≡ byte s i → 0 < b → i < length s
inside s i b e p = go (ltb i (length s)) refl where
  go : (t : Bool) → ltb i (length s) ≡ t → i < length s
  go true q = ltb-true _ _ q
  go false q = let z : byte s i ≡ 0 = get_or-eq_default s 0 (ltb-false _ _ q) in omega arith

-- what holds of both answers of a test holds of its answer
pub cond_elim : {A : Type 0} (P : A → Type 0) (t : Bool) (a b : A) → (t ≡ true → P a) → (t ≡ false → P b) → P (cond t a b)
cond_elim P true a b f g = f refl
cond_elim P false a b f g = g refl

-- ---- tests
module _ (lo hi b : ℕ) where
  pub within_below : b < lo → false ≡ within lo hi b
  unfolding within
  within_below h = rw (lt-leb _ _ h)

  pub within_from : lo ≤ b → leb b hi ≡ within lo hi b
  unfolding within
  within_from h = rw (le-leb _ _ h)

  pub within_is : within lo hi b ≡ true → (lo ≤ b) × (b ≤ hi)
  unfolding within
  within_is e = go (leb lo b) refl e where
    go : (t : Bool) → leb lo b ≡ t → (t && leb b hi) ≡ true → (lo ≤ b) × (b ≤ hi)
    go true q e = (leb-true _ _ q, leb-true _ _ e)
    go false q e = let z : ◌≡◌ {A = ℕ} 0 1 = cc in absurd (omega arith)

  pub within_above : hi < b → within lo hi b ≡ false
  unfolding within
  within_above h = go (leb lo b) where
    go : (t : Bool) → (t && leb b hi) ≡ false
    go true = lt-leb _ _ h
    go false = refl

pub no_blank : blank 0 ≡ false
unfolding blank
no_blank = refl

-- ---- bytes that are good
module _ (good : ℕ → Bool) (good0 : good 0 ≡ false) (s : List ℕ) where
  pub good_inside : (i b : ℕ) → b ≡ byte s i → good b ≡ true → i < length s
  good_inside i b e p = inside s i b e (go b p) where
    go : (b : ℕ) → good b ≡ true → 0 < b
    go zero p = let z : ◌≡◌ {A = ℕ} 0 1 = cc in absurd (omega arith)
    go (suc b) p = omega arith

  skip_advances : Advances s (skip_turn good s)
  unfolding skip_turn
  skip_advances i j e = go (good (byte s i)) refl e where
    go : (t : Bool) → good (byte s i) ≡ t → ◌≡◌ {A = Turn ℕ} (cond t (on (i + 1)) (out i)) (on j) → (i < j) × (i < length s)
    go true q e =
        let l = good_inside i (byte s i) refl q in
        let m : i + 1 ≡ j = cc in
        (omega arith, l)
    go false q e = let z : ◌≡◌ {A = ℕ} 0 1 = cc in absurd (omega arith)

  pub skip_on : (i b : ℕ) → b ≡ byte s i → good b ≡ true → skip_while good s (i + 1) ≡ skip_while good s i
  unfolding skip_while skip_turn
  skip_on i b e h = run_on s 0 (skip_turn good s) skip_advances i (i + 1) (rw (← e, h))

  pub skip_out : (i b : ℕ) → b ≡ byte s i → good b ≡ false → i ≡ skip_while good s i
  unfolding skip_while skip_turn
  skip_out i b e h = run_out s 0 (skip_turn good s) i i (rw (← e, h))

  -- no good byte stands past the end
  pub skip_end : (i : ℕ) → length s ≤ i → i ≡ skip_while good s i
  skip_end i h = skip_out i 0 (sym (get_or-eq_default s 0 h)) good0

  onward_f : (n at : ℕ) → length s - at < n → at ≤ run_turns 0 (skip_turn good s) n at
  unfolding run_turns skip_turn
  onward_f zero at h = absurd (omega arith)
  onward_f (suc n) at h = step (good (byte s at)) refl (λ l. onward_f n (at + 1) (omega (arith, l))) where
    step : (t : Bool) → good (byte s at) ≡ t → (at < length s → at + 1 ≤ run_turns 0 (skip_turn good s) n (at + 1))
        → at ≤ after_turn {A = ℕ} (cond t (on (at + 1)) (out at)) (λ j. run_turns 0 (skip_turn good s) n j)
    step true e p = omega (arith, p (good_inside at (byte s at) refl e))
    step false e p = omega arith

  -- where the good bytes end is not before
  pub skip_onward : (at : ℕ) → at ≤ skip_while good s at
  unfolding skip_while run_text
  skip_onward at = onward_f (suc (length s)) at (omega arith)

  module _ {A : Type 0} (f : ℕ → A) (same : (i : ℕ) → good (byte s i) ≡ true → f (i + 1) ≡ f i) where
    pass_f : (n at : ℕ) → length s - at < n → f (run_turns 0 (skip_turn good s) n at) ≡ f at
    unfolding run_turns skip_turn
    pass_f zero at h = absurd (omega arith)
    pass_f (suc n) at h = step (good (byte s at)) refl (λ l. pass_f n (at + 1) (omega (arith, l))) where
      step : (t : Bool) → good (byte s at) ≡ t → (at < length s → f (run_turns 0 (skip_turn good s) n (at + 1)) ≡ f (at + 1))
          → f (after_turn {A = ℕ} (cond t (on (at + 1)) (out at)) (λ j. run_turns 0 (skip_turn good s) n j)) ≡ f at
      step true e p = p (good_inside at (byte s at) refl e) ∙ same at e
      step false e p = refl

    -- what each good byte leaves as it is, is where they end as it was
    pub skip_pass : (at : ℕ) → f (skip_while good s at) ≡ f at
    unfolding skip_while run_text
    skip_pass at = pass_f (suc (length s)) at (omega arith)

pub blanks_onward : (s : List ℕ) (at : ℕ) → at ≤ skip_while blank s at
blanks_onward s at = skip_onward blank no_blank s at

-- ---- the word w from i on
module _ (s w : List ℕ) (at i : ℕ) where
  pub literal_end : length w ≤ i → to at ≡ literal_at s (drop i w) at
  unfolding literal_at
  literal_end h = rw (drop_of_length-le w h)

  pub literal_short : i < length w → length s ≤ at → None ≡ literal_at s (drop i w) at
  unfolding literal_at
  literal_short h l = rw (drop-cons w i 0 h, le-ltb _ _ l)

  pub literal_on : i < length w → at < length s → byte s at ≡ get_or w i 0 → literal_at s (drop (i + 1) w) (at + 1) ≡ literal_at s (drop i w) at
  unfolding literal_at
  literal_on h l e = rw (add-one i, drop-cons w i 0 h, lt-ltb _ _ l, eq-eqb _ _ e)

  pub literal_not : i < length w → at < length s → (byte s at ≡ get_or w i 0 → ⊥) → None ≡ literal_at s (drop i w) at
  unfolding literal_at
  literal_not h l e = rw (drop-cons w i 0 h, lt-ltb _ _ l, ne_eqb _ _ e)

-- ---- no reader goes back
pub data Onward (at : ℕ) : Option Cursor → Type 0 where
  on_to : {c : Cursor} → at ≤ c.at → Onward at (Some c)
  on_bad : Onward at None

pub onward_is : {at : ℕ} {c : Cursor} → Onward at (Some c) → at ≤ c.at
onward_is (on_to h) = h

pub onward_cond : {at : ℕ} {a b : (Option Cursor)} (t : Bool) → Onward at a → Onward at b → Onward at (cond t a b)
onward_cond true p q = p
onward_cond false p q = q

pub onward_less : {at i : ℕ} {r : (Option Cursor)} → at ≤ i → Onward i r → Onward at r
onward_less h (on_to {c} p) = on_to {c = c} (omega arith)
onward_less h on_bad = on_bad

pub onward_past : {at : ℕ} {r : (Option Cursor)} → Onward (at + 1) r → Onward at r
onward_past p = onward_less (omega arith) p

pub onward_then : {at : ℕ} {r : (Option Cursor)} (f : ℕ → Option Cursor) → Onward at r → ((j : ℕ) → Onward j (f j)) → Onward at (and_then r f)
onward_then f (on_to {c} p) g = onward_less p (g c.at)
onward_then f on_bad g = on_bad

pub byte_onward : (s : List ℕ) (lo hi at : ℕ) → Onward at (byte_within s lo hi at)
unfolding byte_within
byte_onward s lo hi at = onward_cond (within lo hi (byte s at)) (on_to (omega arith)) on_bad
