-- For the code: the last arm of its match over tokens, and the steps of the loop over a chunk.
use mathlib.Core.Path.{◌≡◌, sym, ◌∙◌}
use mathlib.Core.Bool.{Bool, true, false}
use mathlib.Core.List.{List}
use Prim.Native.Nat.{ℕ, ◌≤◌, ◌<◌, ◌+◌}
use lib.ListN.{length, get_or, drop, get_or-eq_default}
use Rattle.json_blocks.specs.TextBytes.{blank, skip_while, skip_blanks}
use Rattle.json_blocks.specs.Blocks.{plain_byte}
use Rattle.json_blocks.proofs.ByteLaws.{no_blank, skip_onward}
use Rattle.json_blocks.proofs.BlockLaws.{no_plain}
use Rattle.json_automaton.specs.Token.{bad, token_moves, token_move}
use Rattle.json_automaton.specs.declared.Control.{Control}
use Rattle.json_automaton.specs.Control.{lost, move, run_moves}
use Rattle.json_automaton.proofs.Accept.{run_lost, run_inside, run_skip, blank_stays, plain_stays}
use Rattle.json_transitions.specs.Kept.{Kept}

pub token_none : (t b : ℕ) → 38 ≤ t → bad ≡ token_move t b
unfolding token_move token_moves
token_none t b h = sym (get_or-eq_default (token_moves b) bad h)

-- ---- bytes that leave the control as it is
module _ (c : Control) (s : List ℕ) (at : ℕ) where
  skipped : (good : ℕ → Bool) → good 0 ≡ false → ((b : ℕ) → good b ≡ true → move c b ≡ c) → (r : ℕ) → r ≡ skip_while good s at → Kept c s at r
  skipped good z f r e = rw e (record { onward = skip_onward good z s at; same = run_skip s good z c f at })

  pub kept_plain : c.token ≡ 1 → (r : ℕ) → r ≡ skip_while plain_byte s at → Kept c s at r
  kept_plain t = skipped plain_byte no_plain (plain_stays c t)

  pub kept_blanks : c.token ≡ 0 → (r : ℕ) → r ≡ skip_blanks s at → Kept c s at r
  kept_blanks t = skipped blank no_blank (blank_stays c t)

  pub kept_lost : c.place ≡ 6 → c.token ≡ 0 → c.stack ≡ 0 → at ≤ length s → Kept c s at (length s)
  kept_lost p t o h = record { onward = h; same = alike _ ∙ sym (alike _) }
    where
      alike : (l : List ℕ) → run_moves c l ≡ lost
      alike l = rw (p, t, o) (run_lost l)

-- ---- the loop over a chunk
module _ (c d : Control) (s : List ℕ) (i r : ℕ) where
  pub run_on : i < length s → d ≡ move c (get_or s i 0) → Kept d s (i + 1) r → run_moves d (drop r s) ≡ run_moves c (drop i s)
  run_on h e k = k.same ∙ (rw e (sym (run_inside s c i h)))
