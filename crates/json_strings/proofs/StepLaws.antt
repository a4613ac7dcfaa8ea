-- Steps of the definitions of specs/Decode.antt, a character at a time, on plain variables.
use Rattle.std.specs.Prelude.{Option, Some}
use mathlib.Core.Path.{◌≡◌, sym, ap, subst, ◌∙◌}
use mathlib.Core.Bool.{true}
use mathlib.Core.List.{List, []}
use Prim.Native.Nat.{ℕ, ◌≤◌, ◌<◌, ◌+◌}
use native.Mathlib.Omega.{arith}
use lib.ListN.{length, drop, length-drop, length-append}
use borrow.Author.Tests.{eq-eqb, ne_eqb}
use Rattle.json_blocks.specs.TextBytes.{byte}
use Rattle.json_characters.specs.String.{character_at}
use Rattle.json_blocks.specs.declared.Cursor.{Cursor}
use Rattle.json_grammar.specs.Grammar.{Character}
use Rattle.json_grammar.proofs.Derived.{Derived, derived, Got, got_is}
use Rattle.json_grammar.proofs.Strings.{character_sound}
use Rattle.json_strings.specs.Decode.{escape_unit, unit_bytes, unit_end, ends_string}
use Rattle.json_strings.specs.Characters.{step_of, raw_step, step_at}
use Rattle.json_strings.proofs.DecodeLaws.{ends_not, unit_escape, past_character}

module _ (s : List ℕ) (at : ℕ) where
  pub step_end : ends_string s at ≡ true → step_of [] at ≡ step_at s at
  unfolding step_at
  step_end e = rw e

  module _ (l : at < length s) where
    pub step_unit : byte s at ≡ 0x5C → (u : Option (ℕ × ℕ)) → u ≡ escape_unit s (at + 1) → (v : Option (ℕ × ℕ)) → u ≡ v → step_of (unit_bytes s at v) (unit_end at v) ≡ step_at s at
    unfolding step_at
    step_unit eb u eu v h = rw (ends_not s at l (λ z. omega arith), eq-eqb _ _ eb, unit_escape s at l eb u eu, h)

    module _ (h : byte s at ≡ 0x5C → ⊥) (q : byte s at ≡ 0x22 → ⊥) (r : Option Cursor) (er : r ≡ character_at s at) where
      pub step_raw_lem : (v : Option Cursor) → r ≡ v → raw_step s at v ≡ step_at s at
      unfolding step_at
      step_raw_lem v e = rw (ends_not s at l q, ne_eqb _ _ h, ← er, e)

      -- a character ends past its beginning and inside the text
      pub raw_inside : (c : Cursor) → r ≡ Some c → (at < c.at) × (c.at ≤ length s)
      raw_inside c e = go (got_is (subst (Got (Derived Character s at)) (sym er ∙ e) (character_sound s at q))) where
        go : Derived Character s at c.at → (at < c.at) × (c.at ≤ length s)
        go (derived {xs} p d) =
            let g = ap length d.rest ∙ length-append xs (drop c.at s) in
            (past_character s at c (sym er ∙ e), omega (arith, d.end, g, length-drop at s, length-drop c.at s))
