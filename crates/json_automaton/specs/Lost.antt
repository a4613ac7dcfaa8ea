-- What request P6 asks of the state, in the terms of the grammar.
use Rattle.std.specs.Prelude.{◌≡◌, Bool, true, List, ◌++◌, ℕ, ◌<◌, length, ltb}
use Rattle.limits.specs.Limits.{metadata, nesting}
use Rattle.json_blocks.specs.Lists.{all}
use Rattle.json_grammar.specs.Grammar.{Text}
use Rattle.json_automaton.specs.declared.State.{State}

-- "the text so far is already too long or no continuation, however long, meets the JSON rules"
pub data Lost (s : List ℕ) : Type 0 where
  too_long_lem : metadata < length s → Lost s
  hopeless : ((rest : List ℕ) → Text nesting (s ++ rest) → ⊥) → Lost s

abbrev pub is_byte : ℕ → Bool
is_byte b = ltb b 256

-- some chunks lead to the state; run says where chunks lead
pub data Reached (run : List (List ℕ) → State) (st : State) : Type 0 where
  reached : (chunks : List (List ℕ)) → all (all is_byte) chunks ≡ true → run chunks ≡ st → Reached run st
