-- The state that goes from chunk to chunk.
use Rattle.std.specs.Prelude.{Bool, cond, not, List, [], ◌∷◌, ◌++◌, ℕ, ◌+◌, length, eqb, leb}
use Rattle.limits.specs.Limits.{metadata, bad_text}
use Rattle.refusals.specs.Refusals.{Rule, rule}
use Rattle.json_automaton.specs.declared.Control.{Control}
use Rattle.json_automaton.specs.declared.State.{State}
use Rattle.json_automaton.specs.Control.{control, start, lost, run_moves}

abbrev pub state : Control → ℕ → State
state c n = record { place = c.place; token = c.token; stack = c.stack; count = n }

abbrev pub control_of : State → Control
control_of st = control st.place st.token st.stack

abbrev pub fresh : State
fresh = state start 0

abbrev pub too_long : State
too_long = state lost (metadata + 1)

-- a chunk more
unfoldable pub fed : State → List ℕ → State
fed st chunk = cond (leb (st.count + length chunk) metadata) (state (run_moves (control_of st) chunk) (st.count + length chunk)) too_long

-- the text that chunks make
unfoldable pub joined : List (List ℕ) → List ℕ
joined [] = []
joined (chunk ∷ chunks) = chunk ++ joined chunks

-- "already too long", or no continuation meets the JSON rules
abbrev pub is_lost : State → Bool
is_lost st = eqb st.place lost.place

-- "judging the joined text by the length and JSON rules alone": of n bytes, that are JSON or not
abbrev pub joined_rules : ℕ → Bool → List Rule
joined_rules n json = rule 1 (bad_text n) ∷ rule 2 (not json) ∷ []
