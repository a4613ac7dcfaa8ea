-- Request P6: what is answered between the chunks of a text, and after the last.
use Rattle.std.specs.Prelude.{Bool, cond, not, List, ◌∷◌, ℕ}
use Rattle.refusals.specs.Refusals.{Rule, rule, lowest}
use Rattle.json_automaton.specs.declared.State.{State}
use Rattle.json_automaton.specs.Control.{accepting}
use Rattle.json_automaton.specs.State.{control_of, fed, is_lost, joined_rules}
use Rattle.json_automaton.specs.Reachable.{is_reachable}
use Rattle.json_stream.specs.declared.Fed.{Fed}

-- a refusal: its number, and 0 in every other
abbrev pub fed_refused : ℕ → Fed
fed_refused n = record { refusal = n; lost = 0; state = record { place = 0; token = 0; stack = 0; count = 0 } }

-- "it reports "lost" .. and "open" otherwise": 1 and 0
abbrev pub lost_number : Bool → ℕ
lost_number gone = cond gone 1 0

abbrev pub fed_reported : State → Fed
fed_reported st = record { refusal = 0; lost = lost_number (is_lost st); state = st }

-- 18: "A state handed back in gives 18 exactly when no blocks lead to it"
unfoldable pub fed_answer : State → List ℕ → Fed
fed_answer st chunk = cond (is_reachable st) (fed_reported (fed st chunk)) (fed_refused 18)

-- "After the last block the answer is 1, 2 or passed": 18 first, since a state that nothing leads to is no text's
abbrev pub finish_rules : State → List Rule
finish_rules st = rule 18 (not (is_reachable st)) ∷ joined_rules st.count (accepting (control_of st))

abbrev pub finished : State → ℕ
finished st = lowest (finish_rules st)
