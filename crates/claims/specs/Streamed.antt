-- Request P6's claim: a JSON text judged as it arrives. Chunks are the request's blocks. s is a text, st a state, and `Text nesting s` derives s by the
-- grammar of ECMA-404, nested at most 32 deep. `Lost` and `Reached` stand in crates/json_automaton/specs/Lost.antt.
use Rattle.std.specs.Prelude.{◌≡◌, ◌↔◌, true, false, List, [], ◌∷◌, ◌++◌, ℕ, ◌≤◌, length}
use Rattle.limits.specs.Limits.{nesting, dataset, bad_text}
use Rattle.refusals.specs.Refusals.{lowest}
use Rattle.json_grammar.specs.Grammar.{Text}
use Rattle.json_judge.specs.Judged.{judge_rules}
use Rattle.json_automaton.specs.declared.State.{State}
use Rattle.json_automaton.specs.State.{fresh, joined}
use Rattle.json_automaton.specs.Lost.{Lost, Reached}
use Rattle.json_stream.specs.Stream.{fed_answer, finished}
use Rattle.reader.specs.Reading.{read_answer}

-- "a small state that starts fresh and goes from block to block": each call gets the state that the call before answered
unfoldable pub handed_on : State → List (List ℕ) → State
handed_on st [] = st
handed_on st (chunk ∷ chunks) = handed_on (fed_answer st chunk).state chunks

abbrev pub after_chunks : List (List ℕ) → State
after_chunks = handed_on fresh

-- ---- of a text in chunks
-- "it reports "lost" exactly when the text so far is already too long or no continuation, however long, meets the JSON rules, and "open"
-- otherwise": the number n reported of the text so far
pub record ReportedBy (s : List ℕ) (n : ℕ) : Type 0 where
  pub is_lost : (n ≡ 1) ↔ Lost s
  pub is_open : (n ≡ 0) ↔ (Lost s → ⊥)

-- "After the last block the answer is 1, 2 or passed, the same as judging the joined text by the length and JSON rules alone": the answer n
pub record AnsweredBy (s : List ℕ) (n : ℕ) : Type 0 where
  -- 1 without D: "metadata empty or too long"
  pub one : (n ≡ 1) ↔ (bad_text (length s) ≡ true)
  -- 2: "not one JSON value in valid UTF-8, or nested beyond 32": the grammar derives no text
  pub two : (n ≡ 2) ↔ ((bad_text (length s) ≡ false) × (Text nesting s → ⊥))
  pub passed : (n ≡ 0) ↔ ((bad_text (length s) ≡ false) × Text nesting s)

-- the answer n beside those of the judge of a whole text, and of the full read with a dataset of any length that may be
pub record ReadAlike (s : List ℕ) (n : ℕ) : Type 0 where
  -- what passed is refused neither for its length nor as no JSON; "Names used twice wait for the full read"
  pub judged : n ≡ 0 → lowest (judge_rules s) ≡ 2 → ⊥
  pub passed : n ≡ 0 → (d : ℕ) → d ≤ dataset → (caps notes : List ℕ)
      → ((read_answer s d caps notes).refusal ≡ 1 → ⊥) × ((read_answer s d caps notes).refusal ≡ 2 → ⊥)
  -- what did not is refused with the same number
  pub refused : (n ≡ 0 → ⊥) → (d : ℕ) → d ≤ dataset → (caps notes : List ℕ) → (read_answer s d caps notes).refusal ≡ n

pub record OfChunks (chunks : List (List ℕ)) : Type 0 where
  -- one chunk more, "blocks of no bytes allowed": it is not refused, and the report is of all bytes so far
  pub accepted : (chunk : List ℕ) → (fed_answer (after_chunks chunks) chunk).refusal ≡ 0
  pub report : (chunk : List ℕ) → ReportedBy (joined chunks ++ chunk) (fed_answer (after_chunks chunks) chunk).lost
  -- no chunk more
  pub answer : AnsweredBy (joined chunks) (finished (after_chunks chunks))
  pub read : ReadAlike (joined chunks) (finished (after_chunks chunks))
  -- "however it was divided": chunks that join to the same text leave the same state, so that no later call tells them apart
  pub divided : (others : List (List ℕ)) → joined others ≡ joined chunks → after_chunks others ≡ after_chunks chunks

-- ---- of a state
-- "A state handed back in gives 18 exactly when no blocks lead to it": blocks of bytes, by the calls themselves
pub record OfState (st : State) : Type 0 where
  pub fed : (chunk : List ℕ) → ((fed_answer st chunk).refusal ≡ 18) ↔ (Reached after_chunks st → ⊥)
  pub finish : (finished st ≡ 18) ↔ (Reached after_chunks st → ⊥)
  -- a refused state is itself refused
  pub again : (chunk next : List ℕ) → (fed_answer st chunk).refusal ≡ 18 → (fed_answer (fed_answer st chunk).state next).refusal ≡ 18

-- ---- the claim
pub record StreamedTexts : Type 0 where
  pub chunks : (chunks : List (List ℕ)) → OfChunks chunks
  pub states : (st : State) → OfState st
