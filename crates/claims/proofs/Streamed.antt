-- Request P6's claim holds of the answers.
use Prim.Native.Nat.{ℕ, ◌≤◌}
use mathlib.Core.Path.{◌≡◌, refl, sym, ap, subst, ◌∙◌}
use mathlib.Core.Logic.{◌↔◌}
use mathlib.Core.Bool.{Bool, true, false, cond, not, ◌||◌, false≢true}
use mathlib.Core.List.{List, [], ◌∷◌, ◌++◌, append-nil, append_assoc}
use native.Mathlib.Omega.{arith}
use lib.ListN.{length}
use lib.Dec.{ltb, eqb}
use borrow.Author.Tests.{le-ltb}
use Rattle.limits.specs.Limits.{nesting, dataset, bad_text}
use Rattle.refusals.specs.Refusals.{rule, lowest}
use Rattle.refusals.proofs.RuleLaws.{skip}
use Rattle.json_grammar.specs.Grammar.{Text}
use Rattle.json_grammar.specs.ByPlace.{is_json}
use Rattle.json_grammar.proofs.Theorem.{json_is_grammar}
use Rattle.json_automaton.specs.declared.State.{State}
use Rattle.json_automaton.specs.Control.{accepting}
use Rattle.json_automaton.specs.State.{control_of, fresh, fed, joined, is_lost, joined_rules}
use Rattle.json_automaton.specs.Reachable.{consistent, is_reachable}
use Rattle.json_automaton.specs.Lost.{Lost, Reached, reached}
use Rattle.json_automaton.proofs.Chunks.{fed_fed, fresh_fed, answered}
use Rattle.json_automaton.proofs.Theorem.{FeedsTo, lost_exactly, reach_fed, reachable_exactly}
use Rattle.json_stream.specs.declared.Fed.{Fed}
use Rattle.json_stream.specs.Stream.{fed_refused, lost_number, fed_reported, fed_answer, finished}
use Rattle.reader.specs.Reading.{bad_length, read_answer}
use Rattle.claims.specs.Demand2.{Numbered, all_rules}
use Rattle.claims.specs.Streamed.{handed_on, after_chunks, ReportedBy, AnsweredBy, ReadAlike, OfChunks, OfState, StreamedTexts}
use Rattle.claims.proofs.Demand1.{demand_1}
use Rattle.claims.proofs.Demand2.{demand_2}

-- ---- the calls on the way
fed_answer_lem : (s chunk : List ℕ) → fed_answer (fed fresh s) chunk ≡ fed_reported (fed fresh (s ++ chunk))
unfolding fed_answer
fed_answer_lem s chunk = rw (reach_fed s, fed_fed fresh s chunk)

handed : (s : List ℕ) (chunks : List (List ℕ)) → handed_on (fed fresh s) chunks ≡ fed fresh (s ++ joined chunks)
unfolding handed_on joined
handed s [] = rw (append-nil s)
handed s (chunk ∷ chunks) = rw (fed_answer_lem s chunk, ← append_assoc s chunk (joined chunks)) (handed (s ++ chunk) chunks)

state_is : (chunks : List (List ℕ)) → after_chunks chunks ≡ fed fresh (joined chunks)
state_is chunks = ap (λ (st : State). handed_on st chunks) (sym fresh_fed) ∙ handed [] chunks

-- ---- reports
reported_by : (s : List ℕ) → ReportedBy s (lost_number (is_lost (fed fresh s)))
reported_by s = go (is_lost (fed fresh s)) refl (lost_exactly s) where
  go : (b : Bool) → is_lost (fed fresh s) ≡ b → (is_lost (fed fresh s) ≡ true) ↔ Lost s → ReportedBy s (lost_number b)
  go true e l = record { is_lost = (λ _. l.0 e, λ _. refl); is_open = (λ z. absurd (omega (arith, z)), λ f. absurd (f (l.0 e))) }
  go false e l = record {
    is_lost = (λ z. absurd (omega (arith, z)), λ p. absurd (false≢true (sym e ∙ l.1 p)));
    is_open = (λ _ p. false≢true (sym e ∙ l.1 p), λ _. refl);
  }

-- ---- answers
finish_number : (s : List ℕ) → finished (fed fresh s) ≡ lowest (joined_rules (length s) (is_json s))
finish_number s = skip 18 (not (is_reachable (fed fresh s))) _ (rw (reach_fed s)) ∙ answered s

module _ (s : List ℕ) where
  derives : is_json s ≡ true → Text nesting s
  derives = (json_is_grammar s).0

  no_text : is_json s ≡ false → Text nesting s → ⊥
  no_text e t = false≢true (sym e ∙ (json_is_grammar s).1 t)

  answered_by : AnsweredBy s (lowest (joined_rules (length s) (is_json s)))
  unfolding lowest
  answered_by = go (bad_text (length s)) refl (is_json s) refl where
    go : (b : Bool) → bad_text (length s) ≡ b → (j : Bool) → is_json s ≡ j → AnsweredBy s (cond b 1 (cond (not j) 2 0))
    go true e j q = record {
      one = (λ _. e, λ _. refl);
      two = (λ z. absurd (omega (arith, z)), λ p. absurd (false≢true (sym p.0 ∙ e)));
      passed = (λ z. absurd (omega (arith, z)), λ p. absurd (false≢true (sym p.0 ∙ e)));
    }
    go false e true q = record {
      one = (λ z. absurd (omega (arith, z)), λ h. absurd (false≢true (sym e ∙ h)));
      two = (λ z. absurd (omega (arith, z)), λ p. absurd (p.1 (derives q)));
      passed = (λ _. (e, derives q), λ _. refl);
    }
    go false e false q = record {
      one = (λ z. absurd (omega (arith, z)), λ h. absurd (false≢true (sym e ∙ h)));
      two = (λ _. (e, no_text q), λ _. refl);
      passed = (λ z. absurd (omega (arith, z)), λ p. absurd (no_text q p.1));
    }

  -- ---- the full read
  -- with a dataset that may be, 1 is the text's alone
  same_length : (d : ℕ) → d ≤ dataset → bad_length s d ≡ bad_text (length s)
  unfolding bad_length
  same_length d h = rw (le-ltb dataset d h) (go (bad_text (length s))) where
    go : (b : Bool) → b || false ≡ b
    go true = refl
    go false = refl

  module _ (n : ℕ) (a : AnsweredBy s n) where
    read_passed : n ≡ 0 → (d : ℕ) → d ≤ dataset → (caps notes : List ℕ)
        → ((read_answer s d caps notes).refusal ≡ 1 → ⊥) × ((read_answer s d caps notes).refusal ≡ 2 → ⊥)
    read_passed e d h caps notes =
        let p = a.passed.0 e in
        let r = (demand_2 s d caps notes).read.number in
        (λ z. false≢true (sym p.0 ∙ sym (same_length d h) ∙ r.one.0 z), λ z. (r.two.0 z).1 p.1)

    read_refused : (n ≡ 0 → ⊥) → (d : ℕ) → d ≤ dataset → (caps notes : List ℕ) → (read_answer s d caps notes).refusal ≡ n
    read_refused f d h caps notes = go (bad_text (length s)) refl (is_json s) refl where
      r : Numbered s d (read_answer s d caps notes).refusal (λ t. all_rules t d caps notes)
      r = (demand_2 s d caps notes).read.number

      go : (b : Bool) → bad_text (length s) ≡ b → (j : Bool) → is_json s ≡ j → (read_answer s d caps notes).refusal ≡ n
      go true e j q = r.one.1 (same_length d h ∙ e) ∙ sym (a.one.1 e)
      go false e true q = absurd (f (a.passed.1 (e, derives q)))
      go false e false q = r.two.1 (same_length d h ∙ e, no_text q) ∙ sym (a.two.1 (e, no_text q))

    read_alike : ReadAlike s n
    read_alike = record {
      judged = λ e z. (demand_1.judge_text s).two.0 z (a.passed.0 e).1;
      passed = read_passed;
      refused = read_refused;
    }

of_chunks : (chunks : List (List ℕ)) → OfChunks chunks
of_chunks chunks =
    let s = joined chunks in
    let e = state_is chunks in
    let a : AnsweredBy s (finished (after_chunks chunks)) = rw (e, finish_number s) (answered_by s) in
    record {
      accepted = λ chunk. rw (e, fed_answer_lem s chunk) refl;
      report = λ chunk. rw (e, fed_answer_lem s chunk) (reported_by (s ++ chunk));
      answer = a;
      read = read_alike s (finished (after_chunks chunks)) a;
      divided = λ others h. state_is others ∙ rw (h, ← e);
    }

-- ---- states
-- by the calls, and by the text of all chunks
by_calls : (st : State) → FeedsTo st → Reached after_chunks st
by_calls st (reached chunks y e) = reached chunks y (state_is chunks ∙ e)

by_text : (st : State) → Reached after_chunks st → FeedsTo st
by_text st (reached chunks y e) = reached chunks y (sym (state_is chunks) ∙ e)

never_18 : (b j : Bool) → ◌≡◌ {A = ℕ} (cond b 1 (cond (not j) 2 0)) 18 → ⊥
never_18 true j z = omega (arith, z)
never_18 false true z = omega (arith, z)
never_18 false false z = omega (arith, z)

zeros_refused : (next : List ℕ) → (fed_answer (fed_refused 18).state next).refusal ≡ 18
unfolding fed_answer is_reachable consistent
zeros_refused next = refl

module _ (st : State) where
  -- n is 18 exactly if the test of the state fails
  exactly : (n : ℕ) → (is_reachable st ≡ true → n ≡ 18 → ⊥) → (is_reachable st ≡ false → n ≡ 18) → (n ≡ 18) ↔ (Reached after_chunks st → ⊥)
  exactly n f g = go (is_reachable st) refl where
    go : (b : Bool) → is_reachable st ≡ b → (n ≡ 18) ↔ (Reached after_chunks st → ⊥)
    go true e = (λ z. absurd (f e z), λ h. absurd (h (by_calls st ((reachable_exactly st).0 e))))
    go false e = (λ _ r. false≢true (sym e ∙ (reachable_exactly st).1 (by_text st r)), λ _. g e)

  fed_18 : (chunk : List ℕ) → ((fed_answer st chunk).refusal ≡ 18) ↔ (Reached after_chunks st → ⊥)
  unfolding fed_answer
  fed_18 chunk = exactly (fed_answer st chunk).refusal (λ e z. let y : 0 ≡ 18 = rw e at z in omega (arith, y)) (λ e. rw e)

  finish_18 : (finished st ≡ 18) ↔ (Reached after_chunks st → ⊥)
  unfolding lowest
  finish_18 = exactly (finished st) (λ e z. never_18 (bad_text st.count) (accepting (control_of st)) (rw e at z)) (λ e. rw e)

  again : (chunk next : List ℕ) → (fed_answer st chunk).refusal ≡ 18 → (fed_answer (fed_answer st chunk).state next).refusal ≡ 18
  unfolding fed_answer
  again chunk next z = go (is_reachable st) z where
    go : (b : Bool) → (cond b (fed_reported (fed st chunk)) (fed_refused 18)).refusal ≡ 18 → (fed_answer (cond b (fed_reported (fed st chunk)) (fed_refused 18)).state next).refusal ≡ 18
    go true z = absurd (omega (arith, z))
    go false z = zeros_refused next

  of_state : OfState st
  of_state = record { fed = fed_18; finish = finish_18; again = again }

pub streamed_texts : StreamedTexts
streamed_texts = record { chunks = of_chunks; states = of_state }
