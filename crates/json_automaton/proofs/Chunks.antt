-- A text in chunks, and its length.
use mathlib.Core.Path.{◌≡◌, refl}
use mathlib.Core.Bool.{Bool, true, false}
use mathlib.Core.List.{List, [], ◌∷◌, ◌++◌}
use Prim.Native.Nat.{ℕ, ◌≤◌, ◌<◌, ◌+◌}
use native.Mathlib.Omega.{arith}
use lib.ListN.{length, length-append}
use lib.Dec.{leb}
use borrow.Author.Tests.{le-leb, lt-leb, lt-ltb, ne_eqb, leb-true, leb-false}
use Rattle.limits.specs.Limits.{metadata}
use Rattle.refusals.specs.Refusals.{lowest}
use Rattle.json_grammar.specs.ByPlace.{is_json}
use Rattle.json_automaton.specs.declared.Control.{Control}
use Rattle.json_automaton.specs.declared.State.{State}
use Rattle.json_automaton.specs.Control.{move, run_moves, accepting}
use Rattle.json_automaton.specs.State.{state, control_of, fresh, too_long, fed, joined_rules}
use Rattle.json_automaton.proofs.Values.{accepts_json}

pub run_append : (c : Control) (a b : List ℕ) → run_moves c (a ++ b) ≡ run_moves (run_moves c a) b
unfolding run_moves
run_append c [] b = refl
run_append c (x ∷ a) b = run_append (move c x) a b

module _ (st : State) (s : List ℕ) where
  pub fed_within : st.count + length s ≤ metadata → fed st s ≡ state (run_moves (control_of st) s) (st.count + length s)
  unfolding fed
  fed_within h = rw (le-leb _ _ h)

  pub fed_beyond : metadata < st.count + length s → fed st s ≡ too_long
  unfolding fed
  fed_beyond h = rw (lt-leb _ _ h)

-- two chunks, one after the other, are one
pub fed_fed : (st : State) (a b : List ℕ) → fed (fed st a) b ≡ fed st (a ++ b)
fed_fed st a b = go (leb (st.count + length a) metadata) refl (leb (st.count + length (a ++ b)) metadata) refl where
  l : length (a ++ b) ≡ length a + length b
  l = length-append a b

  go : (t : Bool) → leb (st.count + length a) metadata ≡ t → (u : Bool) → leb (st.count + length (a ++ b)) metadata ≡ u → fed (fed st a) b ≡ fed st (a ++ b)
  go true h true k =
      let x : st.count + length a ≤ metadata = leb-true _ _ h in
      let y : st.count + length (a ++ b) ≤ metadata = leb-true _ _ k in
      let z : st.count + length a + length b ≡ st.count + length (a ++ b) = omega (arith, l) in
      rw (fed_within st a x, fed_within (state (run_moves (control_of st) a) (st.count + length a)) b (omega (arith, l)), fed_within st (a ++ b) y, run_append (control_of st) a b, ← z)
  go true h false k =
      let x : st.count + length a ≤ metadata = leb-true _ _ h in
      let y : metadata < st.count + length (a ++ b) = leb-false _ _ k in
      rw (fed_within st a x, fed_beyond (state (run_moves (control_of st) a) (st.count + length a)) b (omega (arith, l)), fed_beyond st (a ++ b) y)
  go false h u k =
      let x : metadata < st.count + length a = leb-false _ _ h in
      rw (fed_beyond st a x, fed_beyond too_long b (omega arith), fed_beyond st (a ++ b) (omega (arith, l)))

pub fresh_fed : fed fresh [] ≡ fresh
unfolding fed run_moves
fresh_fed = refl

-- the answer for a text is that of its length and of the reading by place
pub answered : (s : List ℕ) → lowest (joined_rules (fed fresh s).count (accepting (control_of (fed fresh s)))) ≡ lowest (joined_rules (length s) (is_json s))
unfolding lowest
answered s = go (leb (length s) metadata) refl where
  go : (t : Bool) → leb (length s) metadata ≡ t → lowest (joined_rules (fed fresh s).count (accepting (control_of (fed fresh s)))) ≡ lowest (joined_rules (length s) (is_json s))
  go true h =
      let x : length s ≤ metadata = leb-true _ _ h in
      let z : 0 + length s ≡ length s = omega arith in
      rw (fed_within fresh s (omega arith), z, accepts_json s)
  go false h =
      let x : metadata < length s = leb-false _ _ h in
      rw (fed_beyond fresh s (omega arith), ne_eqb (length s) 0 (omega arith), lt-ltb metadata (length s) x)
