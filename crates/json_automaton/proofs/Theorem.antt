-- Which texts are lost, and which states some chunks lead to.
use mathlib.Core.Path.{◌≡◌, refl, sym, ap, subst, ◌∙◌}
use mathlib.Core.Bool.{Bool, true, false, ◌&&◌, ◌||◌}
use mathlib.Core.Logic.{◌↔◌}
use mathlib.Core.List.{List, [], ◌∷◌, ◌++◌, append-nil}
use Prim.Native.Nat.{ℕ, zero, suc, ◌≤◌, ◌<◌, ◌+◌}
use native.Mathlib.Omega.{arith}
use lib.ListN.{length}
use lib.Dec.{eqb, ltb, leb}
use borrow.Author.Tests.{ne_eqb, lt-ltb, le-leb, eqb-true, ltb-true, leb-true, leb-false}
use Rattle.limits.specs.Limits.{metadata, nesting}
use Rattle.json_blocks.specs.Lists.{all}
use Rattle.json_blocks.proofs.BlockLaws.{and_left, and_right}
use Rattle.json_grammar.specs.Grammar.{Text}
use Rattle.json_grammar.proofs.Theorem.{json_is_grammar}
use Rattle.json_automaton.specs.Token.{whole}
use Rattle.json_automaton.specs.declared.Control.{Control}
use Rattle.json_automaton.specs.declared.State.{State}
use Rattle.json_automaton.specs.Control.{control, lost, start, full_stack, is_object_top, run_moves, accepting}
use Rattle.json_automaton.specs.State.{state, fresh, too_long, fed, joined, is_lost}
use Rattle.json_automaton.specs.Reachable.{opened, ready, cost, fewest, in_object, consistent, is_reachable}
use Rattle.json_automaton.specs.Lost.{Lost, too_long_lem, hopeless, Reached, reached}
use Rattle.json_automaton.proofs.Accept.{run_lost}
use Rattle.json_automaton.proofs.Values.{accepts_json}
use Rattle.json_automaton.proofs.Chunks.{run_append, fed_within, fed_beyond}
use Rattle.json_automaton.proofs.Led.{Led, gone, at_value, at_first, at_next, at_colon, at_after, led, in_inside}
use Rattle.json_automaton.proofs.Lead.{Lead, lead, lead_more, opened_lead, value_lead, next_lead, colon_lead, after_lead, lost_lead}
use Rattle.json_automaton.proofs.Close.{from, Completed, is_lost_lem, completed, complete}

-- some chunks lead to the state
abbrev pub FeedsTo : State → Type 0
FeedsTo = Reached (λ chunks. fed fresh (joined chunks))

-- ---- lost
lost_stays : (s t : List ℕ) → run_moves start s ≡ lost → Text nesting (s ++ t) → ⊥
unfolding accepting whole
lost_stays s t e p =
    let r : run_moves start (s ++ t) ≡ lost = run_append start s t ∙ ap (λ (c : Control). run_moves c t) e ∙ run_lost t in
    let a : accepting (run_moves start (s ++ t)) ≡ true = accepts_json (s ++ t) ∙ (json_is_grammar (s ++ t)).1 p in
    let b : false ≡ true = rw r at a in
    let z : ◌≡◌ {A = ℕ} 0 1 = cc in
    omega arith

whole_text : (s t : List ℕ) → run_moves (run_moves start s) t ≡ control 5 0 1 → Text nesting (s ++ t)
unfolding accepting whole
whole_text s t e =
    (json_is_grammar (s ++ t)).0 (sym (accepts_json (s ++ t)) ∙ ap accepting (run_append start s t ∙ e))

lost_sound : (s : List ℕ) → is_lost (fed fresh s) ≡ true → Lost s
lost_sound s h = go (leb (length s) metadata) refl where
  within : length s ≤ metadata → Completed (run_moves start s) → Lost s
  within l (is_lost_lem e) = hopeless (λ rest p. lost_stays s rest e p)
  within l (completed q f) =
      let a : eqb (run_moves start s).place 6 ≡ true = rw (fed_within fresh s (omega arith)) at h in
      let b : true ≡ false = sym a ∙ q in
      let z : ◌≡◌ {A = ℕ} 0 1 = cc in
      absurd (omega arith)

  go : (t : Bool) → leb (length s) metadata ≡ t → Lost s
  go true e = within (leb-true _ _ e) (complete (led s))
  go false e = too_long_lem (leb-false _ _ e)

lost_complete : (s : List ℕ) → Lost s → is_lost (fed fresh s) ≡ true
lost_complete s p = go (leb (length s) metadata) refl p where
  within : length s ≤ metadata → Completed (run_moves start s) → ((rest : List ℕ) → Text nesting (s ++ rest) → ⊥) → is_lost (fed fresh s) ≡ true
  within l (is_lost_lem e) f = rw (fed_within fresh s (omega arith), e)
  within l (completed q (from t e b)) f = absurd (f t (whole_text s t e))

  go : (t : Bool) → leb (length s) metadata ≡ t → Lost s → is_lost (fed fresh s) ≡ true
  go true e (too_long_lem h) = let l : length s ≤ metadata = leb-true _ _ e in absurd (omega arith)
  go true e (hopeless f) = within (leb-true _ _ e) (complete (led s)) f
  go false e p = let l : metadata < length s = leb-false _ _ e in rw (fed_beyond fresh s (omega arith))

-- "lost" exactly where the text so far is already too long or no continuation meets the JSON rules
pub lost_exactly : (s : List ℕ) → (is_lost (fed fresh s) ≡ true) ↔ Lost s
lost_exactly s = (lost_sound s, lost_complete s)

-- ---- reached
reach_of : (n : ℕ) (c : Control) → Led n c → n ≤ metadata → is_reachable (state c n) ≡ true
unfolding is_reachable consistent fewest
reach_of n c (gone h) l = rw (le-leb 1 n h, le-leb n (metadata + 1) (omega arith))
reach_of n c (at_value {o} i b e h) l = rw (le-leb 1 o i, lt-ltb o (full_stack + full_stack) b, e, le-leb (ready o) n h, le-leb n metadata l)
reach_of n c (at_first {o} i b h) l = rw (le-leb 1 o (omega arith), lt-ltb o (full_stack + full_stack) b, le-leb 2 o i, le-leb (opened o) n h, le-leb n metadata l)
reach_of n c (at_next {o} i b h) l = rw (le-leb 1 o (omega arith), lt-ltb o (full_stack + full_stack) b, le-leb 2 o i, le-leb (ready o + 2) n h, le-leb n metadata l)
reach_of n c (at_colon {t} {o} i b m h) l =
    rw (le-leb 1 o (omega (arith, (in_inside o i).0)), lt-ltb o (full_stack + full_stack) b, i, le-leb t 20 m, le-leb (opened o + cost t) n h, le-leb n metadata l)
reach_of n c (at_after {t} {o} i b m h) l = rw (le-leb 1 o i, lt-ltb o (full_stack + full_stack) b, le-leb t 37 m, le-leb (ready o + cost t) n h, le-leb n metadata l)

reach_long : is_reachable too_long ≡ true
unfolding is_reachable
reach_long = refl

pub reach_fed : (s : List ℕ) → is_reachable (fed fresh s) ≡ true
reach_fed s = go (leb (length s) metadata) refl where
  go : (t : Bool) → leb (length s) metadata ≡ t → is_reachable (fed fresh s) ≡ true
  go true e =
      let l : length s ≤ metadata = leb-true _ _ e in
      let z : 0 + length s ≡ length s = omega arith in
      rw (fed_within fresh s (omega arith), z) (reach_of (length s) (run_moves start s) (led s) l)
  go false e = let l : metadata < length s = leb-false _ _ e in rw (fed_beyond fresh s (omega arith)) reach_long

-- one chunk that leads to the control makes the state
one_chunk : {c : Control} {n : ℕ} → Lead c n → n ≤ metadata → FeedsTo (state c n)
unfolding joined all
one_chunk {c} {n} (lead s r z y) l =
    let k : 0 + length s ≡ n = omega (arith, z) in
    reached (s ∷ []) (rw y) (rw (append-nil s) (fed_within fresh s (omega arith) ∙ rw (r, k)))

one_long : {n : ℕ} → Lead lost n → metadata < n → FeedsTo too_long
unfolding joined all
one_long {n} (lead s r z y) l = reached (s ∷ []) (rw y) (rw (append-nil s) (fed_beyond fresh s (omega (arith, z))))

and_is : (t u : Bool) → (t && u) ≡ true → (t ≡ true) × (u ≡ true)
and_is t u e = (and_left t u e, and_right t u e)

odd_one : (o : ℕ) → (eqb o 1 || in_object o) ≡ true → is_object_top o ≡ true
odd_one o e = go (eqb o 1) refl e where
  go : (t : Bool) → eqb o 1 ≡ t → (t || in_object o) ≡ true → is_object_top o ≡ true
  go true q e = rw (eqb-true o 1 q)
  go false q e = (in_inside o e).1

-- what the test of a place tells, where g is the test of its token and brackets, and m the fewest bytes
record Facts (o n m : ℕ) (g : Bool) : Type 0 where
  some : 1 ≤ o
  bound : o < full_stack + full_stack
  good : g ≡ true
  fewest : m ≤ n
  most : n ≤ metadata

facts : (o n m : ℕ) (g : Bool) → (leb 1 o && ltb o (full_stack + full_stack) && g && leb m n && leb n metadata) ≡ true → Facts o n m g
facts o n m g e =
    let a = and_is (leb 1 o && ltb o (full_stack + full_stack) && g && leb m n) (leb n metadata) e in
    let b = and_is (leb 1 o && ltb o (full_stack + full_stack) && g) (leb m n) a.0 in
    let c = and_is (leb 1 o && ltb o (full_stack + full_stack)) g b.0 in
    let d = and_is (leb 1 o) (ltb o (full_stack + full_stack)) c.0 in
    record { some = leb-true _ _ d.0; bound = ltb-true _ _ d.1; good = c.1; fewest = leb-true _ _ b.1; most = leb-true _ _ a.1 }

no_place : (o n m : ℕ) {A : Type 0} → (leb 1 o && ltb o (full_stack + full_stack) && false && leb m n && leb n metadata) ≡ true → A
no_place o n m e = let b : false ≡ true = (facts o n m false e).good in let z : ◌≡◌ {A = ℕ} 0 1 = cc in absurd (omega arith)

module _ (t o n : ℕ) where
  value_reached : Facts o n (ready o) (eqb t 0 && (eqb o 1 || in_object o)) → FeedsTo (record { place = 1; token = t; stack = o; count = n })
  value_reached f =
      let a = and_is (eqb t 0) (eqb o 1 || in_object o) f.good in
      subst (λ (x : ℕ). FeedsTo (record { place = 1; token = x; stack = o; count = n })) (sym (eqb-true t 0 a.0))
      (one_chunk (lead_more n (value_lead o f.some f.bound (odd_one o a.1)) f.fewest) f.most)

  first_reached : Facts o n (opened o) (eqb t 0 && leb 2 o) → FeedsTo (record { place = 2; token = t; stack = o; count = n })
  first_reached f =
      let a = and_is (eqb t 0) (leb 2 o) f.good in
      subst (λ (x : ℕ). FeedsTo (record { place = 2; token = x; stack = o; count = n })) (sym (eqb-true t 0 a.0))
      (one_chunk (lead_more n (opened_lead o f.some f.bound (leb-true _ _ a.1)) f.fewest) f.most)

  next_reached : Facts o n (ready o + 2) (eqb t 0 && leb 2 o) → FeedsTo (record { place = 3; token = t; stack = o; count = n })
  next_reached f =
      let a = and_is (eqb t 0) (leb 2 o) f.good in
      subst (λ (x : ℕ). FeedsTo (record { place = 3; token = x; stack = o; count = n })) (sym (eqb-true t 0 a.0))
      (one_chunk (lead_more n (next_lead o f.some f.bound (leb-true _ _ a.1)) f.fewest) f.most)

  colon_reached : Facts o n (opened o + cost t) (leb t 20 && in_object o) → FeedsTo (record { place = 4; token = t; stack = o; count = n })
  colon_reached f =
      let a = and_is (leb t 20) (in_object o) f.good in
      let b = in_inside o a.1 in
      one_chunk (lead_more n (colon_lead o f.some f.bound t b.0 b.1 (leb-true _ _ a.0)) f.fewest) f.most

  after_reached : Facts o n (ready o + cost t) (leb t 37) → FeedsTo (record { place = 5; token = t; stack = o; count = n })
  after_reached f = one_chunk (lead_more n (after_lead o f.some f.bound t (leb-true _ _ f.good)) f.fewest) f.most

  lost_reached : (eqb t 0 && eqb o 0 && leb 1 n && leb n (metadata + 1)) ≡ true → FeedsTo (record { place = 6; token = t; stack = o; count = n })
  lost_reached e =
      let a = and_is (eqb t 0 && eqb o 0 && leb 1 n) (leb n (metadata + 1)) e in
      let b = and_is (eqb t 0 && eqb o 0) (leb 1 n) a.0 in
      let c = and_is (eqb t 0) (eqb o 0) b.0 in
      rw (eqb-true t 0 c.0, eqb-true o 0 c.1) (go (leb n metadata) refl (leb-true 1 n b.1) (leb-true n (metadata + 1) a.1))
    where
      go : (x : Bool) → leb n metadata ≡ x → 1 ≤ n → n ≤ metadata + 1 → FeedsTo (record { place = 6; token = 0; stack = 0; count = n })
      go true q h l = one_chunk (lost_lead n h) (leb-true _ _ q)
      go false q h l =
          let m : metadata < n = leb-false _ _ q in
          let k : metadata + 1 ≡ n = omega arith in
          subst (λ (x : ℕ). FeedsTo (record { place = 6; token = 0; stack = 0; count = x })) k (one_long (lost_lead n h) m)

reached_of : (p t o n : ℕ) → is_reachable (record { place = p; token = t; stack = o; count = n }) ≡ true → FeedsTo (record { place = p; token = t; stack = o; count = n })
unfolding is_reachable consistent fewest
reached_of zero t o n e = no_place o n 0 e
reached_of (suc zero) t o n e = value_reached t o n (facts o n (ready o) _ e)
reached_of (suc (suc zero)) t o n e = first_reached t o n (facts o n (opened o) _ e)
reached_of (suc (suc (suc zero))) t o n e = next_reached t o n (facts o n (ready o + 2) _ e)
reached_of (suc (suc (suc (suc zero)))) t o n e = colon_reached t o n (facts o n (opened o + cost t) _ e)
reached_of (suc (suc (suc (suc (suc zero))))) t o n e = after_reached t o n (facts o n (ready o + cost t) _ e)
reached_of (suc (suc (suc (suc (suc (suc zero)))))) t o n e = lost_reached t o n e
reached_of (suc (suc (suc (suc (suc (suc (suc p))))))) t o n e =
    let q : eqb (suc (suc (suc (suc (suc (suc (suc p))))))) 6 ≡ false = ne_eqb (suc (suc (suc (suc (suc (suc (suc p))))))) 6 (omega arith) in
    no_place o n 0 (rw q at e)

-- "A state handed back in gives 18 exactly when no blocks lead to it"
pub reachable_exactly : (st : State) → (is_reachable st ≡ true) ↔ FeedsTo st
reachable_exactly st = (reached_of st.place st.token st.stack st.count, back)
  where
    back : FeedsTo st → is_reachable st ≡ true
    back (reached chunks y e) = rw (← e) (reach_fed (joined chunks))
