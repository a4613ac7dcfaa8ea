-- Which states some chunks lead to, as a test: by the parts that go together, and the fewest bytes that lead there. Blanks before the text make any count
-- above. That it is passed exactly by the states that some chunks lead to is a theorem (`reachable_exactly`, proofs/Theorem.antt).
use Rattle.std.specs.Prelude.{Bool, false, cond, ◌&&◌, ◌||◌, List, [], ◌∷◌, ℕ, zero, suc, ◌+◌, ◌/◌, get_or, eqb, ltb, leb}
use Rattle.limits.specs.Limits.{metadata, nesting}
use Rattle.json_automaton.specs.declared.State.{State}
use Rattle.json_automaton.specs.Control.{full_stack, is_object_top}

-- the innermost open bracket is an object's
unfoldable pub in_object : ℕ → Bool
in_object o = leb 2 o && is_object_top o

-- the bytes that `{"":` has beyond its brace: in an object a value stands after a name
unfoldable pub extra : ℕ → ℕ
extra o = cond (in_object o) 3 0

-- the fewest bytes up to and with the innermost open bracket
unfoldable pub opened_in : ℕ → ℕ → ℕ
opened_in zero o = 0
opened_in (suc n) o = cond (ltb o 2) 0 (opened_in n (o / 2) + extra (o / 2) + 1)

abbrev pub opened : ℕ → ℕ
opened o = opened_in nesting o

-- the fewest bytes up to where a value may stand
abbrev pub ready : ℕ → ℕ
ready o = opened o + extra o

-- the fewest bytes of a token so far; the fewest of one that has ended are two
unfoldable pub costs : List ℕ
costs =
    2 ∷ (1 ∷ (2 ∷ (2 ∷ (2 ∷ (2 ∷ (2 ∷ (2 ∷ (2 ∷ (2 ∷ (6 ∷ (5 ∷ (4 ∷ (3 ∷ (4 ∷ (5 ∷ (6 ∷ (7 ∷ (8 ∷ (9 ∷ (10 ∷ (1 ∷ (1 ∷ (1 ∷ (2 ∷ (3 ∷ (2 ∷ (3 ∷ (3 ∷ (1 ∷ (2 ∷ (3 ∷ (1 ∷ (2 ∷ (3 ∷ (1 ∷ (2 ∷ (3 ∷ [])))))))))))))))))))))))))))))))))))))

unfoldable pub cost : ℕ → ℕ
cost t = get_or costs t 0

-- the fewest bytes, by place
unfoldable pub fewest : ℕ → ℕ → ℕ → ℕ
fewest p t o = get_or (0 ∷ (ready o ∷ (opened o ∷ ((ready o + 2) ∷ ((opened o + cost t) ∷ ((ready o + cost t) ∷ [])))))) p 0

-- by place: which tokens and brackets go with it
unfoldable pub consistent : ℕ → ℕ → ℕ → Bool
consistent p t o =
    leb 1 o && ltb o (full_stack + full_stack)
    && get_or (false ∷ ((eqb t 0 && (eqb o 1 || in_object o)) ∷ ((eqb t 0 && leb 2 o) ∷ ((eqb t 0 && leb 2 o) ∷ ((leb t 20 && in_object o) ∷ (leb t 37 ∷ [])))))) p false

unfoldable pub is_reachable : State → Bool
is_reachable st =
    cond (eqb st.place 6)
    (eqb st.token 0 && eqb st.stack 0 && leb 1 st.count && leb st.count (metadata + 1))
    (consistent st.place st.token st.stack && leb (fewest st.place st.token st.stack) st.count && leb st.count metadata)
