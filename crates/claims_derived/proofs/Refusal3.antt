-- Refusal 3 over the derivation.
use mathlib.Core.Path.{◌≡◌, refl, ap, subst, ◌∙◌}
use mathlib.Core.Bool.{Bool, true, false, ◌||◌}
use mathlib.Core.List.{List}
use Prim.Native.Nat.{ℕ, zero, suc, ◌+◌}
use native.Mathlib.Omega.{arith}
use lib.ListN.{length}
use borrow.Author.Tests.{ne_eqb}
use Rattle.limits.specs.Limits.{nesting}
use Rattle.json_blocks.specs.TextBytes.{byte}
use Rattle.json_blocks.specs.Lists.{any}
use Rattle.json_grammar.specs.Grammar as G
use Rattle.json_grammar.specs.Grammar.{an_object, an_array, Value, Text}
use Rattle.json_grammar.specs.Stands.{Stands}
use Rattle.json_grammar.proofs.Stands.{stands_head}
use Rattle.json_grammar.proofs.Numbers.{number_first}
use Rattle.json_grammar.proofs.Strings.{string_complete}
use Rattle.json_grammar.proofs.Groups.{group_first}
use Rattle.json_judge.specs.MemberNames.{decoded_name, repeated, bad_names, bad_members_at}
use Rattle.reader.specs.Reading.{bad_members}
use Rattle.claims_derived.specs.Derived.{Node, Here, node_at, entries_in, nodes_in, top}
use Rattle.claims_derived.specs.Rules.{bad_node}
use Rattle.claims_derived.proofs.Nodes.{both_map, both_any, object_both, array_both, top_stands, top_begins}

-- what holds of the nodes of depth d holds of a node whose depth is d
at_depth : (d : ℕ) (Q : ℕ → Node → Type 0) → ((i : ℕ) (x : List ℕ) (v : Value d x) → Q d (node_at d i x v)) → (n : Node) → n.depth ≡ d → Q d n
at_depth d Q f n e = subst (λ (k : ℕ). ((i : ℕ) (x : List ℕ) (v : Value k x) → Q k (node_at k i x v)) → Q k n) e (λ g. g n.at n.bytes n.value) f

or_same : (a b c e : Bool) → a ≡ c → b ≡ e → (a || b) ≡ (c || (e || false))
or_same a b c e p q = rw (p, q) (go c e) where
  go : (c e : Bool) → (c || e) ≡ (c || (e || false))
  go true e = refl
  go false true = refl
  go false false = refl

pub bad_derived : (d : ℕ) {s : List ℕ} (i : ℕ) (x : List ℕ) (v : Value d x) → Stands s i x (i + length x) → bad_members_at d s i ≡ bad_node d (node_at d i x v)
unfolding bad_members_at bad_node Value entries_in nodes_in any bad_names repeated
bad_derived zero i x v q = refl
bad_derived (suc d) {s} i x (an_object g) q =
    let b = object_both d g q in
    rw (group_first g q)
    (or_same _ _ _ _ (ap bad_names (both_map (decoded_name s) (λ e. e.name) (λ m e r. r.placed) b))
    (both_any (λ m. bad_members_at d s m.value) (λ e. bad_node d e.node) (λ m e r. rw r.value
    (at_depth d (λ k n. Here s n → bad_members_at k s n.at ≡ bad_node k n) (λ j y w h. bad_derived d j y w h) e.node (omega (arith, r.depth)) r.stands)) b))
bad_derived (suc d) {s} i x (an_array g) q =
    rw (group_first g q)
    (both_any (λ m. bad_members_at d s m.at) (bad_node d) (λ m n r. rw r.value
    (at_depth d (λ k n. Here s n → bad_members_at k s n.at ≡ bad_node k n) (λ j y w h. bad_derived d j y w h) n (omega (arith, r.depth)) r.stands)) (array_both d g q))
bad_derived (suc d) {s} i x (G.a_number p) q =
    let h = number_first p q in
    rw (ne_eqb (byte s i) 0x5B (λ z. omega arith), ne_eqb (byte s i) 0x7B (λ z. omega arith))
bad_derived (suc d) {s} i x (G.a_string p) q = rw (string_complete p q).0
bad_derived (suc d) {s} i x G.a_true q = rw (stands_head s q)
bad_derived (suc d) {s} i x G.a_false q = rw (stands_head s q)
bad_derived (suc d) {s} i x G.a_null q = rw (stands_head s q)

top_bad : (d : ℕ) {s : List ℕ} (t : Text d s) → bad_members_at d s (top t).at ≡ bad_node d (top t)
top_bad d (G.text v a p b) = bad_derived d _ v p (top_stands (G.text v a p b))

-- the whole text
pub bad_same : {s : List ℕ} (t : Text nesting s) → bad_members s ≡ bad_node nesting (top t)
bad_same {s} t = ap (bad_members_at nesting s) (top_begins t) ∙ top_bad nesting t
