-- The members and elements found in a text, one by one beside those of its derivation.
use mathlib.Core.Path.{◌≡◌, refl, sym, ap, subst, ◌∙◌}
use mathlib.Core.Bool.{Bool, true, false, false≢true}
use mathlib.Core.List.{List, [], ◌∷◌, ◌++◌, map}
use Prim.Native.Nat.{ℕ, zero, suc, ◌+◌, ◌-◌}
use native.Mathlib.Omega.{arith}
use lib.ListN.{length, drop, take, length-append}
use Rattle.json_blocks.specs.TextBytes.{skip_blanks}
use Rattle.json_blocks.specs.Lists.{any}
use Rattle.json_grammar.specs.Grammar as G
use Rattle.json_grammar.specs.Grammar.{Items, last, more, Group, empty, full, Member, member, string, AnyValue, an_object, an_array, Array, Object, Value, Text}
use Rattle.json_grammar.specs.Stands.{Stands}
use Rattle.json_grammar.proofs.Stands.{stands_head, stands_tail, stands_left, stands_right}
use Rattle.json_grammar.proofs.Derived.{stands_all}
use Rattle.json_grammar.proofs.Skips.{blanks_complete}
use Rattle.json_grammar.proofs.Groups.{solid_above}
use Rattle.json_grammar.proofs.Values.{value_first}
use Rattle.json_strings.specs.Decode.{decoded_from}
use Rattle.json_strings.proofs.Theorem.{decoded_local, stands_part}
use Rattle.json_walk.specs.declared.Member.{Member as Span}
use Rattle.json_walk.specs.declared.Element.{Element}
use Rattle.json_walk.specs.Members.{members_at, elements_at}
use Rattle.sigmf_values.specs.declared.FieldType.TheVariants as T
use Rattle.sigmf_values.specs.Values.{part_of}
use Rattle.claims_derived.specs.Derived.{items_from, group_from, Node, Here, Entry, node_at, entry_from, entries_in, nodes_in, kind_of, kind_in, kind, node_members, node_elements, top}
use Rattle.claims_derived.specs.Rules.{is_a, is_object}
use Rattle.claims_derived.proofs.ValueKinds.{meant_decoded}
use Rattle.claims_derived.proofs.Places.{span_of, element_of, members_placed, elements_placed}

-- ---- two lists, item beside item
pub data Both {A B : Type 0} (R : A → B → Type 0) : List A → List B → Type 0 where
  nothing : Both R [] []
  next : {a : A} {b : B} {k : List A} {l : List B} → R a b → Both R k l → Both R (a ∷ k) (b ∷ l)

module _ {A B : Type 0} {R : A → B → Type 0} where
  pub both_map : {C : Type 0} (f : A → C) (g : B → C) → ((a : A) (b : B) → R a b → f a ≡ g b) → {k : List A} {l : List B} → Both R k l → map f k ≡ map g l
  both_map f g h nothing = refl
  both_map f g h (next r rs) = rw (h _ _ r, both_map f g h rs)

  pub both_any : (f : A → Bool) (g : B → Bool) → ((a : A) (b : B) → R a b → f a ≡ g b) → {k : List A} {l : List B} → Both R k l → any f k ≡ any g l
  unfolding any
  both_any f g h nothing = refl
  both_any f g h (next r rs) = rw (h _ _ r, both_any f g h rs)

-- ---- items beside items
module _ {s : List ℕ} {Item : List ℕ → Type 0} {A B : Type 0} (R : A → B → Type 0) (f : ℕ → (x : List ℕ) → Item x → A) (g : ℕ → (x : List ℕ) → Item x → B)
    (one : (x : List ℕ) (i j : ℕ) (p : Item x) → Stands s i x j → R (f i x p) (g i x p)) where
  items_both : {xs : List ℕ} {i j : ℕ} (p : Items Item xs) → Stands s i xs j → Both R (items_from f i p) (items_from g i p)
  unfolding items_from
  items_both {i} (last {x} {w} p a) q = next (one x i _ p (stands_left s x w q)) nothing
  items_both {i} (more {x} {w} {u} {xs} p a b r) q =
      let t = stands_tail s (stands_right s w (0x2C ∷ (u ++ xs)) (stands_right s x (w ++ (0x2C ∷ (u ++ xs))) q)) in
      next (one x i _ p (stands_left s x (w ++ (0x2C ∷ (u ++ xs))) q)) (items_both r (stands_right s u xs t))

  pub group_both : {x : List ℕ} {b c i j : ℕ} (p : Group Item b c x) → Stands s i x j → Both R (group_from f i p) (group_from g i p)
  unfolding group_from
  group_both (empty a) q = nothing
  group_both {c} (full {w} {xs} a r) q = items_both r (stands_left s xs (c ∷ []) (stands_right s w (xs ++ (c ∷ [])) (stands_tail s q)))

-- ---- a node that stands in a text
here : {s x : List ℕ} {i j : ℕ} → Stands s i x j → Stands s i x (i + length x)
here {s} {x} {i} q = subst (λ (k : ℕ). Stands s i x k) q.end q

-- a member found, and one derived at depth d
pub record SameMember (s : List ℕ) (d : ℕ) (m : Span) (e : Entry) : Type 0 where
  pub value : m.value ≡ e.node.at
  pub part : part_of s m.value m.end ≡ e.node.bytes
  pub name : decoded_from (part_of s m.name m.quote) 0 ≡ e.name
  pub placed : decoded_from s m.name ≡ e.name
  pub depth : suc e.node.depth ≡ d
  pub stands : Here s e.node

pub record SameElement (s : List ℕ) (d : ℕ) (m : Element) (n : Node) : Type 0 where
  pub value : m.at ≡ n.at
  pub part : part_of s m.at m.end ≡ n.bytes
  pub depth : suc n.depth ≡ d
  pub stands : Here s n

module _ (d : ℕ) {s : List ℕ} where
  member_same : (x : List ℕ) (i j : ℕ) (p : Member (Value d) x) → Stands s i x j → SameMember s (suc d) (span_of i x p) (entry_from d i x p)
  member_same x i j (member {w} {u} {v} (string {cs} n) a b p) q =
      let m : List ℕ = 0x22 ∷ (cs ++ (0x22 ∷ [])) in
      let t = stands_tail s (stands_left s m (w ++ (0x3A ∷ (u ++ v))) q) in
      let o = stands_left s cs (0x22 ∷ []) t in
      let z = stands_right s u v (stands_tail s (stands_right s w (0x3A ∷ (u ++ v)) (stands_right s m (w ++ (0x3A ∷ (u ++ v))) q))) in
      let l : i + 1 + length cs ≡ i + length m - 1 = omega (arith, length-append cs (0x22 ∷ [])) in
      let k = subst (λ (k : ℕ). Stands s (i + 1) cs k) l o in
      record {
        value = refl;
        part = stands_part (here z);
        name = ap (λ (c : List ℕ). decoded_from c 0) (stands_part k) ∙ meant_decoded n;
        placed = decoded_local n o (stands_head s (stands_right s cs (0x22 ∷ []) t)) ∙ meant_decoded n;
        depth = refl;
        stands = here z;
      }

  element_same : (x : List ℕ) (i j : ℕ) (p : Value d x) → Stands s i x j → SameElement s (suc d) (element_of d i x p) (node_at d i x p)
  element_same x i j p q = record { value = refl; part = stands_part (here q); depth = refl; stands = here q }

  pub object_both : {x : List ℕ} {i j : ℕ} (g : Object (Value d) x) → Stands s i x j → Both (SameMember s (suc d)) (members_at s i) (group_from (entry_from d) i g)
  object_both {i} g q =
      subst (λ (l : List Span). Both (SameMember s (suc d)) l (group_from (entry_from d) i g)) (sym (members_placed d g q))
      (group_both (SameMember s (suc d)) span_of (entry_from d) member_same g q)

  pub array_both : {x : List ℕ} {i j : ℕ} (g : Array (Value d) x) → Stands s i x j → Both (SameElement s (suc d)) (elements_at s i) (group_from (node_at d) i g)
  array_both {i} g q =
      subst (λ (l : List Element). Both (SameElement s (suc d)) l (group_from (node_at d) i g)) (sym (elements_placed d g q))
      (group_both (SameElement s (suc d)) (element_of d) (node_at d) element_same g q)

-- a value that nests nothing is neither object nor array
none_nested : {x : List ℕ} (v : AnyValue (λ x. ⊥) (λ x. ⊥) x) → (is_a T.Object (kind_of v) ≡ true → ⊥) × (is_a T.Array (kind_of v) ≡ true → ⊥)
unfolding is_a
none_nested (an_object g) = absurd g
none_nested (an_array g) = absurd g
none_nested (G.a_number p) = (λ e. false≢true e, λ e. false≢true e)
none_nested (G.a_string p) = (λ e. false≢true e, λ e. false≢true e)
none_nested G.a_true = (λ e. false≢true e, λ e. false≢true e)
none_nested G.a_false = (λ e. false≢true e, λ e. false≢true e)
none_nested G.a_null = (λ e. false≢true e, λ e. false≢true e)

module _ {s : List ℕ} where
  members_both : (d i : ℕ) (x : List ℕ) (v : Value d x) → Stands s i x (i + length x) → is_a T.Object (kind_in d x v) ≡ true
      → Both (SameMember s d) (members_at s i) (entries_in d i x v)
  unfolding Value kind_in is_a entries_in
  members_both zero i x v q e = absurd ((none_nested v).0 e)
  members_both (suc d) i x (an_object g) q e = object_both d g q
  members_both (suc d) i x (an_array g) q e = absurd (false≢true e)
  members_both (suc d) i x (G.a_number p) q e = absurd (false≢true e)
  members_both (suc d) i x (G.a_string p) q e = absurd (false≢true e)
  members_both (suc d) i x G.a_true q e = absurd (false≢true e)
  members_both (suc d) i x G.a_false q e = absurd (false≢true e)
  members_both (suc d) i x G.a_null q e = absurd (false≢true e)

  elements_both : (d i : ℕ) (x : List ℕ) (v : Value d x) → Stands s i x (i + length x) → is_a T.Array (kind_in d x v) ≡ true
      → Both (SameElement s d) (elements_at s i) (nodes_in d i x v)
  unfolding Value kind_in is_a nodes_in
  elements_both zero i x v q e = absurd ((none_nested v).1 e)
  elements_both (suc d) i x (an_object g) q e = absurd (false≢true e)
  elements_both (suc d) i x (an_array g) q e = array_both d g q
  elements_both (suc d) i x (G.a_number p) q e = absurd (false≢true e)
  elements_both (suc d) i x (G.a_string p) q e = absurd (false≢true e)
  elements_both (suc d) i x G.a_true q e = absurd (false≢true e)
  elements_both (suc d) i x G.a_false q e = absurd (false≢true e)
  elements_both (suc d) i x G.a_null q e = absurd (false≢true e)

  -- the members found where an object stands are its derivation's, at their places
  pub members_derived : (n : Node) → Here s n → is_object n ≡ true → Both (SameMember s n.depth) (members_at s n.at) (node_members n)
  members_derived n q e = members_both n.depth n.at n.bytes n.value q e

  pub elements_derived : (n : Node) → Here s n → is_a T.Array (kind n) ≡ true → Both (SameElement s n.depth) (elements_at s n.at) (node_elements n)
  elements_derived n q e = elements_both n.depth n.at n.bytes n.value q e

-- ---- the value that is the text
pub top_stands : {d : ℕ} {s : List ℕ} (t : Text d s) → Here s (top t)
top_stands {d} (G.text {w} {u} v a p b) =
    let s : List ℕ = w ++ (v ++ u) in
    subst (λ (k : ℕ). Stands s k v (k + length v)) (omega arith) (stands_left s v u (stands_right s w (v ++ u) (stands_all s)))

pub top_begins : {d : ℕ} {s : List ℕ} (t : Text d s) → skip_blanks s 0 ≡ (top t).at
top_begins {d} (G.text {w} {u} v a p b) =
    let s : List ℕ = w ++ (v ++ u) in
    let r = stands_left s v u (stands_right s w (v ++ u) (stands_all s)) in
    blanks_complete a (stands_left s w (v ++ u) (stands_all s)) (solid_above _ (value_first d p r).solid) ∙ omega arith
