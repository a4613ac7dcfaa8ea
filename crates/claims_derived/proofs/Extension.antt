-- An extension entry is judged on its own bytes as its derivation says, wherever it stands.
use mathlib.Core.Path.{◌≡◌, refl, ap, subst, ◌∙◌}
use mathlib.Core.Bool.{Bool, true, false, cond}
use mathlib.Core.List.{List, [], ◌∷◌, map}
use mathlib.Core.Option.{Option, none, some}
use Prim.Native.Nat.{ℕ, zero, suc, ◌+◌}
use native.Mathlib.Omega.{arith}
use lib.ListN.{length}
use Rattle.json_blocks.specs.Lists.{any}
use Rattle.json_grammar.specs.Grammar as G
use Rattle.json_grammar.specs.Grammar.{Items, last, more, empty, full, Member, member, an_object, an_array, Object, Value}
use Rattle.json_grammar.specs.Stands.{Stands}
use Rattle.json_grammar.proofs.Derived.{stands_all}
use Rattle.json_walk.specs.declared.Member.{Member as Span}
use Rattle.json_walk.specs.Members.{members_at}
use Rattle.sigmf_values.specs.declared.FieldType.TheVariants as T
use Rattle.sigmf_extensions.specs.declared.Tally.{Tally}
use Rattle.sigmf_extensions.specs.declared.Extension.TheVariants as E
use Rattle.sigmf_values.specs.Values.{part_of, has_type}
use Rattle.sigmf_extensions.specs.Extensions as X
use Rattle.sigmf_extensions.specs.Extensions.{no_members, judged, extension_of}
use Rattle.json_names.specs.Same.{same}
use Rattle.sigmf_texts.specs.Lookup.{index_in}
use Rattle.sigmf_names.specs.Names.{global_fields}
use Rattle.sigmf_objects.specs.Global as OG
use Rattle.claims_derived.specs.Derived.{items_from, group_from, Node, Here, Entry, node_at, entry_from, entries_in, node_members, node_elements}
use Rattle.claims_derived.specs.Rules as D
use Rattle.claims_derived.specs.Rules.{given, value, is_object, entry_by, extension, mistyped}
use Rattle.claims_derived.proofs.ValueKinds.{type_derived, true_derived}
use Rattle.claims_derived.proofs.Nodes.{both_map, SameMember, members_derived, elements_derived}
use Rattle.claims_derived.proofs.Plainly.{class_of, tallied, entry_plain}
use Rattle.claims_derived.proofs.Shape.{field, as_value, Found}
use Rattle.claims_derived.proofs.FieldRules.{Typed, value_is, array_extensions, asked}

-- ---- a tally is one of classes
found_tally : (p : List ℕ) (t : Tally) (ms : List Span) → X.tally_from p t ms ≡ tallied t (map (X.class_of p) ms)
unfolding X.tally_from tallied
found_tally p t [] = refl
found_tally p t (m ∷ ms) = found_tally p (X.counted t (X.class_of p m)) ms

class_same : (p : List ℕ) (d : ℕ) (m : Span) (e : Entry) → SameMember p d m e → X.class_of p m ≡ class_of e
unfolding X.class_of
class_same p d m e r =
    let n = e.node in
    rw (r.name, r.part, type_derived T.Text n.depth n.bytes n.value, type_derived T.Boolean n.depth n.bytes n.value, true_derived n.depth n.bytes n.value)

-- ---- classes do not depend on places
entry_class : (d i j : ℕ) (x : List ℕ) (p : Member (Value d) x) → class_of (entry_from d i x p) ≡ class_of (entry_from d j x p)
entry_class d i j x (member s a b p) = refl

items_class : (d i j : ℕ) {x : List ℕ} (p : Items (Member (Value d)) x) → map class_of (items_from (entry_from d) i p) ≡ map class_of (items_from (entry_from d) j p)
unfolding items_from
items_class d i j (last {x} p w) = rw (entry_class d i j x p)
items_class d i j (more {x} {w} {u} p a b r) =
    rw (entry_class d i j x p, items_class d (i + length x + length w + 1 + length u) (j + length x + length w + 1 + length u) r)

entries_class : (d i j : ℕ) (x : List ℕ) (v : Value d x) → map class_of (entries_in d i x v) ≡ map class_of (entries_in d j x v)
unfolding Value entries_in group_from
entries_class zero i j x v = refl
entries_class (suc d) i j x (an_object (empty w)) = refl
entries_class (suc d) i j x (an_object (full {w} a r)) = items_class d (i + 1 + length w) (j + 1 + length w) r
entries_class (suc d) i j x (an_array g) = refl
entries_class (suc d) i j x (G.a_number p) = refl
entries_class (suc d) i j x (G.a_string p) = refl
entries_class (suc d) i j x G.a_true = refl
entries_class (suc d) i j x G.a_false = refl
entries_class (suc d) i j x G.a_null = refl

-- ---- an entry
module _ (n : Node) where
  -- by itself
  abbrev alone : Node
  alone = node_at n.depth 0 n.bytes n.value

  alone_stands : Here n.bytes alone
  alone_stands = subst (λ (k : ℕ). Stands n.bytes 0 n.bytes k) (omega arith) (stands_all n.bytes)

  tally_same : is_object n ≡ true → judged (X.tally_of n.bytes) ≡ entry_by (node_members n)
  tally_same o =
      ap judged (found_tally n.bytes no_members (members_at n.bytes 0)
      ∙ ap (tallied no_members) (both_map (X.class_of n.bytes) class_of (class_same n.bytes n.depth) (members_derived alone alone_stands o)
      ∙ entries_class n.depth 0 n.at n.bytes n.value))
      ∙ entry_plain (node_members n)

  pub extension_same : extension_of n.bytes ≡ extension n
  unfolding extension_of extension
  extension_same = go (is_object n) refl where
    go : (t : Bool) → is_object n ≡ t → cond (has_type T.Object n.bytes) (judged (X.tally_of n.bytes)) E.Malformed ≡ cond (is_object n) (entry_by (node_members n)) E.Malformed
    go true e = rw (type_derived T.Object n.depth n.bytes n.value, tally_same e)
    go false e = rw (type_derived T.Object n.depth n.bytes n.value, e)

-- ---- the entries of core:extensions
entries_given : (s : List ℕ) (v : Option Node) → Found s v → Typed T.Array v → OG.entries_of s (as_value v) ≡ map extension (given [] node_elements v)
entries_given s none h e = refl
entries_given s (some n) h e =
    both_map (λ m. extension_of (part_of s m.at m.end)) extension (λ m k r. ap extension_of r.part ∙ extension_same k) (elements_derived n h e)

module _ (s : List ℕ) (es : List Entry) (h : Found s (value "core:extensions" es)) (ok : mistyped global_fields es ≡ false) where
  entries_same : OG.entries_of s (OG.in_global "core:extensions" (map field es)) ≡ D.extensions es
  unfolding index_in same global_fields
  entries_same = ap (OG.entries_of s) (value_is global_fields 19 "core:extensions" asked.extensions es) ∙ entries_given s (value "core:extensions" es) h (array_extensions es ok)

  pub extension_bad : OG.bad_extension s (map field es) ≡ D.bad_extension es
  unfolding OG.bad_extension D.bad_extension
  extension_bad = ap (any X.is_malformed) entries_same

  pub extension_needed : OG.needs_extension s (map field es) ≡ D.needs_extension es
  unfolding OG.needs_extension D.needs_extension
  extension_needed = ap (any X.is_needed) entries_same
