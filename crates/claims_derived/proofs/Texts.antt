-- Labels and the sample rate of a file whose types are right: where they stand, and what their bytes are.
use mathlib.Core.Path.{◌≡◌, refl}
use mathlib.Core.Bool.{◌&&◌, true, false, false≢true}
use mathlib.Core.List.{List, [], ◌∷◌, ◌++◌, map}
use mathlib.Core.Option.{Option, none, some}
use Prim.Native.Nat.{ℕ, zero, suc}
use lib.ListN.{get_or}
use Rattle.limits.specs.Limits.{nesting}
use Rattle.json_blocks.specs.TextBytes.{ascii}
use Rattle.json_blocks.specs.Lists.{any, all}
use Rattle.json_grammar.specs.Grammar as G
use Rattle.json_grammar.specs.Grammar.{string, Number, AnyValue, Value, Text}
use Rattle.json_strings.specs.Meaning.{Means}
use Rattle.json_walk.specs.declared.Element.{Element}
use Rattle.sigmf_values.specs.declared.FieldType.TheVariants as T
use Rattle.sigmf_names.specs.Names.{global_fields, annotation_fields, core_at, type_at}
use Rattle.table.proofs.Bools.{and_left, and_right}
use Rattle.claims_accepted.proofs.Tests.{or_left, or_right}
use Rattle.claims_accepted.proofs.ValueLaws as Y
use Rattle.claims_accepted.proofs.ValueLaws.{Each}
use Rattle.claims_derived.specs.Derived.{kind_of, kind_in, Node, Entry, Here, kind, node_members, node_elements, top}
use Rattle.claims_derived.specs.Rules.{given, is_a, text_in, value_from, value, is_object, is_listing, mistyped, misshapen, file_in, file_of}
use Rattle.claims_derived.proofs.ValueKinds.{meant_means}
use Rattle.claims_derived.proofs.Nodes.{Both, nothing, next, SameElement, members_derived, elements_derived, top_stands, top_begins}
use Rattle.claims_derived.proofs.Shape.{Found, found, shaped, named_found, global_found}
use Rattle.claims_derived.proofs.FieldRules.{Typed, typed, asked}
use Rattle.claims_derived.proofs.Agrees.{bad_types, ok_global, ok_annotations}

-- ---- the bytes of a text, and of a number
-- characters between quotes, which mean what the text says
pub data Quoted (t : List ℕ) : List ℕ → Type 0 where
  quoted : {cs : List ℕ} → Means cs t → Quoted t (0x22 ∷ (cs ++ (0x22 ∷ [])))

module _ {A B : List ℕ → Type 0} where
  quoted_any : {x : List ℕ} (v : AnyValue A B x) → is_a T.Text (kind_of v) ≡ true → Quoted (text_in (kind_of v)) x
  unfolding is_a text_in
  quoted_any (G.a_string (string p)) e = quoted (meant_means p)
  quoted_any (G.an_object g) e = absurd (false≢true e)
  quoted_any (G.an_array g) e = absurd (false≢true e)
  quoted_any (G.a_number p) e = absurd (false≢true e)
  quoted_any G.a_true e = absurd (false≢true e)
  quoted_any G.a_false e = absurd (false≢true e)
  quoted_any G.a_null e = absurd (false≢true e)

  number_any : {x : List ℕ} (v : AnyValue A B x) → is_a T.Double (kind_of v) ≡ true → Number x
  unfolding is_a
  number_any (G.a_number p) e = p
  number_any (G.an_object g) e = absurd (false≢true e)
  number_any (G.an_array g) e = absurd (false≢true e)
  number_any (G.a_string p) e = absurd (false≢true e)
  number_any G.a_true e = absurd (false≢true e)
  number_any G.a_false e = absurd (false≢true e)
  number_any G.a_null e = absurd (false≢true e)

quoted_in : (d : ℕ) (x : List ℕ) (v : Value d x) → is_a T.Text (kind_in d x v) ≡ true → Quoted (text_in (kind_in d x v)) x
unfolding Value kind_in
quoted_in zero x v = quoted_any v
quoted_in (suc d) x v = quoted_any v

number_in : (d : ℕ) (x : List ℕ) (v : Value d x) → is_a T.Double (kind_in d x v) ≡ true → Number x
unfolding Value kind_in
number_in zero x v = number_any v
number_in (suc d) x v = number_any v

pub text_quoted : (n : Node) → is_a T.Text (kind n) ≡ true → Quoted (text_in (kind n)) n.bytes
text_quoted n e = quoted_in n.depth n.bytes n.value e

pub number_bytes : (n : Node) → is_a T.Double (kind n) ≡ true → Number n.bytes
number_bytes n e = number_in n.depth n.bytes n.value e

-- ---- labels
each_at : {A : Type 0} (P : A → Type 0) (z : A) → P z → (l : List A) → Each P l → (k : ℕ) → P (get_or l k z)
each_at P z h [] Y.nothing k = h
each_at P z h (x ∷ l) (Y.next p ps) zero = p
each_at P z h (x ∷ l) (Y.next p ps) (suc k) = each_at P z h l ps k

-- the label among the members of an annotation stands in s and is a text
abbrev Labelled : List ℕ → List Entry → Type 0
Labelled s a = Found s (value "core:label" a) × Typed T.Text (value "core:label" a)

module _ (s : List ℕ) where
  label_found_lem : (n : Node) → Here s n → is_object n ≡ true → mistyped annotation_fields (node_members n) ≡ false → Labelled s (node_members n)
  unfolding type_at core_at annotation_fields
  label_found_lem n h o e = (found (ascii "core:label") none tt (members_derived n h o), typed annotation_fields 3 "core:label" asked.label (node_members n) e)

  labels_each : {d : ℕ} {es : List Element} {ns : List Node} → Both (SameElement s d) es ns → all is_object ns ≡ true → any (mistyped annotation_fields) (map node_members ns) ≡ false
      → Each (Labelled s) (map node_members ns)
  unfolding all any
  labels_each nothing o e = Y.nothing
  labels_each (next {b} {l} r rs) o e =
      let x = mistyped annotation_fields (node_members b) in let y = any (mistyped annotation_fields) (map node_members l) in
      Y.next (label_found_lem b r.stands (and_left (is_object b) (all is_object l) o) (or_left x y e)) (labels_each rs (and_right (is_object b) (all is_object l) o) (or_right x y e))

  labels_given : (v : Option Node) → Found s v → given false is_listing v ≡ true → any (mistyped annotation_fields) (map node_members (given [] node_elements v)) ≡ false
      → Each (Labelled s) (map node_members (given [] node_elements v))
  labels_given none h o e = Y.nothing
  labels_given (some n) h o e =
      let a = is_a T.Array (kind n) in let b = all is_object (node_elements n) in
      labels_each (elements_derived n h (and_left a b o)) (and_right a b o) e

  no_label : Labelled s []
  unfolding value_from
  no_label = (tt, tt)

module _ {s : List ℕ} (t : Text nesting s) (h : misshapen (top t) ≡ false) (ok : bad_types (file_of t) ≡ false) where
  labels_found : Each (Labelled s) (file_of t).annotations
  unfolding file_in
  labels_found =
      let n = top t in
      let o = is_object n in let g = given false is_object (value "global" (node_members n)) in
      let c = given false is_listing (value "captures" (node_members n)) in let a = given false is_listing (value "annotations" (node_members n)) in
      let w = shaped n (top_stands t) (top_begins t) h in
      labels_given s (value "annotations" (node_members n)) (named_found n (top_stands t) (top_begins t) (and_left o (g && (c && a)) w) "annotations")
      (and_right c a (and_right g (c && a) (and_right o (g && (c && a)) w))) (ok_annotations (file_in n) ok)

  -- of annotation k
  pub label_at : (k : ℕ) → Labelled s (get_or (file_of t).annotations k [])
  label_at k = each_at (Labelled s) [] (no_label s) (file_of t).annotations labels_found k

  -- ---- the sample rate
  pub rate_typed : Typed T.Double (value "core:sample_rate" (file_of t).global)
  unfolding type_at core_at global_fields
  rate_typed = typed global_fields 15 "core:sample_rate" asked.rate (file_of t).global (ok_global (file_of t) ok)

  pub rate_found : Found s (value "core:sample_rate" (file_of t).global)
  rate_found = global_found t h (ascii "core:sample_rate")
