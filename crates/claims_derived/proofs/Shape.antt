-- Refusal 4 and the parts of the file over the derivation.
use mathlib.Core.Path.{◌≡◌, refl, sym, ap, ◌∙◌}
use mathlib.Core.Bool.{Bool, true, false, cond, not, ◌&&◌, false≢true}
use mathlib.Core.List.{List, [], ◌∷◌, map}
use mathlib.Core.Option.{Option, none, some}
use Prim.Native.Nat.{ℕ}
use Prim.Native.String.{String}
use native.Mathlib.Omega.{arith}
use lib.Dec.{eqb}
use borrow.Author.Tests.{not-false}
use Rattle.limits.specs.Limits.{nesting}
use Rattle.json_blocks.specs.TextBytes.{byte, ascii}
use Rattle.json_blocks.specs.Lists.{all}
use Rattle.json_grammar.specs.Grammar.{Value, Text}
use Rattle.json_grammar.specs.Stands.{Stands}
use Rattle.json_grammar.proofs.Stands.{stands_none, stands_head}
use Rattle.json_grammar.proofs.Values.{value_first}
use Rattle.json_names.specs.Same.{same}
use Rattle.json_walk.specs.declared.Member.{Member as Span}
use Rattle.json_walk.specs.declared.Element.{Element}
use Rattle.json_walk.specs.Members.{elements_at}
use Rattle.sigmf_values.specs.declared.FieldType.TheVariants as T
use Rattle.sigmf_values.specs.Values.{has_type}
use Rattle.table.proofs.Bools.{and_left, and_right}
use Rattle.sigmf_objects.specs.Fields as O
use Rattle.sigmf_objects.specs.Fields.{Field, field_of, fields_at}
use Rattle.reader.specs.File as F
use Rattle.reader.specs.File.{top_at, named_from, top_member, objects_in, all_objects}
use Rattle.reader.specs.Reading as L
use Rattle.claims_derived.specs.Derived.{Node, Here, Entry, kind, node_members, node_elements, top}
use Rattle.claims_derived.specs.Rules.{given, is_a, value_from, value, is_object, is_listing, misshapen, File, file_in}
use Rattle.claims_derived.proofs.ValueKinds.{type_derived}
use Rattle.claims_derived.proofs.Nodes.{Both, nothing, next, both_map, SameMember, SameElement, members_derived, elements_derived, top_stands, top_begins}

-- ---- an entry without its derivation
abbrev pub value_as : Node → O.Value
value_as n = record { at = n.at; part = n.bytes }

abbrev pub field : Entry → Field
field e = record { name = e.name; value = value_as e.node }

abbrev pub as_value : Option Node → Option O.Value
as_value none = none
as_value (some n) = some (value_as n)

abbrev pub as_file : File → F.File
as_file f = record {
  global = map field f.global;
  captures = map (λ es. map field es) f.captures;
  annotations = map (λ es. map field es) f.annotations;
}

-- ---- first bytes
first_byte : {s : List ℕ} (d i j : ℕ) (x : List ℕ) → Value d x → Stands s i x j → byte s i ≡ byte x 0
first_byte d i j [] v q = absurd (omega (arith, (value_first d v (stands_none [] 0)).solid))
first_byte {s} d i j (b ∷ x) v q = stands_head s q

module _ {s : List ℕ} (n : Node) (q : Here s n) where
  begins : byte s n.at ≡ byte n.bytes 0
  begins = first_byte n.depth n.at _ n.bytes n.value q

  pub object_here : F.is_object s n.at ≡ is_object n
  unfolding has_type
  object_here = ap (λ (b : ℕ). eqb b 0x7B) begins ∙ type_derived T.Object n.depth n.bytes n.value

  pub array_here : F.is_array s n.at ≡ is_a T.Array (kind n)
  unfolding has_type
  array_here = ap (λ (b : ℕ). eqb b 0x5B) begins ∙ type_derived T.Array n.depth n.bytes n.value

-- ---- the members of an object
field_is : {a b p q : List ℕ} {i j : ℕ} → a ≡ b → i ≡ j → p ≡ q
    → ◌≡◌ {A = Field} (record { name = a; value = record { at = i; part = p } }) (record { name = b; value = record { at = j; part = q } })
field_is e f g = rw (e, f, g)

pub fields_derived : {s : List ℕ} (n : Node) → Here s n → is_object n ≡ true → fields_at s n.at ≡ map field (node_members n)
fields_derived {s} n q e = both_map (field_of s) field (λ m e r. field_is r.name r.value r.part) (members_derived n q e)

-- ---- a member by its name
cond_as : (t : Bool) (n : Node) (z : Option Node) → cond t (some (value_as n)) (as_value z) ≡ as_value (cond t (some n) z)
cond_as true n z = refl
cond_as false n z = refl

pub named_as : (x : List ℕ) (z : Option Node) (es : List Entry) → named_from x (as_value z) (map field es) ≡ as_value (value_from x z es)
unfolding O.last_where value_from
named_as x z [] = refl
named_as x z (e ∷ es) = ap (λ (w : Option O.Value). named_from x w (map field es)) (cond_as (same e.name x) e.node z) ∙ named_as x (cond (same e.name x) (some e.node) z) es

-- a node that is found stands in the text
abbrev pub Found : List ℕ → Option Node → Type 0
Found s none = Unit {0}
Found s (some n) = Here s n

pub found : {s : List ℕ} {d : ℕ} (x : List ℕ) (z : Option Node) {ms : List Span} {es : List Entry} → Found s z → Both (SameMember s d) ms es → Found s (value_from x z es)
unfolding value_from
found x z h nothing = h
found {s} x z h (next {b = e} r rs) = found x (cond (same e.name x) (some e.node) z) (go (same e.name x)) rs where
  go : (t : Bool) → Found s (cond t (some e.node) z)
  go true = r.stands
  go false = h

-- ---- the parts
module _ (s : List ℕ) where
  all_objects_lem : {d : ℕ} {es : List Element} {ns : List Node} → Both (SameElement s d) es ns → all_objects s es ≡ all is_object ns
  unfolding all_objects all
  all_objects_lem nothing = refl
  all_objects_lem (next {a} {b} r rs) = rw (r.value, object_here b r.stands, all_objects_lem rs)

  object_given : (v : Option Node) → Found s v → O.given false (λ w. F.is_object s w.at) (as_value v) ≡ given false is_object v
  object_given none h = refl
  object_given (some n) h = object_here n h

  listing_given : (v : Option Node) → Found s v → F.is_listing s (as_value v) ≡ given false is_listing v
  listing_given none h = refl
  listing_given (some n) h = go (is_a T.Array (kind n)) refl where
    go : (t : Bool) → is_a T.Array (kind n) ≡ t → (F.is_array s n.at && all_objects s (elements_at s n.at)) ≡ (is_a T.Array (kind n) && all is_object (node_elements n))
    go true e = rw (array_here n h, all_objects_lem (elements_derived n h e))
    go false e = rw (array_here n h, e)

  global_given : (v : Option Node) → Found s v → given false is_object v ≡ true → O.given [] (λ w. fields_at s w.at) (as_value v) ≡ map field (given [] node_members v)
  global_given none h e = refl
  global_given (some n) h e = fields_derived n h e

  objects_fields : {d : ℕ} {es : List Element} {ns : List Node} → Both (SameElement s d) es ns → all is_object ns ≡ true
      → map (λ m. fields_at s m.at) es ≡ map (λ l. map field l) (map node_members ns)
  unfolding all
  objects_fields nothing e = refl
  objects_fields (next {a} {b} {l} r rs) e =
      rw (r.value, fields_derived b r.stands (and_left (is_object b) (all is_object l) e), objects_fields rs (and_right (is_object b) (all is_object l) e))

  objects_given : (v : Option Node) → Found s v → given false is_listing v ≡ true
      → objects_in s (as_value v) ≡ map (λ l. map field l) (map node_members (given [] node_elements v))
  objects_given none h e = refl
  objects_given (some n) h e =
      let a = is_a T.Array (kind n) in let b = all is_object (node_elements n) in
      objects_fields (elements_derived n h (and_left a b e)) (and_right a b e)

-- ---- the text whose value is n
module _ {s : List ℕ} (n : Node) (q : Here s n) (e : top_at s ≡ n.at) where
  top_fields_lem : is_object n ≡ true → fields_at s (top_at s) ≡ map field (node_members n)
  top_fields_lem o = ap (fields_at s) e ∙ fields_derived n q o

  named_same : is_object n ≡ true → (x : String) → top_member x s ≡ as_value (value x (node_members n))
  named_same o x = ap (named_from (ascii x) none) (top_fields_lem o) ∙ named_as (ascii x) none (node_members n)

  pub named_found : is_object n ≡ true → (x : String) → Found s (value x (node_members n))
  named_found o x = found (ascii x) none tt (members_derived n q o)

  shape_is : (a b : Bool) → a ≡ b → F.is_object s (top_at s) ≡ a → is_object n ≡ b → L.misshapen s ≡ misshapen n
  unfolding L.misshapen misshapen
  shape_is true true z f o =
      rw (
        f,
        o,
        named_same o "global",
        named_same o "captures",
        named_same o "annotations",
        object_given s (value "global" (node_members n)) (named_found o "global"),
        listing_given s (value "captures" (node_members n)) (named_found o "captures"),
        listing_given s (value "annotations" (node_members n)) (named_found o "annotations"),
      )
  shape_is true false z f o = absurd (false≢true (sym z))
  shape_is false true z f o = absurd (false≢true z)
  shape_is false false z f o = rw (f, o)

  shape_node : L.misshapen s ≡ misshapen n
  shape_node = shape_is _ _ (ap (F.is_object s) e ∙ object_here n q) refl refl

  pub shaped : misshapen n ≡ false
      → is_object n && (given false is_object (value "global" (node_members n))
      && (given false is_listing (value "captures" (node_members n)) && given false is_listing (value "annotations" (node_members n)))) ≡ true
  unfolding misshapen
  shaped h = not-false _ h

  file_node : misshapen n ≡ false → F.file_of s ≡ as_file (file_in n)
  unfolding F.file_of file_in
  file_node h =
      let o = is_object n in let g = given false is_object (value "global" (node_members n)) in
      let c = given false is_listing (value "captures" (node_members n)) in let a = given false is_listing (value "annotations" (node_members n)) in
      let w = shaped h in
      let k = and_left o (g && (c && a)) w in
      let r = and_right o (g && (c && a)) w in
      let l = and_right g (c && a) r in
      rw (
        named_same k "global",
        named_same k "captures",
        named_same k "annotations",
        global_given s (value "global" (node_members n)) (named_found k "global") (and_left g (c && a) r),
        objects_given s (value "captures" (node_members n)) (named_found k "captures") (and_left c a l),
        objects_given s (value "annotations" (node_members n)) (named_found k "annotations") (and_right c a l),
      )

  -- every value of global stands in the text
  pub global_both : misshapen n ≡ false → (x : List ℕ) → Found s (value_from x none (file_in n).global)
  unfolding file_in value_from
  global_both h x =
      let o = is_object n in let g = given false is_object (value "global" (node_members n)) in
      let c = given false is_listing (value "captures" (node_members n)) in let a = given false is_listing (value "annotations" (node_members n)) in
      let k = and_left o (g && (c && a)) (shaped h) in
      go (value "global" (node_members n)) (named_found k "global") (and_left g (c && a) (and_right o (g && (c && a)) (shaped h)))
    where
      go : (v : Option Node) → Found s v → given false is_object v ≡ true → Found s (value_from x none (given [] node_members v))
      go none h i = tt
      go (some m) h i = found x none tt (members_derived m h i)

-- ---- the whole text
module _ {s : List ℕ} (t : Text nesting s) where
  pub shape_same : L.misshapen s ≡ misshapen (top t)
  shape_same = shape_node (top t) (top_stands t) (top_begins t)

  pub file_same : misshapen (top t) ≡ false → F.file_of s ≡ as_file (file_in (top t))
  file_same h = file_node (top t) (top_stands t) (top_begins t) h

  pub global_found : misshapen (top t) ≡ false → (x : List ℕ) → Found s (value_from x none (file_in (top t)).global)
  global_found h x = global_both (top t) (top_stands t) (top_begins t) h x
