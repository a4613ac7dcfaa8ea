-- The derivation of a planned text: no rule from 3 to 14 holds of it, and what its contents are.
use mathlib.Core.Path.{◌≡◌, refl, sym, ap, subst, ◌∙◌}
use mathlib.Core.Bool.{Bool, true, false, not}
use mathlib.Core.List.{List, [], ◌∷◌, ◌++◌, map}
use Prim.Native.Nat.{ℕ, ◌+◌}
use lib.ListN.{length}
use Rattle.json_blocks.specs.TextBytes.{ascii, within}
use Rattle.json_blocks.specs.Lists.{any, all}
use Rattle.json_grammar.specs.Grammar.{Member, Value}
use Rattle.json_names.specs.Same.{same}
use Rattle.json_judge.specs.MemberNames.{bad_names, repeated, has_name}
use Rattle.sigmf_datatypes.specs.Datatypes.{is_listed}
use Rattle.sigmf_texts.specs.Texts.{code_of}
use Rattle.sigmf_names.specs.Names as N
use Rattle.sigmf_values.specs.declared.FieldType.TheVariants as T
use Rattle.refusals.specs.Refusals.{lowest}
use Rattle.refusals.proofs.RuleLaws.{skip}
use Rattle.table.specs.declared.Globals.{Globals}
use Rattle.table.specs.Table.{own_entry}
use Rattle.table.specs.declared.AnnotationEntry.{AnnotationEntry}
use Rattle.std.specs.Prelude.{Some as Given}
use Rattle.reader_layout.specs.Layout.{sample_rules}
use Rattle.json_walk.specs.declared.Member.{Member as Span}
use Rattle.json_walk.specs.declared.Element.{Element}
use Rattle.json_walk.specs.Members.{members_at}
use Rattle.claims_accepted.proofs.ValueLaws as Y
use Rattle.claims_accepted.proofs.ValueLaws.{Each}
use Rattle.claims_derived.specs.Derived.{Node, Here, Entry, entry_from, kind, node_members, node_elements, top}
use Rattle.claims_derived.specs.Rules.{File, is_a, is_object, value_from, bad_node, misshapen, file_in, misnamed, missing, mistyped, bad_datetime, capture_in, annotation_in, globals_in, contents_in, contents_of, rules_by, rules_of}
use Rattle.claims_derived.specs.Rules as D
use Rattle.claims_derived.proofs.Nodes.{Both, nothing, next, SameMember, SameElement, members_derived, elements_derived, top_stands}
use Rattle.claims_written.proofs.Derivations.{ordinary, plainly_meant, row_from}
use Rattle.claims_written.proofs.Pieces.{Some, field, row_of, node, object_kind, object_members, object_elements, array_kind, array_members, array_elements}
use Rattle.claims_written.proofs.Entries.{object_good, array_good}
use Rattle.claims_written.proofs.Plan.{Note, Plan, capture_value, note_value, global_value, captures_value, notes_value, top_value, plan_text, planned}
use Rattle.claims_written.proofs.Objects.{Small, SmallGlobal, Back, CaptureNode, capture_node, NoteNode, note_node, GlobalNode, global_node_lem}

-- ---- rows beside what they are written from
row_both : {A : Type 0} (d : ℕ) (f : A → Some (Value d)) (P : A → Type 0) (R : A → Node → Type 0) → ((i : ℕ) (a : A) → P a → R a (node d i (f a)))
    → (i : ℕ) (l : List A) → Each P l → Both R l (row_of d i (map f l))
unfolding row_of row_from
row_both d f P R h i [] e = nothing
row_both d f P R h i (a ∷ []) (Y.next p e) = next (h i a p) nothing
row_both d f P R h i (a ∷ (b ∷ l)) (Y.next p e) = next (h i a p) (row_both d f P R h (i + length (f a).0 + 1) (b ∷ l) e)

module _ {A : Type 0} {R : A → Node → Type 0} where
  all_true : (f : Node → Bool) → ((a : A) (n : Node) → R a n → f n ≡ true) → {k : List A} {l : List Node} → Both R k l → all f l ≡ true
  unfolding all
  all_true f h nothing = refl
  all_true f h (next {a} {b} r rs) = rw (h a b r, all_true f h rs)

  any_false : (f : Node → Bool) → ((a : A) (n : Node) → R a n → f n ≡ false) → {k : List A} {l : List Node} → Both R k l → any f l ≡ false
  unfolding any
  any_false f h nothing = refl
  any_false f h (next {a} {b} r rs) = rw (h a b r, any_false f h rs)

  members_false : (f : List Entry → Bool) → ((a : A) (n : Node) → R a n → f (node_members n) ≡ false) → {k : List A} {l : List Node} → Both R k l
      → any f (map node_members l) ≡ false
  unfolding any
  members_false f h nothing = refl
  members_false f h (next {a} {b} r rs) = rw (h a b r, members_false f h rs)

  members_map : {B : Type 0} (f : List Entry → B) (g : A → B) → ((a : A) (n : Node) → R a n → f (node_members n) ≡ g a) → {k : List A} {l : List Node} → Both R k l
      → map f (map node_members l) ≡ map g k
  members_map f g h nothing = refl
  members_map f g h (next {a} {b} r rs) = rw (h a b r, members_map f g h rs)

-- what an annotation's entry gives back, w being the text
pub record NoteBack (w : List ℕ) (r : Note) (a : AnnotationEntry) : Type 0 where
  pub start : a.start ≡ r.start
  pub count : a.count ≡ Given r.count
  pub label : Back w a.texts.label r.label

note_back : (w : List ℕ) (r : Note) (n : Node) → NoteNode r n → Here w n → NoteBack w r (annotation_in (node_members n))
note_back w r n x h = subst (λ (a : AnnotationEntry). NoteBack w r a) (sym x.is.good.said) (record { start = refl; count = refl; label = x.told w h })

notes_back : (w : List ℕ) {d : ℕ} {k : List Note} {l : List Node} {es : List Element} → Both NoteNode k l → Both (SameElement w d) es l
    → Both (NoteBack w) k (map annotation_in (map node_members l))
notes_back w nothing s = nothing
notes_back w (next {a} {b} r rs) (next x s) = next (note_back w a b r x.stands) (notes_back w rs s)

-- ---- a node with the three members
pub record Top (w : List ℕ) (p : Plan) (n : Node) (e f g : Entry) : Type 0 where
  pub here : Here w n
  pub object : is_object n ≡ true
  pub flat : node_elements n ≡ []
  pub three : node_members n ≡ e ∷ f ∷ g ∷ []
  pub global : e.name ≡ ascii "global"
  pub captures : f.name ≡ ascii "captures"
  pub annotations : g.name ≡ ascii "annotations"
  pub global_node : GlobalNode p e.node
  pub captures_array : is_a T.Array (kind f.node) ≡ true
  pub captures_bare : node_members f.node ≡ []
  pub capture_nodes : Both CaptureNode p.captures (node_elements f.node)
  pub notes_array : is_a T.Array (kind g.node) ≡ true
  pub notes_bare : node_members g.node ≡ []
  pub note_nodes : Both NoteNode p.notes (node_elements g.node)

module _ {w : List ℕ} {p : Plan} {n : Node} {e f g : Entry} (x : Top w p n e f g) where
  abbrev F : File
  F = record { global = node_members e.node; captures = map node_members (node_elements f.node); annotations = map node_members (node_elements g.node) }

  file_is : file_in n ≡ F
  unfolding file_in value_from same
  file_is = rw (x.three, x.global, x.captures, x.annotations)

  shape_is : misshapen n ≡ false
  unfolding misshapen value_from same
  shape_is =
      rw (
        x.object,
        x.three,
        x.global,
        x.captures,
        x.annotations,
        x.global_node.is.object,
        x.captures_array,
        x.notes_array,
        all_true is_object (λ a m r. r.object) x.capture_nodes,
        all_true is_object (λ a m r. r.is.object) x.note_nodes,
      )

  once : bad_names (map (λ e. e.name) (node_members n)) ≡ false
  unfolding bad_names repeated has_name same
  once = rw (x.three, x.global, x.captures, x.annotations)

  inside : any (λ e. bad_node 31 e.node) (node_members n) ≡ false
  unfolding any
  inside =
      rw (
        x.three,
        x.global_node.is.bad,
        array_good 30 f.node x.captures_bare (any_false (bad_node 30) (λ a m r. r.bad) x.capture_nodes),
        array_good 30 g.node x.notes_bare (any_false (bad_node 30) (λ a m r. r.is.bad) x.note_nodes),
      )

  bad_is : bad_node 32 n ≡ false
  bad_is = object_good 31 n (record { here = once; inside = inside }) x.flat

  formed : D.in_file misnamed misnamed misnamed F ≡ false
  formed = rw (x.global_node.is.good.formed, members_false misnamed (λ a m r. r.good.formed) x.capture_nodes, members_false misnamed (λ a m r. r.is.good.formed) x.note_nodes)

  whole : D.in_file (missing N.global_fields) (missing N.capture_fields) (missing N.annotation_fields) F ≡ false
  whole = rw (x.global_node.is.good.whole, members_false (missing N.capture_fields) (λ a m r. r.good.whole) x.capture_nodes, members_false (missing N.annotation_fields) (λ a m r. r.is.good.whole) x.note_nodes)

  typed : D.in_file (mistyped N.global_fields) (mistyped N.capture_fields) (mistyped N.annotation_fields) F ≡ false
  typed = rw (x.global_node.is.good.typed, members_false (mistyped N.capture_fields) (λ a m r. r.good.typed) x.capture_nodes, members_false (mistyped N.annotation_fields) (λ a m r. r.is.good.typed) x.note_nodes)

  module _ (c : is_listed (code_of p.name) ≡ true) (h : within 1 1024 p.channels ≡ true) (d : ℕ) where
    early : lowest (rules_by n d F) ≡ lowest (sample_rules (contents_in F) d)
    unfolding rules_by
    early =
        skip 3 _ _ bad_is
        ∙ skip 4 _ _ shape_is
        ∙ skip 5 _ _ formed
        ∙ skip 6 _ _ whole
        ∙ skip 7 _ _ typed
        ∙ skip 8 _ _ x.global_node.is.good.version
        ∙ skip 9 _ _ (x.global_node.is.good.datatype ∙ ap not c)
        ∙ skip 10 _ _ (x.global_node.is.good.channelled ∙ ap not h)
        ∙ skip 11 _ _ (members_false bad_datetime (λ a m r. r.good.dated) x.capture_nodes)
        ∙ skip 12 _ _ x.global_node.is.good.extensions
        ∙ skip 13 _ _ x.global_node.is.good.needed
        ∙ skip 14 _ _ x.global_node.is.good.dataset

    pub rules_are : lowest (rules_by n d (file_in n)) ≡ lowest (sample_rules (contents_in (file_in n)) d)
    rules_are = ap (λ (l : File). lowest (rules_by n d l)) file_is ∙ early ∙ ap (λ (l : File). lowest (sample_rules (contents_in l) d)) (sym file_is)

  pub captures_are : (contents_in (file_in n)).captures ≡ map own_entry p.captures
  unfolding contents_in
  captures_are = ap (λ (l : File). map capture_in l.captures) file_is ∙ members_map capture_in own_entry (λ a m r. r.good.said) x.capture_nodes

  pub globals_are : (contents_in (file_in n)).globals ≡ record { datatype = code_of p.name; channels = p.channels; offset = p.offset; trailing = p.trailing; rate = x.global_node.rate }
  unfolding contents_in
  globals_are = ap (λ (l : File). globals_in l.global) file_is ∙ x.global_node.is.good.said

  three_here : Here w e.node × Here w g.node
  three_here = go (subst (λ (es : List Entry). Both (SameMember w n.depth) (members_at w n.at) es) x.three (members_derived n x.here x.object)) where
    go : {k : List Span} → Both (SameMember w n.depth) k (e ∷ f ∷ g ∷ []) → Here w e.node × Here w g.node
    go (next a (next b (next c nothing))) = (a.stands, c.stands)

  pub rate_back : Back w (contents_in (file_in n)).globals.rate p.rate
  rate_back = subst (λ (k : Globals). Back w k.rate p.rate) (sym globals_are) (x.global_node.told w three_here.0)

  pub notes_are : Both (NoteBack w) p.notes (contents_in (file_in n)).annotations
  unfolding contents_in
  notes_are =
      subst (λ (l : File). Both (NoteBack w) p.notes (map annotation_in l.annotations)) (sym file_is)
      (notes_back w x.note_nodes (elements_derived g.node three_here.1 x.notes_array))

-- ---- the planned text
pub record SmallPlan (p : Plan) : Type 0 where
  pub global : SmallGlobal p.channels p.offset p.trailing
  pub captures : Each (λ r. Small r.start r.header) p.captures
  pub notes : Each (λ r. Small r.start r.count) p.notes

module _ (p : Plan) where
  abbrev pub a1 : Some (Member (Value 31))
  unfolding all ordinary within
  a1 = field 31 (ascii "global") refl (global_value p).0 (global_value p).1

  abbrev pub a2 : Some (Member (Value 31))
  unfolding all ordinary within
  a2 = field 31 (ascii "captures") refl (captures_value p).0 (captures_value p).1

  abbrev pub a3 : Some (Member (Value 31))
  unfolding all ordinary within
  a3 = field 31 (ascii "annotations") refl (notes_value p).0 (notes_value p).1

  abbrev pub i2 : ℕ
  i2 = 0 + 1 + 0 + length a1.0 + 1

  abbrev pub i3 : ℕ
  i3 = i2 + length a2.0 + 1

  pub top_is : SmallPlan p → Top (plan_text p) p (top (planned p)) (entry_from 31 (0 + 1 + 0) a1.0 a1.1) (entry_from 31 i2 a2.0 a2.1) (entry_from 31 i3 a3.0 a3.1)
  unfolding top_value row_from is_a all ordinary within
  top_is b = record {
    here = top_stands (planned p);
    object = ap (is_a T.Object) (object_kind 31 0 a1 (a2 ∷ a3 ∷ []));
    flat = object_elements 31 0 a1 (a2 ∷ a3 ∷ []);
    three = object_members 31 0 a1 (a2 ∷ a3 ∷ []);
    global = plainly_meant (ascii "global") refl;
    captures = plainly_meant (ascii "captures") refl;
    annotations = plainly_meant (ascii "annotations") refl;
    global_node = global_node_lem _ p b.global;
    captures_array = ap (is_a T.Array) (array_kind 30 (i2 + length (0x22 ∷ (ascii "captures" ++ (0x22 ∷ []))) + 0 + 1 + 0) (map capture_value p.captures));
    captures_bare = array_members 30 (i2 + length (0x22 ∷ (ascii "captures" ++ (0x22 ∷ []))) + 0 + 1 + 0) (map capture_value p.captures);
    capture_nodes = subst (λ (l : List Node). Both CaptureNode p.captures l) (sym (array_elements 30 (i2 + length (0x22 ∷ (ascii "captures" ++ (0x22 ∷ []))) + 0 + 1 + 0) (map capture_value p.captures)))
        (row_both 30 capture_value _ CaptureNode capture_node _ p.captures b.captures);
    notes_array = ap (is_a T.Array) (array_kind 30 (i3 + length (0x22 ∷ (ascii "annotations" ++ (0x22 ∷ []))) + 0 + 1 + 0) (map note_value p.notes));
    notes_bare = array_members 30 (i3 + length (0x22 ∷ (ascii "annotations" ++ (0x22 ∷ []))) + 0 + 1 + 0) (map note_value p.notes);
    note_nodes = subst (λ (l : List Node). Both NoteNode p.notes l) (sym (array_elements 30 (i3 + length (0x22 ∷ (ascii "annotations" ++ (0x22 ∷ []))) + 0 + 1 + 0) (map note_value p.notes)))
        (row_both 30 note_value _ NoteNode note_node _ p.notes b.notes);
  }

-- what a planned text reads as
pub record Planned (p : Plan) (d : ℕ) : Type 0 where
  pub rules : lowest (rules_of (planned p) d) ≡ lowest (sample_rules (contents_of (planned p)) d)
  pub code : (contents_of (planned p)).globals.datatype ≡ code_of p.name
  pub channels : (contents_of (planned p)).globals.channels ≡ p.channels
  pub offset : (contents_of (planned p)).globals.offset ≡ p.offset
  pub trailing : (contents_of (planned p)).globals.trailing ≡ p.trailing
  pub rate : Back (plan_text p) (contents_of (planned p)).globals.rate p.rate
  pub captures : (contents_of (planned p)).captures ≡ map own_entry p.captures
  pub notes : Both (NoteBack (plan_text p)) p.notes (contents_of (planned p)).annotations

planned_by : {p : Plan} {n : Node} {e f g : Entry} → Top (plan_text p) p n e f g → n ≡ top (planned p) → is_listed (code_of p.name) ≡ true → within 1 1024 p.channels ≡ true → (d : ℕ) → Planned p d
planned_by {p} {n} {e} {f} {g} x q c h d =
    let y = subst (λ (m : Node). Top (plan_text p) p m e f g) q x in
    record {
      rules = rules_are y c h d;
      code = ap (λ (k : Globals). k.datatype) (globals_are y);
      channels = ap (λ (k : Globals). k.channels) (globals_are y);
      offset = ap (λ (k : Globals). k.offset) (globals_are y);
      trailing = ap (λ (k : Globals). k.trailing) (globals_are y);
      rate = rate_back y;
      captures = captures_are y;
      notes = notes_are y;
    }

pub planned_reads : (p : Plan) → SmallPlan p → is_listed (code_of p.name) ≡ true → within 1 1024 p.channels ≡ true → (d : ℕ) → Planned p d
planned_reads p b c h d = planned_by (top_is p b) refl c h d
