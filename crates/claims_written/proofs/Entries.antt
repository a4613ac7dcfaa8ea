-- What the rules say of the members that are written, by their names and kinds.
use Rattle.std.specs.Prelude.{Some}
use mathlib.Core.Path.{◌≡◌}
use mathlib.Core.Bool.{false, not}
use mathlib.Core.List.{List, [], ◌∷◌, map}
use mathlib.Core.Option.{Option, some}
use Prim.Native.Nat.{ℕ, suc, ◌<◌, ◌^◌}
use borrow.Author.Tests.{lt-ltb}
use Rattle.json_blocks.specs.TextBytes.{ascii, within}
use Rattle.json_blocks.specs.Lists.{any, all}
use Rattle.json_names.specs.Same.{same}
use Rattle.json_judge.specs.MemberNames.{bad_names, repeated, has_name}
use Rattle.sigmf_datatypes.specs.Datatypes.{is_listed}
use Rattle.sigmf_texts.specs.Lookup.{index_in}
use Rattle.sigmf_texts.specs.Texts.{code_of}
use Rattle.sigmf_texts.specs.Form.{form_ok, namespace_of, after_colon, namespace_byte, name_byte}
use Rattle.sigmf_names.specs.Names.{global_fields, capture_fields, annotation_fields, core_at, type_at}
use Rattle.table.specs.declared.Place.{Place}
use Rattle.table.specs.Place.{nowhere}
use Rattle.claims_derived.specs.Derived.{Kind, number, text, Node, Entry, node_members, node_elements}
use Rattle.claims_derived.specs.Rules.{value_from, is_a, uint, text_in, bad_node, misnamed, missing, mistyped, bad_datetime, capture_in, annotation_in, globals_in, number_place, text_place}
use Rattle.claims_derived.specs.Rules as D
use Rattle.claims_written.proofs.Pieces.{Scalar}

-- a member with a name and a kind of scalar
pub record Has (n : List ℕ) (k : Kind) (e : Entry) : Type 0 where
  pub name : e.name ≡ n
  pub scalar : Scalar k e.node

abbrev pub Whole : ℕ → Kind
Whole n = number (some n)

-- ---- nothing in a scalar is named twice
pub scalar_good : (j : ℕ) {k : Kind} (n : Node) → Scalar k n → bad_node (suc j) n ≡ false
unfolding bad_node bad_names repeated any
scalar_good j n s = rw (s.no_members_lem, s.no_elements)

-- no name stands twice, among these members or in their values
pub record Once (j : ℕ) (es : List Entry) : Type 0 where
  pub here : bad_names (map (λ e. e.name) es) ≡ false
  pub inside : any (λ e. bad_node j e.node) es ≡ false

pub object_good : (j : ℕ) (n : Node) → Once j (node_members n) → node_elements n ≡ [] → bad_node (suc j) n ≡ false
unfolding bad_node any
object_good j n o c = rw (o.here, o.inside, c)

pub array_good : (j : ℕ) (n : Node) → node_members n ≡ [] → any (bad_node j) (node_elements n) ≡ false → bad_node (suc j) n ≡ false
unfolding bad_node bad_names repeated any
array_good j n a b = rw (a, b)

-- ---- a capture
pub record GoodCapture (start header : ℕ) (es : List Entry) : Type 0 where
  pub once : Once 29 es
  pub formed : misnamed es ≡ false
  pub whole : missing capture_fields es ≡ false
  pub typed : mistyped capture_fields es ≡ false
  pub dated : bad_datetime es ≡ false
  pub said : capture_in es ≡ record { start = start; header = header }

module _ (e f : Entry) (a b : ℕ) (p : Has (ascii "core:sample_start") (Whole a) e) (q : Has (ascii "core:header_bytes") (Whole b) f)
    (x : a < 2 ^ 64) (y : b < 2 ^ 64) where
  pub good_capture : GoodCapture a b (e ∷ f ∷ [])
  unfolding bad_names repeated has_name same any misnamed form_ok namespace_of after_colon namespace_byte name_byte missing mistyped type_at core_at index_in capture_fields bad_datetime value_from uint is_a all within
  good_capture = record {
    once = record { here = rw (p.name, q.name); inside = rw (scalar_good 28 e.node p.scalar, scalar_good 28 f.node q.scalar) };
    formed = rw (p.name, q.name);
    whole = rw (p.name, q.name);
    typed = rw (p.name, q.name, p.scalar.is, q.scalar.is, lt-ltb _ _ x, lt-ltb _ _ y);
    dated = rw (p.name, q.name);
    said = rw (p.name, q.name, p.scalar.is, q.scalar.is, lt-ltb _ _ x, lt-ltb _ _ y);
  }

-- ---- an annotation, whose label is at a place
pub record GoodNote (start count : ℕ) (label : Place) (es : List Entry) : Type 0 where
  pub once : Once 29 es
  pub formed : misnamed es ≡ false
  pub whole : missing annotation_fields es ≡ false
  pub typed : mistyped annotation_fields es ≡ false
  pub said : annotation_in es ≡ record { start = start; count = Some count; texts = record { label = label } }

module _ (e f : Entry) (a b : ℕ) (p : Has (ascii "core:sample_start") (Whole a) e) (q : Has (ascii "core:sample_count") (Whole b) f)
    (x : a < 2 ^ 64) (y : b < 2 ^ 64) where
  pub good_bare : GoodNote a b nowhere (e ∷ f ∷ [])
  unfolding bad_names repeated has_name same any misnamed form_ok namespace_of after_colon namespace_byte name_byte missing mistyped type_at core_at index_in annotation_fields value_from uint is_a all within
  good_bare = record {
    once = record { here = rw (p.name, q.name); inside = rw (scalar_good 28 e.node p.scalar, scalar_good 28 f.node q.scalar) };
    formed = rw (p.name, q.name);
    whole = rw (p.name, q.name);
    typed = rw (p.name, q.name, p.scalar.is, q.scalar.is, lt-ltb _ _ x, lt-ltb _ _ y);
    said = rw (p.name, q.name, p.scalar.is, q.scalar.is, lt-ltb _ _ x, lt-ltb _ _ y);
  }

  module _ (g : Entry) (w : List ℕ) (r : Has (ascii "core:label") (text w) g) where
    pub good_labelled : GoodNote a b (text_place g.node) (e ∷ f ∷ g ∷ [])
    unfolding bad_names repeated has_name same any misnamed form_ok namespace_of after_colon namespace_byte name_byte missing mistyped type_at core_at index_in annotation_fields value_from uint is_a all within
    good_labelled = record {
      once = record { here = rw (p.name, q.name, r.name); inside = rw (scalar_good 28 e.node p.scalar, scalar_good 28 f.node q.scalar, scalar_good 28 g.node r.scalar) };
      formed = rw (p.name, q.name, r.name);
      whole = rw (p.name, q.name, r.name);
      typed = rw (p.name, q.name, r.name, p.scalar.is, q.scalar.is, r.scalar.is, lt-ltb _ _ x, lt-ltb _ _ y);
      said = rw (p.name, q.name, r.name, p.scalar.is, q.scalar.is, lt-ltb _ _ x, lt-ltb _ _ y);
    }

-- ---- global, whose sample rate is at a place
pub record GoodGlobal (name : List ℕ) (channels offset trailing : ℕ) (rate : Place) (es : List Entry) : Type 0 where
  pub once : Once 30 es
  pub formed : misnamed es ≡ false
  pub whole : missing global_fields es ≡ false
  pub typed : mistyped global_fields es ≡ false
  pub version : D.other_version es ≡ false
  pub datatype : D.other_datatype es ≡ not (is_listed (code_of name))
  pub channelled : D.bad_channels es ≡ not (within 1 1024 channels)
  pub extensions : D.bad_extension es ≡ false
  pub needed : D.needs_extension es ≡ false
  pub dataset : D.no_dataset es ≡ false
  pub said : globals_in es ≡ record { datatype = code_of name; channels = channels; offset = offset; trailing = trailing; rate = rate }

module _ (e f g h i : Entry) (n : List ℕ) (c o t : ℕ) (p : Has (ascii "core:datatype") (text n) e) (q : Has (ascii "core:version") (text (ascii "1.0.0")) f)
    (r : Has (ascii "core:num_channels") (Whole c) g) (u : Has (ascii "core:offset") (Whole o) h) (v : Has (ascii "core:trailing_bytes") (Whole t) i)
    (x : c < 2 ^ 64) (y : o < 2 ^ 64) (z : t < 2 ^ 64) where
  pub good_global : GoodGlobal n c o t nowhere (e ∷ f ∷ g ∷ h ∷ i ∷ [])
  unfolding bad_names repeated has_name same any misnamed form_ok namespace_of after_colon namespace_byte name_byte missing mistyped type_at core_at index_in global_fields value_from uint text_in is_a all within
      D.other_version D.other_datatype D.bad_channels D.bad_extension D.needs_extension D.no_dataset
  good_global = record {
    once = record { here = rw (p.name, q.name, r.name, u.name, v.name); inside = rw (scalar_good 29 e.node p.scalar, scalar_good 29 f.node q.scalar, scalar_good 29 g.node r.scalar, scalar_good 29 h.node u.scalar, scalar_good 29 i.node v.scalar) };
    formed = rw (p.name, q.name, r.name, u.name, v.name);
    whole = rw (p.name, q.name, r.name, u.name, v.name);
    typed = rw (p.name, q.name, r.name, u.name, v.name, p.scalar.is, q.scalar.is, r.scalar.is, u.scalar.is, v.scalar.is, lt-ltb _ _ x, lt-ltb _ _ y, lt-ltb _ _ z);
    version = rw (p.name, q.name, r.name, u.name, v.name, q.scalar.is);
    datatype = rw (p.name, q.name, r.name, u.name, v.name, p.scalar.is);
    channelled = rw (p.name, q.name, r.name, u.name, v.name, r.scalar.is, lt-ltb _ _ x);
    extensions = rw (p.name, q.name, r.name, u.name, v.name);
    needed = rw (p.name, q.name, r.name, u.name, v.name);
    dataset = rw (p.name, q.name, r.name, u.name, v.name);
    said = rw (p.name, q.name, r.name, u.name, v.name, p.scalar.is, r.scalar.is, u.scalar.is, v.scalar.is, lt-ltb _ _ x, lt-ltb _ _ y, lt-ltb _ _ z);
  }

  module _ (j : Entry) (w : Option ℕ) (b : Has (ascii "core:sample_rate") (number w) j) where
    pub good_rated : GoodGlobal n c o t (number_place j.node) (e ∷ f ∷ g ∷ h ∷ i ∷ j ∷ [])
    unfolding bad_names repeated has_name same any misnamed form_ok namespace_of after_colon namespace_byte name_byte missing mistyped type_at core_at index_in global_fields value_from uint text_in is_a all within
        D.other_version D.other_datatype D.bad_channels D.bad_extension D.needs_extension D.no_dataset
    good_rated = record {
      once = record { here = rw (p.name, q.name, r.name, u.name, v.name, b.name); inside = rw (scalar_good 29 e.node p.scalar, scalar_good 29 f.node q.scalar, scalar_good 29 g.node r.scalar, scalar_good 29 h.node u.scalar, scalar_good 29 i.node v.scalar, scalar_good 29 j.node b.scalar) };
      formed = rw (p.name, q.name, r.name, u.name, v.name, b.name);
      whole = rw (p.name, q.name, r.name, u.name, v.name, b.name);
      typed = rw (p.name, q.name, r.name, u.name, v.name, b.name, p.scalar.is, q.scalar.is, r.scalar.is, u.scalar.is, v.scalar.is, b.scalar.is, lt-ltb _ _ x, lt-ltb _ _ y, lt-ltb _ _ z);
      version = rw (p.name, q.name, r.name, u.name, v.name, b.name, q.scalar.is);
      datatype = rw (p.name, q.name, r.name, u.name, v.name, b.name, p.scalar.is);
      channelled = rw (p.name, q.name, r.name, u.name, v.name, b.name, r.scalar.is, lt-ltb _ _ x);
      extensions = rw (p.name, q.name, r.name, u.name, v.name, b.name);
      needed = rw (p.name, q.name, r.name, u.name, v.name, b.name);
      dataset = rw (p.name, q.name, r.name, u.name, v.name, b.name);
      said = rw (p.name, q.name, r.name, u.name, v.name, b.name, p.scalar.is, r.scalar.is, u.scalar.is, v.scalar.is, lt-ltb _ _ x, lt-ltb _ _ y, lt-ltb _ _ z);
    }
