-- Refusals 5 to 14 and the numbers of the table over the derivation: of one object's members.
use Rattle.std.specs.Prelude.{None, Some}
use mathlib.Core.Path.{◌≡◌, refl, sym, ap, subst, ◌∙◌}
use mathlib.Core.Bool.{Bool, true, false, cond, not, ◌||◌, false≢true}
use mathlib.Core.List.{List, [], ◌∷◌, map}
use mathlib.Core.Option.{Option, none, some}
use Prim.Native.Nat.{ℕ, ◌<◌, ◌+◌, ◌-◌}
use Prim.Native.String.{String}
use native.Mathlib.Omega.{arith}
use lib.ListN.{length, get_or}
use lib.Dec.{eqb}
use borrow.Author.Tests.{eq-eqb, ne_eqb, eqb-true, not-false}
use Rattle.limits.specs.Limits.{channels}
use Rattle.json_blocks.specs.TextBytes.{ascii, within}
use Rattle.json_blocks.specs.Lists.{any}
use Rattle.json_strings.specs.Decode.{decoded_from}
use Rattle.json_names.specs.Same.{same}
use Rattle.json_names.proofs.SameLaws.{same_is}
use Rattle.sigmf_datatypes.specs.Datatypes.{datatypes, twelve, is_listed}
use Rattle.sigmf_texts.specs.Lookup.{index_in}
use Rattle.sigmf_texts.specs.Texts.{code_of}
use Rattle.sigmf_texts.specs.Form.{form_ok}
use Rattle.sigmf_datetimes.specs.Datetimes.{datetime_of}
use Rattle.sigmf_texts.proofs.LookupLaws.{index_same}
use Rattle.sigmf_values.specs.declared.FieldType.{FieldType}
use Rattle.sigmf_values.specs.declared.FieldType.TheVariants as T
use Rattle.sigmf_names.specs.Names.{Core, global_fields, capture_fields, annotation_fields, core_name, other_field, core_at, type_at}
use Rattle.table.specs.Place.{nowhere}
use Rattle.sigmf_objects.specs.Fields as O
use Rattle.sigmf_objects.specs.Global as OG
use Rattle.sigmf_objects.specs.Capture as OC
use Rattle.sigmf_objects.specs.Capture.{is_none}
use Rattle.sigmf_objects.specs.Annotation as OA
use Rattle.claims_accepted.proofs.Tests.{or_left, or_right}
use Rattle.claims_derived.specs.Derived.{Node, Entry, kind}
use Rattle.claims_derived.specs.Rules as D
use Rattle.claims_derived.specs.Rules.{given, present, uint, text_in, is_true, is_a, value_from, value, misnamed, missing, mistyped, number_place, text_place}
use Rattle.claims_derived.proofs.ValueKinds.{type_derived, text_derived, true_derived, number_derived}
use Rattle.claims_derived.proofs.Shape.{value_as, field, as_value}

-- ---- the field with a number is the member with a name
-- a name is found at a number exactly if it is that field's name
place_at : (cs : List Core) (i : ℕ) (name : List ℕ) → i < length cs → core_name (core_at cs i) ≡ name → index_in core_name cs name ≡ i
    → (x : List ℕ) → eqb (index_in core_name cs x) i ≡ same x name
unfolding core_at
place_at cs i name h c e x = go (same x name) refl where
  go : (t : Bool) → same x name ≡ t → eqb (index_in core_name cs x) i ≡ t
  go true q = eq-eqb (index_in core_name cs x) i (ap (index_in core_name cs) (same_is x name q) ∙ e)
  go false q = ne_eqb (index_in core_name cs x) i (λ z. false≢true (sym q ∙ ap (same x) (sym c ∙ ap (λ (k : ℕ). core_name (get_or cs k other_field)) (sym z))
      ∙ index_same core_name other_field cs x (omega (arith, z))))

abbrev pub At : List Core → ℕ → String → Type 0
At cs i name = (x : List ℕ) → eqb (index_in core_name cs x) i ≡ same x (ascii name)

cond_as : {t u : Bool} → t ≡ u → (n : Node) (z : Option Node) → cond t (some (value_as n)) (as_value z) ≡ as_value (cond u (some n) z)
cond_as {t} e n z = rw (← e) (go t) where
  go : (t : Bool) → cond t (some (value_as n)) (as_value z) ≡ as_value (cond t (some n) z)
  go true = refl
  go false = refl

module _ (cs : List Core) (i : ℕ) (name : String) (a : At cs i name) where
  value_from_lem : (z : Option Node) (es : List Entry) → O.value_from cs i (as_value z) (map field es) ≡ as_value (value_from (ascii name) z es)
  unfolding O.last_where value_from
  value_from_lem z [] = refl
  value_from_lem z (e ∷ es) = ap (λ (w : Option O.Value). O.value_from cs i w (map field es)) (cond_as (a e.name) e.node z) ∙ value_from_lem (cond (same e.name (ascii name)) (some e.node) z) es

  pub value_is : (es : List Entry) → O.value_in cs i (map field es) ≡ as_value (value name es)
  value_is es = value_from_lem none es

-- ---- 5, 6, 7
pub misnamed_same : (es : List Entry) → O.misnamed (map field es) ≡ misnamed es
unfolding O.misnamed misnamed any
misnamed_same [] = refl
misnamed_same (e ∷ es) = ap (λ (b : Bool). not (form_ok e.name) || b) (misnamed_same es)

pub mistyped_same : (cs : List Core) (es : List Entry) → O.mistyped cs (map field es) ≡ mistyped cs es
unfolding O.mistyped mistyped any
mistyped_same cs [] = refl
mistyped_same cs (e ∷ es) = rw (type_derived (type_at cs (index_in core_name cs e.name)) e.node.depth e.node.bytes e.node.value, mistyped_same cs es)

-- the numbers of the names that are asked for
pub record Asked : Type 0 where
  pub datatype : At global_fields 0 "core:datatype"
  pub version : At global_fields 1 "core:version"
  pub dataset : At global_fields 10 "core:dataset"
  pub channels : At global_fields 12 "core:num_channels"
  pub offset : At global_fields 13 "core:offset"
  pub trailing : At global_fields 14 "core:trailing_bytes"
  pub rate : At global_fields 15 "core:sample_rate"
  pub only : At global_fields 17 "core:metadata_only"
  pub extensions : At global_fields 19 "core:extensions"
  pub start : At capture_fields 0 "core:sample_start"
  pub header : At capture_fields 2 "core:header_bytes"
  pub datetime : At capture_fields 4 "core:datetime"
  pub note : At annotation_fields 0 "core:sample_start"
  pub count : At annotation_fields 1 "core:sample_count"
  pub label : At annotation_fields 3 "core:label"

pub asked : Asked
unfolding global_fields capture_fields annotation_fields core_at index_in same
asked = record {
  datatype = place_at global_fields 0 (ascii "core:datatype") (omega arith) refl refl;
  version = place_at global_fields 1 (ascii "core:version") (omega arith) refl refl;
  dataset = place_at global_fields 10 (ascii "core:dataset") (omega arith) refl refl;
  channels = place_at global_fields 12 (ascii "core:num_channels") (omega arith) refl refl;
  offset = place_at global_fields 13 (ascii "core:offset") (omega arith) refl refl;
  trailing = place_at global_fields 14 (ascii "core:trailing_bytes") (omega arith) refl refl;
  rate = place_at global_fields 15 (ascii "core:sample_rate") (omega arith) refl refl;
  only = place_at global_fields 17 (ascii "core:metadata_only") (omega arith) refl refl;
  extensions = place_at global_fields 19 (ascii "core:extensions") (omega arith) refl refl;
  start = place_at capture_fields 0 (ascii "core:sample_start") (omega arith) refl refl;
  header = place_at capture_fields 2 (ascii "core:header_bytes") (omega arith) refl refl;
  datetime = place_at capture_fields 4 (ascii "core:datetime") (omega arith) refl refl;
  note = place_at annotation_fields 0 (ascii "core:sample_start") (omega arith) refl refl;
  count = place_at annotation_fields 1 (ascii "core:sample_count") (omega arith) refl refl;
  label = place_at annotation_fields 3 (ascii "core:label") (omega arith) refl refl;
}

absent_is : (v : Option Node) → O.is_absent (as_value v) ≡ not (present v)
absent_is none = refl
absent_is (some n) = refl

pub missing_globals : (es : List Entry) → O.missing global_fields (map field es) ≡ missing global_fields es
unfolding O.missing_from missing any global_fields
missing_globals es =
    rw (value_is global_fields 0 "core:datatype" asked.datatype es, value_is global_fields 1 "core:version" asked.version es, absent_is (value "core:datatype" es), absent_is (value "core:version" es))

pub missing_captures : (es : List Entry) → O.missing capture_fields (map field es) ≡ missing capture_fields es
unfolding O.missing_from missing any capture_fields
missing_captures es = rw (value_is capture_fields 0 "core:sample_start" asked.start es, absent_is (value "core:sample_start" es))

pub missing_annotations : (es : List Entry) → O.missing annotation_fields (map field es) ≡ missing annotation_fields es
unfolding O.missing_from missing any annotation_fields
missing_annotations es = rw (value_is annotation_fields 0 "core:sample_start" asked.note es, absent_is (value "core:sample_start" es))

-- ---- where 7 does not hold, the values of known fields have their types
abbrev pub Typed : FieldType → Option Node → Type 0
Typed t none = Unit {0}
Typed t (some n) = is_a t (kind n) ≡ true

module _ (cs : List Core) (i : ℕ) (name : String) (a : At cs i name) where
  typed_from : (z : Option Node) (es : List Entry) → Typed (type_at cs i) z → mistyped cs es ≡ false → Typed (type_at cs i) (value_from (ascii name) z es)
  unfolding value_from mistyped any
  typed_from z [] h e = h
  typed_from z (x ∷ es) h e = typed_from (cond (same x.name (ascii name)) (some x.node) z) es (go (same x.name (ascii name)) refl) (or_right bad (mistyped cs es) e) where
    bad : Bool
    bad = not (is_a (type_at cs (index_in core_name cs x.name)) (kind x.node))

    go : (t : Bool) → same x.name (ascii name) ≡ t → Typed (type_at cs i) (cond t (some x.node) z)
    go true q =
        subst (λ (k : ℕ). is_a (type_at cs k) (kind x.node) ≡ true) (eqb-true (index_in core_name cs x.name) i (a x.name ∙ q))
        (not-false _ (or_left bad (mistyped cs es) e))
    go false q = h

  pub typed : (es : List Entry) → mistyped cs es ≡ false → Typed (type_at cs i) (value name es)
  typed es e = typed_from none es tt e

-- ---- what a value says
text_given : {A : Type 0} (f : List ℕ → A) (y : A) (v : Option Node) → Typed T.Text v
    → O.given y (λ w. f (decoded_from w.part 1)) (as_value v) ≡ given y (λ n. f (text_in (kind n))) v
text_given f y none h = refl
text_given f y (some n) h = ap f (text_derived n.depth n.bytes n.value h)

pub uint_given : (z : ℕ) (v : Option Node) → O.uint_or z (as_value v) ≡ D.uint_or z v
uint_given z none = refl
uint_given z (some n) = number_derived n.depth n.bytes n.value

count_given_lem : (v : Option Node) → OA.count_in (as_value v) ≡ given None (λ n. Some (given 0 (λ k. k) (uint (kind n)))) v
count_given_lem none = refl
count_given_lem (some n) = ap Some (number_derived n.depth n.bytes n.value)

-- ---- 8 to 11, 14, and the numbers: of the members es of global, where 7 does not hold
module _ (es : List Entry) (ok : mistyped global_fields es ≡ false) where
  text_version : Typed T.Text (value "core:version" es)
  unfolding type_at core_at global_fields
  text_version = typed global_fields 1 "core:version" asked.version es ok

  text_datatype : Typed T.Text (value "core:datatype" es)
  unfolding type_at core_at global_fields
  text_datatype = typed global_fields 0 "core:datatype" asked.datatype es ok

  pub array_extensions : Typed T.Array (value "core:extensions" es)
  unfolding type_at core_at global_fields
  array_extensions = typed global_fields 19 "core:extensions" asked.extensions es ok

  version_given : (v : Option Node) → Typed T.Text v → OG.is_other_version (as_value v) ≡ not (same (D.text_or [] v) (ascii "1.0.0"))
  unfolding same
  version_given none h = refl
  version_given (some n) h = ap (λ (x : List ℕ). not (same x (ascii "1.0.0"))) (text_derived n.depth n.bytes n.value h)

  pub version_same : OG.other_version (map field es) ≡ D.other_version es
  unfolding OG.other_version D.other_version index_in same global_fields
  version_same = rw (value_is global_fields 1 "core:version" asked.version es) (version_given (value "core:version" es) text_version)

  code_given : (v : Option Node) → Typed T.Text v → OG.datatype_code (as_value v) ≡ code_of (D.text_or [] v)
  unfolding datatypes twelve index_in same
  code_given none h = refl
  code_given (some n) h = ap code_of (text_derived n.depth n.bytes n.value h)

  pub code_same : OG.datatype_code (O.value_in global_fields 0 (map field es)) ≡ D.datatype_code es
  code_same = rw (value_is global_fields 0 "core:datatype" asked.datatype es) (code_given (value "core:datatype" es) text_datatype)

  pub datatype_same : OG.other_datatype (map field es) ≡ D.other_datatype es
  unfolding OG.other_datatype D.other_datatype index_in same global_fields
  datatype_same = ap (λ (c : ℕ). not (is_listed c)) code_same

  uint_same : (i : ℕ) (name : String) → At global_fields i name → (z : ℕ) → O.uint_or z (O.value_in global_fields i (map field es)) ≡ D.uint_or z (value name es)
  uint_same i name a z = ap (O.uint_or z) (value_is global_fields i name a es) ∙ uint_given z (value name es)

  pub channels_same : OG.bad_channels (map field es) ≡ D.bad_channels es
  unfolding OG.bad_channels D.bad_channels index_in same global_fields
  channels_same = ap (λ (c : ℕ). not (within 1 channels c)) (uint_same 12 "core:num_channels" asked.channels 1)

  lacks : (v w : Option Node) → OG.lacks_dataset (as_value v) (as_value w) ≡ given false (λ n. is_true (kind n) || present w) v
  lacks none w = refl
  lacks (some n) w = rw (true_derived n.depth n.bytes n.value) (go w) where
    go : (w : Option Node) → (is_true (kind n) || not (O.is_absent (as_value w))) ≡ (is_true (kind n) || present w)
    go none = refl
    go (some m) = refl

  pub dataset_same : OG.no_dataset (map field es) ≡ D.no_dataset es
  unfolding OG.no_dataset D.no_dataset index_in same global_fields
  dataset_same =
      rw (value_is global_fields 17 "core:metadata_only" asked.only es, value_is global_fields 10 "core:dataset" asked.dataset es)
      (lacks (value "core:metadata_only" es) (value "core:dataset" es))

  rate_given : (v : Option Node) → OG.rate_place (as_value v) ≡ given nowhere number_place v
  rate_given none = refl
  rate_given (some n) = refl

  pub globals_same : OG.globals_in (map field es) ≡ D.globals_in es
  unfolding index_in same global_fields
  globals_same =
      rw (
        code_same,
        uint_same 12 "core:num_channels" asked.channels 1,
        uint_same 13 "core:offset" asked.offset 0,
        uint_same 14 "core:trailing_bytes" asked.trailing 0,
        value_is global_fields 15 "core:sample_rate" asked.rate es,
        rate_given (value "core:sample_rate" es),
      )

-- of the members es of a capture
pub datetime_same : (es : List Entry) → mistyped capture_fields es ≡ false → OC.bad_datetime (map field es) ≡ D.bad_datetime es
unfolding OC.bad_datetime D.bad_datetime type_at core_at capture_fields index_in same
datetime_same es ok =
    rw (value_is capture_fields 4 "core:datetime" asked.datetime es)
    (text_given (λ x. is_none (datetime_of x)) false (value "core:datetime" es) (typed capture_fields 4 "core:datetime" asked.datetime es ok))

pub capture_same : (es : List Entry) → OC.capture_in (map field es) ≡ D.capture_in es
unfolding index_in same capture_fields
capture_same es =
    rw (
      value_is capture_fields 0 "core:sample_start" asked.start es,
      value_is capture_fields 2 "core:header_bytes" asked.header es,
      uint_given 0 (value "core:sample_start" es),
      uint_given 0 (value "core:header_bytes" es),
    )

text_place_given : (v : Option Node) → OA.raw_text_place (as_value v) ≡ given nowhere text_place v
text_place_given none = refl
text_place_given (some n) = refl

-- of an annotation
pub annotation_same : (es : List Entry) → OA.annotation_in (map field es) ≡ D.annotation_in es
unfolding index_in same annotation_fields
annotation_same es =
    rw (
      value_is annotation_fields 0 "core:sample_start" asked.note es,
      value_is annotation_fields 1 "core:sample_count" asked.count es,
      value_is annotation_fields 3 "core:label" asked.label es,
      uint_given 0 (value "core:sample_start" es),
      count_given_lem (value "core:sample_count" es),
      text_place_given (value "core:label" es),
    )
