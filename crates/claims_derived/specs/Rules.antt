-- Document 01's refusals 3 to 17, 9 with request P4's list and 13 as request P3 amends it, and the numbers of the table, said of a derivation t of the text by ECMA-404's grammar.
use Rattle.std.specs.Prelude.{Bool, true, false, cond, not, ◌&&◌, ◌||◌, List, [], ◌∷◌, map, ℕ, zero, suc, ◌+◌, ◌-◌, ◌^◌, length, eqb, ltb, None, Some}
use Rattle.std.proofs.Math.Option.{Option, none, some}
use Prim.Native.String.{String}
use Rattle.limits.specs.Limits.{nesting, channels}
use Rattle.json_blocks.specs.TextBytes.{ascii, within}
use Rattle.json_blocks.specs.Lists.{any, all}
use Rattle.json_grammar.specs.Grammar.{Text}
use Rattle.json_names.specs.Same.{same}
use Rattle.json_judge.specs.MemberNames.{bad_names}
use Rattle.sigmf_datatypes.specs.Datatypes.{is_listed}
use Rattle.sigmf_texts.specs.Lookup.{index_in}
use Rattle.sigmf_texts.specs.Texts.{code_of}
use Rattle.sigmf_texts.specs.Form.{form_ok}
use Rattle.sigmf_datetimes.specs.Datetimes.{datetime_of}
use Rattle.sigmf_values.specs.declared.FieldType.{FieldType}
use Rattle.sigmf_values.specs.declared.FieldType.TheVariants as T
use Rattle.sigmf_extensions.specs.declared.Extension.{Extension}
use Rattle.sigmf_extensions.specs.declared.Extension.TheVariants as E
use Rattle.sigmf_names.specs.Names.{Core, core_name, type_at}
use Rattle.sigmf_names.specs.Names as N
use Rattle.sigmf_extensions.specs.Extensions.{needed_if}
use Rattle.refusals.specs.Refusals.{Rule, rule}
use Rattle.table.specs.declared.Place.{Place}
use Rattle.table.specs.declared.Globals.{Globals}
use Rattle.table.specs.Place.{nowhere}
use Rattle.table.specs.declared.CaptureEntry.{CaptureEntry}
use Rattle.table.specs.declared.AnnotationEntry.{AnnotationEntry}
use Rattle.reader_layout.specs.Layout.{Contents, unordered, not_whole, index_outside}
use Rattle.sigmf_objects.specs.Capture.{is_none}
use Rattle.sigmf_extensions.specs.Extensions.{is_malformed, is_needed}
use Rattle.claims_derived.specs.Derived.{Kind, object, array, number, text, boolean, null, Node, Entry, kind, node_members, node_elements, top}

-- what f says of a thing that is there, or z
abbrev pub given : {X A : Type 0} → A → (X → A) → Option X → A
given z f none = z
given z f (some x) = f x

abbrev pub present : {X : Type 0} → Option X → Bool
present x = given false (λ _. true) x

-- ---- types
-- one answer for each kind of value: an object, an array, a number, a text, a boolean, null
abbrev pub which : {A : Type 0} → A → A → (Option ℕ → A) → (List ℕ → A) → (Bool → A) → A → Kind → A
which o a n t b u object = o
which o a n t b u array = a
which o a n t b u (number w) = n w
which o a n t b u (text x) = t x
which o a n t b u (boolean c) = b c
which o a n t b u null = u

-- "A uint is digits only, as JSON writes them, at most 2^64 − 1"
abbrev pub small : ℕ → Option ℕ
small n = cond (ltb n (2 ^ 64)) (some n) none

unfoldable pub uint : Kind → Option ℕ
uint = which none none (λ w. given none small w) (λ _. none) (λ _. none) none

unfoldable pub text_in : Kind → List ℕ
text_in = which [] [] (λ _. []) (λ x. x) (λ _. []) []

unfoldable pub is_true : Kind → Bool
is_true = which false false (λ _. false) (λ _. false) (λ c. c) false

-- "`null` is never a match for a typed core field"
unfoldable pub is_a : FieldType → Kind → Bool
is_a T.Object = which true false (λ _. false) (λ _. false) (λ _. false) false
is_a T.Array = which false true (λ _. false) (λ _. false) (λ _. false) false
is_a T.Double = which false false (λ _. true) (λ _. false) (λ _. false) false
is_a T.Text = which false false (λ _. false) (λ _. true) (λ _. false) false
is_a T.Boolean = which false false (λ _. false) (λ _. false) (λ _. true) false
is_a T.Uint = λ k. present (uint k)
is_a T.Any = λ k. true

-- ---- members
-- the value of the member with a name, z if there is none; no name stands twice (3), and if one did the later would count
unfoldable pub value_from : List ℕ → Option Node → List Entry → Option Node
value_from n z [] = z
value_from n z (e ∷ es) = value_from n (cond (same e.name n) (some e.node) z) es

abbrev pub value : String → List Entry → Option Node
value n es = value_from (ascii n) none es

abbrev pub is_object : Node → Bool
is_object n = is_a T.Object (kind n)

-- ---- 3: "some object, however deep, has a name twice or over 256 members"; k is how deep
unfoldable pub bad_node : ℕ → Node → Bool
bad_node zero n = false
bad_node (suc k) n =
    bad_names (map (λ e. e.name) (node_members n)) || (any (λ e. bad_node k e.node) (node_members n) || any (bad_node k) (node_elements n))

-- ---- the parts of a text whose value is n
-- an array of objects
abbrev pub is_listing : Node → Bool
is_listing n = is_a T.Array (kind n) && all is_object (node_elements n)

-- 4: "top level not an object; `global` not an object, `captures` or `annotations` not an array, or one missing; an element of
-- either array not an object"
unfoldable pub misshapen : Node → Bool
misshapen n =
    not (is_object n && (given false is_object (value "global" (node_members n))
    && (given false is_listing (value "captures" (node_members n)) && given false is_listing (value "annotations" (node_members n)))))

-- the members of global, of each capture, of each annotation
pub record File : Type 0 where
  pub global : List Entry
  pub captures : List (List Entry)
  pub annotations : List (List Entry)

unfoldable pub file_in : Node → File
file_in n = record {
  global = given [] node_members (value "global" (node_members n));
  captures = map node_members (given [] node_elements (value "captures" (node_members n)));
  annotations = map node_members (given [] node_elements (value "annotations" (node_members n)));
}

abbrev pub in_file : (List Entry → Bool) → (List Entry → Bool) → (List Entry → Bool) → File → Bool
in_file g c a f = g f.global || any c f.captures || any a f.annotations

-- 5: "a field name in global, a capture or an annotation has the wrong form"
unfoldable pub misnamed : List Entry → Bool
misnamed es = any (λ e. not (form_ok e.name)) es

-- 6: "a required core field missing"
unfoldable pub missing : List Core → List Entry → Bool
missing cs es = any (λ c. c.required && not (present (value c.name es))) cs

-- 7: "a core field of the wrong type"; an unknown name takes any type
unfoldable pub mistyped : List Core → List Entry → Bool
mistyped cs es = any (λ e. not (is_a (type_at cs (index_in core_name cs e.name)) (kind e.node))) es

-- what a text, and what a uint says; z where it is absent
abbrev pub text_or : List ℕ → Option Node → List ℕ
text_or z v = given z (λ n. text_in (kind n)) v

abbrev pub uint_or : ℕ → Option Node → ℕ
uint_or z v = given z (λ n. given 0 (λ k. k) (uint (kind n))) v

-- 8: "`core:version` is not `1.0.0`"
unfoldable pub other_version : List Entry → Bool
other_version g = not (same (text_or [] (value "core:version" g)) (ascii "1.0.0"))

-- 9: "`core:datatype` is not in the list"
abbrev pub datatype_code : List Entry → ℕ
datatype_code g = code_of (text_or [] (value "core:datatype" g))

unfoldable pub other_datatype : List Entry → Bool
other_datatype g = not (is_listed (datatype_code g))

-- 10: "`core:num_channels` is 0 or above 1,024"; "num_channels (default 1)"
unfoldable pub bad_channels : List Entry → Bool
bad_channels g = not (within 1 channels (uint_or 1 (value "core:num_channels" g)))

-- 11: "a `core:datetime` breaks its rule"
unfoldable pub bad_datetime : List Entry → Bool
bad_datetime c = given false (λ n. is_none (datetime_of (text_in (kind n)))) (value "core:datetime" c)

-- an extension entry: "an object with exactly `name` (string), `version` (string), `optional` (boolean)"
abbrev pub has : FieldType → String → List Entry → Bool
has t n es = given false (λ m. is_a t (kind m)) (value n es)

-- request P3: "false means needed, true means it may be ignored"
unfoldable pub entry_by : List Entry → Extension
entry_by es =
    cond (eqb (length es) 3 && (has T.Text "name" es && (has T.Text "version" es && has T.Boolean "optional" es)))
    (cond (needed_if (given false (λ m. is_true (kind m)) (value "optional" es))) E.Needed E.Ignored) E.Malformed

unfoldable pub extension : Node → Extension
extension n = cond (is_object n) (entry_by (node_members n)) E.Malformed

abbrev pub extensions : List Entry → List Extension
extensions g = map extension (given [] node_elements (value "core:extensions" g))

-- 12: "an extension entry is malformed"
unfoldable pub bad_extension : List Entry → Bool
bad_extension g = any is_malformed (extensions g)

-- 13: "an extension is needed (none is known yet)"
unfoldable pub needs_extension : List Entry → Bool
needs_extension g = any is_needed (extensions g)

-- 14: "`core:metadata_only` is true, or present beside `core:dataset`"
unfoldable pub no_dataset : List Entry → Bool
no_dataset g = given false (λ n. is_true (kind n) || present (value "core:dataset" g)) (value "core:metadata_only" g)

-- ---- the numbers of the table
-- "A double is any JSON number, kept as a place in the text"
abbrev pub number_place : Node → Place
number_place n = record { at = n.at; len = length n.bytes }

-- "offset (0), trailing_bytes (0)"; "place and length of sample_rate (0, 0 if absent)"
abbrev pub globals_in : List Entry → Globals
globals_in g = record {
  datatype = datatype_code g;
  channels = uint_or 1 (value "core:num_channels" g);
  offset = uint_or 0 (value "core:offset" g);
  trailing = uint_or 0 (value "core:trailing_bytes" g);
  rate = given nowhere number_place (value "core:sample_rate" g);
}

-- "sample_start (required), .. header_bytes (0)"
abbrev pub capture_in : List Entry → CaptureEntry
capture_in c = record { start = uint_or 0 (value "core:sample_start" c); header = uint_or 0 (value "core:header_bytes" c) }

-- "place and length of the raw label between its quotes"
abbrev pub text_place : Node → Place
text_place n = record { at = n.at + 1; len = length n.bytes - 2 }

-- "0, 0 if absent"
abbrev pub annotation_in : List Entry → AnnotationEntry
annotation_in a = record {
  start = uint_or 0 (value "core:sample_start" a);
  count = given None (λ n. Some (given 0 (λ k. k) (uint (kind n)))) (value "core:sample_count" a);
  texts = record { label = given nowhere text_place (value "core:label" a) };
}

unfoldable pub contents_in : File → Contents
contents_in f = record {
  globals = globals_in f.global;
  captures = map capture_in f.captures;
  annotations = map annotation_in f.annotations;
}

-- ---- the refusals from 3 on: of a text whose value is n, beside d bytes of dataset
unfoldable pub rules_by : Node → ℕ → File → List Rule
rules_by n d f =
    rule 3 (bad_node nesting n)
    ∷ rule 4 (misshapen n)
    ∷ rule 5 (in_file misnamed misnamed misnamed f)
    ∷ rule 6 (in_file (missing N.global_fields) (missing N.capture_fields) (missing N.annotation_fields) f)
    ∷ rule 7 (in_file (mistyped N.global_fields) (mistyped N.capture_fields) (mistyped N.annotation_fields) f)
    ∷ rule 8 (other_version f.global)
    ∷ rule 9 (other_datatype f.global)
    ∷ rule 10 (bad_channels f.global)
    ∷ rule 11 (any bad_datetime f.captures)
    ∷ rule 12 (bad_extension f.global)
    ∷ rule 13 (needs_extension f.global)
    ∷ rule 14 (no_dataset f.global)
    ∷ rule 15 (unordered (contents_in f))
    ∷ rule 16 (not_whole (contents_in f) d)
    ∷ rule 17 (index_outside (contents_in f) d)
    ∷ []

abbrev pub file_of : {s : List ℕ} → Text nesting s → File
file_of t = file_in (top t)

abbrev pub rules_of : {s : List ℕ} → Text nesting s → ℕ → List Rule
rules_of t d = rules_by (top t) d (file_of t)

abbrev pub contents_of : {s : List ℕ} → Text nesting s → Contents
contents_of t = contents_in (file_of t)
