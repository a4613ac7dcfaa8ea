-- An accepted recording is a well-formed table, whose rows are those that its metadata give.
use Prim.Native.Nat.{ℕ, ◌+◌, ◌-◌, ◌≤◌}
use mathlib.Core.Path.{◌≡◌, refl, sym, ◌∙◌}
use mathlib.Core.Bool.{Bool, true, false, cond, not, ◌||◌, false≢true}
use mathlib.Core.List.{List, [], ◌∷◌, ◌++◌, map}
use mathlib.Core.Option.{Option, none, some}
use native.Mathlib.Omega.{arith}
use lib.ListN.{length, drop, length-take, length-drop}
use lib.Dec.{eqb, ltb}
use borrow.Author.Tests.{le-leb, ltb-false, eqb-true}
use Rattle.limits.specs.Limits.{metadata, dataset, channels}
use Rattle.json_blocks.specs.TextBytes.{within}
use Rattle.json_blocks.specs.Lists.{any}
use Rattle.refusals.specs.Refusals.{rule, lowest}
use Rattle.refusals.proofs.RuleLaws.{rising, condition, unheld}
use Rattle.json_walk.specs.declared.Member.{Member}
use Rattle.json_walk.specs.declared.Element.{Element}
use Rattle.json_walk.specs.Members.{members_at}
use Rattle.sigmf_datatypes.specs.Datatypes.{is_listed}
use Rattle.json_names.specs.Same.{same}
use Rattle.sigmf_texts.specs.Lookup.{index_in}
use Rattle.sigmf_values.specs.Values.{part_of, has_type}
use Rattle.sigmf_names.specs.Names.{Core, global_fields, capture_fields, annotation_fields, core_at, type_at}
use Rattle.sigmf_extensions.specs.Extensions.{member_value}
use Rattle.table.specs.Memory.{written}
use Rattle.table.specs.Rows.{capture_numbers, annotation_numbers, flat, captures_of, annotations_of}
use Rattle.table.specs.Place.{ends_within}
use Rattle.table.specs.Table.{no_table, texts_ok, well_formed}
use Rattle.reader_layout.specs.Layout.{Contents, unordered, not_whole, index_outside, too_many, captures_in, annotations_in, summary_in, summary_or, layout_refusal, layout_answer, captures_after, annotations_after}
use Rattle.reader_layout.specs.Claim.{entry_texts_ok, places_ok, LaidOut}
use Rattle.reader_layout.proofs.Theorem.{laid_out_lem}
use Rattle.sigmf_objects.specs.Fields.{Value, field_of, fields_at, last_where, value_from, given, mistyped}
use Rattle.sigmf_objects.specs.Global.{in_global, other_datatype, bad_channels, rate_place}
use Rattle.sigmf_objects.specs.Annotation.{in_annotation, annotation_in, raw_text_place}
use Rattle.reader.specs.File.{top_member, elements_in, file_of, contents_of}
use Rattle.reader.specs.Reading.{bad_length, not_json, misshapen, in_file, read_rules, contents, judged_recording, read_refusal, read_answer, captures_read, annotations_read, table_read}
use Rattle.claims_accepted.proofs.Tests.{or_left, or_right, and_true}
use Rattle.claims_accepted.proofs.ValueLaws.{each_all, values_hold}

-- ---- the number of an answer is the refusal
pub or_number : (n : ℕ) (k : Contents) (d : ℕ) → (summary_or n k d).refusal ≡ n
unfolding summary_in
or_number n k d = go (eqb n 0) refl
  where
    go : (b : Bool) → eqb n 0 ≡ b → (cond b (summary_in k d) (no_table n)).refusal ≡ n
    go true e = sym (eqb-true n 0 e)
    go false e = refl

pub read_number : (s : List ℕ) (d : ℕ) (caps notes : List ℕ) → (read_answer s d caps notes).refusal ≡ read_refusal s d caps notes
unfolding read_answer
read_number s d caps notes = or_number (read_refusal s d caps notes) (contents s) d

pub judged_number : (s : List ℕ) (d : ℕ) → (judged_recording s d).refusal ≡ lowest (read_rules s d)
unfolding judged_recording
judged_number s d = or_number (lowest (read_rules s d)) (contents s) d

-- ---- text places
-- a part with a byte lies inside the text
part_inside : (s : List ℕ) (at e : ℕ) → 1 ≤ length (part_of s at e) → at + length (part_of s at e) ≤ length s
part_inside s at e h = omega (arith, h, length-take (e - at) (drop at s), length-drop at s)

-- a value that is there has a byte and ends within n bytes
abbrev Inside : ℕ → Option Value → Type 0
Inside n none = Unit {0}
Inside n (some v) = (1 ≤ length v.part) × (v.at + length v.part ≤ n)

-- field i, of a type whose values have a byte
values_inside : (s : List ℕ) (cs : List Core) (i : ℕ) → ((p : List ℕ) → has_type (type_at cs i) p ≡ true → 1 ≤ length p) → (ms : List Member)
    → mistyped cs (map (field_of s) ms) ≡ false → Inside (length s) (value_from cs i none (map (field_of s) ms))
values_inside s cs i byte ms t =
    values_hold s cs i (Inside (length s)) (λ m. Unit {0}) (λ m q e. let h = byte (member_value s m) e in (h, part_inside s m.value m.end h)) none ms tt
    (each_all (λ m. Unit {0}) (λ m. tt) ms) t

double_byte : (p : List ℕ) → has_type (type_at global_fields 15) p ≡ true → 1 ≤ length p
unfolding has_type type_at core_at global_fields within
double_byte [] e = absurd (false≢true e)
double_byte (b ∷ t) e = omega arith

text_byte : (p : List ℕ) → has_type (type_at annotation_fields 3) p ≡ true → 1 ≤ length p
unfolding has_type type_at core_at annotation_fields
text_byte [] e = absurd (false≢true e)
text_byte (b ∷ t) e = omega arith

module _ (n : ℕ) (h : n ≤ metadata) where
  rate_ok_lem : (v : Option Value) → Inside n v → ends_within (rate_place v) ≡ true
  unfolding ends_within
  rate_ok_lem none i = refl
  rate_ok_lem (some v) i = le-leb (v.at + length v.part) metadata (omega (arith, h, i.1))

  label_ok_lem : (v : Option Value) → Inside n v → ends_within (raw_text_place v) ≡ true
  unfolding ends_within
  label_ok_lem none i = refl
  label_ok_lem (some v) i = le-leb (v.at + 1 + (length v.part - 2)) metadata (omega (arith, h, i.0, i.1))

module _ (s : List ℕ) (h : length s ≤ metadata) where
  rate_inside : (o : Option Value) → mistyped global_fields (given [] (λ v. fields_at s v.at) o) ≡ false
      → Inside (length s) (in_global "core:sample_rate" (given [] (λ v. fields_at s v.at) o))
  unfolding index_in same global_fields
  rate_inside none t = unfold last_where in tt
  rate_inside (some v) t = values_inside s global_fields 15 double_byte (members_at s v.at) t

  labels_ok_lem : (es : List Element) → any (mistyped annotation_fields) (map (λ e. fields_at s e.at) es) ≡ false
      → entry_texts_ok (map annotation_in (map (λ e. fields_at s e.at) es)) ≡ true
  unfolding any entry_texts_ok texts_ok index_in same annotation_fields
  labels_ok_lem [] t = refl
  labels_ok_lem (e ∷ es) t =
      let a = mistyped annotation_fields (fields_at s e.at) in
      let b = any (mistyped annotation_fields) (map (λ e. fields_at s e.at) es) in
      and_true _ _ (label_ok_lem (length s) h (in_annotation "core:label" (fields_at s e.at)) (values_inside s annotation_fields 3 text_byte (members_at s e.at) (or_left a b t)))
      (labels_ok_lem es (or_right a b t))

  -- "text places end within 61,440"
  places_ok_lem : mistyped global_fields (file_of s).global ≡ false → any (mistyped annotation_fields) (file_of s).annotations ≡ false → places_ok (contents s) ≡ true
  unfolding places_ok contents_of file_of
  places_ok_lem g a = and_true _ _ (rate_ok_lem (length s) h (in_global "core:sample_rate" _) (rate_inside (top_member "global" s) g)) (labels_ok_lem (elements_in s (top_member "annotations" s)) a)

-- ---- what acceptance tells
pub record Passed (s : List ℕ) (d : ℕ) (caps notes : List ℕ) : Type 0 where
  long : bad_length s d ≡ false
  pub json : not_json s ≡ false
  pub shape : misshapen s ≡ false
  pub types : in_file (mistyped global_fields) (mistyped capture_fields) (mistyped annotation_fields) (file_of s) ≡ false
  datatype : other_datatype (file_of s).global ≡ false
  few : bad_channels (file_of s).global ≡ false
  order : unordered (contents s) ≡ false
  whole : not_whole (contents s) d ≡ false
  inner : index_outside (contents s) d ≡ false
  room : too_many (contents s) caps notes ≡ false

module _ (s : List ℕ) (d : ℕ) (caps notes : List ℕ) where
  pub passes : read_refusal s d caps notes ≡ 0 → Passed s d caps notes
  unfolding read_refusal read_rules rising condition
  passes e =
      let no = unheld 0 (read_rules s d ++ (rule 20 (too_many (contents s) caps notes) ∷ [])) refl e in
      record { long = no 1; json = no 2; shape = no 4; types = no 7; datatype = no 9; few = no 10; order = no 15; whole = no 16; inner = no 17; room = no 20 }

layout_zero : (k : Contents) (d : ℕ) (caps notes : List ℕ) → ltb dataset d ≡ false → not (is_listed k.globals.datatype) ≡ false
    → not (within 1 channels k.globals.channels) ≡ false → unordered k ≡ false → not_whole k d ≡ false → index_outside k d ≡ false → too_many k caps notes ≡ false
    → layout_refusal k d caps notes ≡ 0
unfolding layout_refusal lowest
layout_zero k d caps notes a b c e f g h = rw (a, b, c, e, f, g, h)

module _ (s : List ℕ) (d : ℕ) (caps notes : List ℕ) (z : (read_answer s d caps notes).refusal ≡ 0) where
  zero_is : read_refusal s d caps notes ≡ 0
  zero_is = sym (read_number s d caps notes) ∙ z

  P : Passed s d caps notes
  P = passes s d caps notes zero_is

  small : ltb dataset d ≡ false
  unfolding bad_length
  small = or_right (eqb (length s) 0 || ltb metadata (length s)) (ltb dataset d) P.long

  laid_zero : layout_refusal (contents s) d caps notes ≡ 0
  laid_zero =
      layout_zero (contents s) d caps notes small (unfold other_datatype contents_of in P.datatype)
      (unfold bad_channels contents_of in P.few) P.order P.whole P.inner P.room

  short : length s ≤ metadata
  unfolding bad_length
  short = ltb-false metadata (length s) (or_right (eqb (length s) 0) (ltb metadata (length s)) (or_left (eqb (length s) 0 || ltb metadata (length s)) (ltb dataset d) P.long))

  laid : LaidOut (contents s) d caps notes
  laid =
      let g = mistyped global_fields (file_of s).global in
      let c = any (mistyped capture_fields) (file_of s).captures in
      let a = any (mistyped annotation_fields) (file_of s).annotations in
      laid_out_lem (contents s) d caps notes laid_zero (places_ok_lem s short (or_left g c (or_left (g || c) a P.types)) (or_right (g || c) a P.types))

  -- the layout's answer and memories are the reader's
  pub answer_same : layout_answer (contents s) d caps notes ≡ read_answer s d caps notes
  unfolding layout_answer read_answer
  answer_same = rw (laid_zero, zero_is)

  pub captures_same : captures_after (contents s) d caps notes ≡ captures_read s d caps notes
  unfolding captures_after captures_read
  captures_same = rw (laid_zero, zero_is)

  pub annotations_same : annotations_after (contents s) d caps notes ≡ annotations_read s d caps notes
  unfolding annotations_after annotations_read
  annotations_same = rw (laid_zero, zero_is)

  -- the table is well formed
  pub accepted_formed : well_formed (table_read s d caps notes) ≡ true
  accepted_formed = rw (answer_same, captures_same, annotations_same) at laid.table

  pub accepted_laid : LaidOut (contents s) d caps notes
  accepted_laid = laid

  -- the summary and rows are those that the metadata give, from the front of the lent memory
  pub summary_is : read_answer s d caps notes ≡ summary_in (contents s) d
  summary_is = sym answer_same ∙ laid.answer

  pub captures_are : captures_of (table_read s d caps notes) ≡ captures_in (contents s) d
  captures_are = rw (← answer_same, ← captures_same) laid.capture_rows

  pub annotations_are : annotations_of (table_read s d caps notes) ≡ annotations_in (contents s) d
  annotations_are = rw (← answer_same, ← annotations_same) laid.annotation_rows

  pub captures_written_lem : captures_read s d caps notes ≡ written (flat capture_numbers (captures_of (table_read s d caps notes))) caps
  captures_written_lem = rw captures_are (unfold captures_read in rw zero_is)

  pub annotations_written : annotations_read s d caps notes ≡ written (flat annotation_numbers (annotations_of (table_read s d caps notes))) notes
  annotations_written = rw annotations_are (unfold annotations_read in rw zero_is)
