-- The P lines hold of the definitions.
use Rattle.std.specs.Prelude.{Some}
use Prim.Native.Nat.{ℕ}
use mathlib.Core.Path.{◌≡◌, refl, ap, ◌∙◌}
use mathlib.Core.Bool.{Bool, true, false, cond, ◌||◌}
use mathlib.Core.List.{List, [], ◌∷◌, ◌++◌}
use lib.ListN.{length}
use lib.Dec.{eqb, ltb}
use borrow.Author.Tests.{eq-eqb}
use Rattle.limits.specs.Limits.{metadata, dataset, nesting}
use Rattle.json_blocks.specs.Group.{after_item, colon_at}
use Rattle.json_tokens.specs.MemberName.{name_at}
use Rattle.json_tokens.specs.Number.{digits_at, integer_at, fraction_at, exponent_at, skip_minus, number_at}
use Rattle.json_blocks.specs.Turns.{run_turns, run_text}
use Rattle.json_characters.specs.String.{short_escape, escape_at, character_at, string_turn, string_at}
use Rattle.json_blocks.specs.TextBytes.{within, blank, skip_turn, skip_while, byte_within}
use Rattle.json_blocks.specs.Lists.{all, any, number_from}
use Rattle.json_grammar.specs.ByPlace.{item_turn, items_at, group_at, member_at, any_value_at, value_at, is_json}
use Rattle.json_grammar.specs.Skip.{skip_string_turn, skip_string, token_byte}
use Rattle.json_strings.specs.Decode.{unit_at, decoded_units, decoded_from}
use Rattle.json_strings.specs.Utf8.{utf8}
use Rattle.json_names.specs.Same.{same}
use Rattle.json_walk.specs.Gather.{gather_steps, gather}
use Rattle.json_walk.specs.Members.{next_item}
use Rattle.json_judge.specs.MemberNames.{has_name, repeated, bad_names}
use Rattle.sigmf_datatypes.specs.Datatypes.{twelve, datatypes, is_listed, datatype_of, width_of}
use Rattle.sigmf_texts.specs.Form.{name_byte, namespace_byte, namespace_of, after_colon, form_ok, form_of}
use Rattle.sigmf_texts.specs.FormCode.{past_space}
use Rattle.sigmf_texts.specs.Lookup.{index_in}
use Rattle.sigmf_names.specs.Names.{global_fields, capture_fields, annotation_fields, core_at, type_at}
use Rattle.sigmf_values.specs.Values.{is_uint, uint_of, has_type}
use Rattle.refusals.specs.Refusals.{Rule, rule, lowest}
use Rattle.refusals.proofs.RuleLaws.{rising, skip, lowest_then}
use Rattle.table.specs.declared.Summary.{Summary}
use Rattle.table.specs.Memory.{written, row}
use Rattle.table.specs.Rows.{capture_numbers, annotation_numbers, capture_at, annotation_at, rows_from, flat, Table, table}
use Rattle.table.specs.Place.{ends_within}
use Rattle.table.specs.Table.{all_like, captures_obey, annotations_obey, all_texts, no_table, texts_ok, format_ok, counts_ok, sizes_ok, rows_ok, well_formed}
use Rattle.table.specs.Samples.{header_sum, headers_to, place as placeTable, next_start, capture_rows, ascending_from, all_entries, all_notes}
use Rattle.table_cuts.specs.Cut.{kept, cut_summary, cut, cut_answer}
use Rattle.table_pieces.specs.Pieces.{put, runs, inside, pieces_answer}
use Rattle.reader_layout.specs.Layout.{Contents, sample_rules, summary_or, captures_in, annotations_in, samples_in, unordered, not_whole, index_outside, summary_in, too_many}
use Rattle.sigmf_objects.specs.Fields.{last_where, misnamed, missing_from, mistyped}
use Rattle.sigmf_objects.specs.Capture.{bad_datetime}
use Rattle.sigmf_objects.specs.Global.{other_version, other_datatype, bad_channels, bad_extension, needs_extension, no_dataset}
use Rattle.reader.specs.File.{File, top_at, all_objects, file_of, contents_of}
use Rattle.reader.specs.Reading.{not_json, bad_members, contents, bad_length, misshapen, object_rules, read_rules, read_refusal, read_answer, captures_read, annotations_read}
use Rattle.table.specs.Summary.{summary_numbers}
use Rattle.claims.specs.Marked.{metadata_with, with_count, nested, captures_lent, annotations_lent, answer, capture_memory, annotation_memory, pieces_lent, reads, gives, pieces, cuts, of_recording, marked, all_hold}
use Rattle.claims.proofs.Computing.{strictly, open_steps, value_end, next_member, next_element, members_of, elements_of, bad_by, misshapen_by, file_by, bad_is, misshapen_is, file_is}

-- ---- the rules on what the text says, then those on samples and room
abbrev early : List ℕ → Bool → Bool → File → List Rule
early s bad shape f = rule 2 (not_json s) ∷ rule 3 bad ∷ rule 4 shape ∷ object_rules s f

abbrev later : Contents → ℕ → List ℕ → List ℕ → List Rule
later k d caps notes = sample_rules k d ++ (rule 20 (too_many k caps notes) ∷ [])

-- a text of the contents k, by the walks that compute
abbrev computed : List ℕ → File
computed s = file_by s (members_of s) (elements_of s)

record Says (s : List ℕ) (k : Contents) : Type 0 where
  long : eqb (length s) 0 || ltb metadata (length s) ≡ false
  good : lowest (early s (bad_by s (members_of s) (elements_of s) nesting (top_at s)) (misshapen_by s (members_of s) (elements_of s)) (computed s)) ≡ 0
  said : contents_of (computed s) ≡ k

module _ (s : List ℕ) (k : Contents) (S : Says s k) where
  is_good : lowest (early s (bad_members s) (misshapen s) (file_of s)) ≡ 0
  is_good = rw (bad_is s nesting (top_at s), misshapen_is s, file_is s) S.good

  contents_are : contents s ≡ k
  contents_are = rw (file_is s) S.said

  module _ (d : ℕ) (small : ltb dataset d ≡ false) (caps notes : List ℕ) where
    fits : bad_length s d ≡ false
    unfolding bad_length
    fits = rw (S.long, small)

    refusal_is : read_refusal s d caps notes ≡ lowest (later k d caps notes)
    unfolding read_refusal read_rules rising
    refusal_is =
        skip 1 (bad_length s d) _ fits ∙ lowest_then 1 (early s (bad_members s) (misshapen s) (file_of s)) (later (contents s) d caps notes) refl is_good
        ∙ ap (λ (c : Contents). lowest (later c d caps notes)) contents_are

    answer_is : read_answer s d caps notes ≡ summary_or (lowest (later k d caps notes)) k d
    unfolding read_answer
    answer_is = rw (refusal_is, contents_are)

    captures_are : captures_read s d caps notes ≡ cond (eqb (lowest (later k d caps notes)) 0) (written (flat capture_numbers (captures_in k d)) caps) caps
    unfolding captures_read
    captures_are = rw (refusal_is, contents_are)

    annotations_are : annotations_read s d caps notes ≡ cond (eqb (lowest (later k d caps notes)) 0) (written (flat annotation_numbers (annotations_in k d)) notes) notes
    unfolding annotations_read
    annotations_are = rw (refusal_is, contents_are)

-- ---- 01's recording, with the count n of its annotation and the place of the label
abbrev recording : ℕ → ℕ → Contents
recording n label = record {
  globals = record { datatype = 16; channels = 1; offset = 0; trailing = 0; rate = record { at = 0; len = 0 } };
  captures = record { start = 0; header = 0 } ∷ record { start = 10; header = 8 } ∷ [];
  annotations = record { start = 4; count = Some n; texts = record { label = record { at = label; len = 29 } } } ∷ [];
}

-- the texts of the P lines
record Texts : Type 0 where
  two : Says (with_count "2") (recording 2 219)
  twenty_one : Says (with_count "21") (recording 21 220)
  twenty_two : Says (with_count "22") (recording 22 220)
  deep : Says (nested 31) (recording 2 219)
  too_deep : not_json (nested 32) ≡ true

texts : Texts
unfolding metadata_with strictly open_steps value_end next_member next_element members_of elements_of bad_by misshapen_by file_by after_item colon_at name_at digits_at integer_at fraction_at exponent_at skip_minus number_at run_turns run_text short_escape escape_at character_at string_turn string_at within blank skip_turn skip_while byte_within item_turn items_at group_at member_at any_value_at value_at is_json skip_string_turn skip_string token_byte unit_at utf8 decoded_units decoded_from same gather_steps gather next_item has_name repeated bad_names any twelve datatypes is_listed name_byte namespace_byte namespace_of after_colon form_ok form_of past_space index_in all number_from global_fields capture_fields annotation_fields core_at type_at is_uint uint_of has_type lowest bad_datetime last_where misnamed missing_from mistyped other_version other_datatype bad_channels bad_extension needs_extension no_dataset all_objects contents_of
texts = record {
  two = record { long = refl; good = refl; said = refl };
  twenty_one = record { long = refl; good = refl; said = refl };
  twenty_two = record { long = refl; good = refl; said = refl };
  deep = record { long = refl; good = refl; said = refl };
  too_deep = refl;
}

-- n samples and d bytes
abbrev summary : ℕ → ℕ → Summary
summary n d = record {
  refusal = 0;
  datatype = 16;
  channels = 1;
  width = 4;
  offset = 0;
  trailing = 0;
  samples = n;
  size = d;
  captures = 2;
  annotations = 1;
  rate = record { at = 0; len = 0 };
}

-- ---- what is read: the summary and both memories
record Reads (s : List ℕ) (d : ℕ) (t : Summary) (caps notes : List ℕ) : Type 0 where
  answered : answer s d ≡ t
  captured : capture_memory s d ≡ caps
  noted : annotation_memory s d ≡ notes

module _ (s : List ℕ) (d : ℕ) where
  abbrev reads_as : ℕ → Contents → Type 0
  reads_as n k =
      Reads s d (summary_or n k d) (cond (eqb n 0) (written (flat capture_numbers (captures_in k d)) captures_lent) captures_lent)
      (cond (eqb n 0) (written (flat annotation_numbers (annotations_in k d)) annotations_lent) annotations_lent)

  said : (k : Contents) → Says s k → ltb dataset d ≡ false → reads_as (lowest (later k d captures_lent annotations_lent)) k
  unfolding answer capture_memory annotation_memory
  said k S small = record {
    answered = answer_is s k S d small captures_lent annotations_lent;
    captured = captures_are s k S d small captures_lent annotations_lent;
    noted = annotations_are s k S d small captures_lent annotations_lent;
  }

  -- no JSON, of a good length
  not_json_lem : bad_length s d ≡ false → not_json s ≡ true → Reads s d (no_table 2) captures_lent annotations_lent
  unfolding answer capture_memory annotation_memory read_answer captures_read annotations_read
  not_json_lem e f =
      let r : read_refusal s d captures_lent annotations_lent ≡ 2 = unfold read_refusal read_rules lowest in rw (e, f) in
      record { answered = rw r; captured = rw r; noted = rw r }

record Answers : Type 0 where
  at_108 : Reads (with_count "2") 108 (summary 25 108) (0 ∷ 10 ∷ 0 ∷ 0 ∷ 10 ∷ 25 ∷ 48 ∷ 8 ∷ 7 ∷ 7 ∷ []) (4 ∷ 6 ∷ 219 ∷ 29 ∷ 7 ∷ 7 ∷ [])
  at_107 : Reads (with_count "2") 107 (no_table 16) captures_lent annotations_lent
  at_7 : Reads (with_count "2") 7 (no_table 16) captures_lent annotations_lent
  at_48 : Reads (with_count "2") 48 (summary 10 48) (0 ∷ 10 ∷ 0 ∷ 0 ∷ 10 ∷ 10 ∷ 48 ∷ 8 ∷ 7 ∷ 7 ∷ []) (4 ∷ 6 ∷ 219 ∷ 29 ∷ 7 ∷ 7 ∷ [])
  at_44 : Reads (with_count "2") 44 (no_table 17) captures_lent annotations_lent
  count_22 : Reads (with_count "22") 108 (no_table 17) captures_lent annotations_lent
  count_21 : Reads (with_count "21") 108 (summary 25 108) (0 ∷ 10 ∷ 0 ∷ 0 ∷ 10 ∷ 25 ∷ 48 ∷ 8 ∷ 7 ∷ 7 ∷ []) (4 ∷ 25 ∷ 220 ∷ 29 ∷ 7 ∷ 7 ∷ [])
  depth_33 : Reads (nested 32) 108 (no_table 2) captures_lent annotations_lent
  depth_32 : Reads (nested 31) 108 (summary 25 108) (0 ∷ 10 ∷ 0 ∷ 0 ∷ 10 ∷ 25 ∷ 48 ∷ 8 ∷ 7 ∷ 7 ∷ []) (4 ∷ 6 ∷ 219 ∷ 29 ∷ 7 ∷ 7 ∷ [])

answers : Answers
unfolding metadata_with lowest twelve datatypes datatype_of width_of flat header_sum samples_in ascending_from unordered not_whole all_entries all_notes index_outside next_start capture_rows summary_in too_many bad_length
answers = record {
  at_108 = said (with_count "2") 108 (recording 2 219) texts.two refl;
  at_107 = said (with_count "2") 107 (recording 2 219) texts.two refl;
  at_7 = said (with_count "2") 7 (recording 2 219) texts.two refl;
  at_48 = said (with_count "2") 48 (recording 2 219) texts.two refl;
  at_44 = said (with_count "2") 44 (recording 2 219) texts.two refl;
  count_22 = said (with_count "22") 108 (recording 22 220) texts.twenty_two refl;
  count_21 = said (with_count "21") 108 (recording 21 220) texts.twenty_one refl;
  depth_33 = not_json_lem (nested 32) 108 refl texts.too_deep;
  depth_32 = said (nested 31) 108 (recording 2 219) texts.deep refl;
}

-- ---- each line
same_self : (l : List ℕ) → same l l ≡ true
unfolding same
same_self [] = refl
same_self (a ∷ l) = rw (eq-eqb a a refl, same_self l)

line : (s : List ℕ) (d : ℕ) (t : Summary) (caps notes : List ℕ) → Reads s d t caps notes → reads s d (summary_numbers t) caps notes ≡ true
unfolding reads
line s d t caps notes r = rw (r.answered, r.captured, r.noted, same_self (summary_numbers t), same_self caps, same_self notes)

table_line : (f : Table → Bool) → f (table (summary 25 108) (0 ∷ 10 ∷ 0 ∷ 0 ∷ 10 ∷ 25 ∷ 48 ∷ 8 ∷ 7 ∷ 7 ∷ []) (4 ∷ 6 ∷ 219 ∷ 29 ∷ 7 ∷ 7 ∷ [])) ≡ true → of_recording f ≡ true
table_line f e = rw (answers.at_108.answered, answers.at_108.captured, answers.at_108.noted) e

-- Document 01, "How far the promises go": "The P lines are proved of the definitions as one table under a single statement".
pub marked_hold : all_hold marked ≡ true
unfolding all_hold marked gives pieces cuts same twelve datatypes is_listed datatype_of width_of row capture_at annotation_at rows_from flat header_sum headers_to placeTable next_start capture_rows ascending_from all_entries all_like captures_obey ends_within texts_ok all_notes annotations_obey all_texts format_ok counts_ok sizes_ok rows_ok well_formed kept cut_summary cut cut_answer put runs inside pieces_answer
marked_hold =
    ap all_hold (λ i.
    line _ _ _ _ _ answers.at_108 i
    ∷ line _ _ _ _ _ answers.at_107 i
    ∷ line _ _ _ _ _ answers.at_7 i
    ∷ line _ _ _ _ _ answers.at_48 i
    ∷ line _ _ _ _ _ answers.at_44 i
    ∷ table_line (pieces 4 12 0 2 (16 ∷ 24 ∷ 48 ∷ 8 ∷ 7 ∷ 7 ∷ [])) refl i
    ∷ table_line (pieces 0 10 0 1 (0 ∷ 40 ∷ 7 ∷ 7 ∷ 7 ∷ 7 ∷ [])) refl i
    ∷ table_line (pieces 25 25 0 0 pieces_lent) refl i
    ∷ table_line (pieces 25 26 19 0 pieces_lent) refl i
    ∷ table_line (cuts 4 12 (0 ∷ 16 ∷ 1 ∷ 4 ∷ 4 ∷ 0 ∷ 8 ∷ 32 ∷ 2 ∷ 1 ∷ 0 ∷ 0 ∷ []) (4 ∷ 10 ∷ 0 ∷ 0 ∷ 10 ∷ 12 ∷ 24 ∷ 0 ∷ 7 ∷ 7 ∷ []) (4 ∷ 6 ∷ 219 ∷ 29 ∷ 7 ∷ 7 ∷ [])) refl i
    ∷ line _ _ _ _ _ answers.count_22 i
    ∷ line _ _ _ _ _ answers.count_21 i
    ∷ line _ _ _ _ _ answers.depth_33 i
    ∷ line _ _ _ _ _ answers.depth_32 i
    ∷ [])

-- Document 01, "How far the promises go": neither "refusing everything, or one fixed answer"
pub some_accepted : ((answer (with_count "2") 108).refusal ≡ 0) × ((answer (with_count "2") 107).refusal ≡ 16)
some_accepted = (ap (λ (t : Summary). t.refusal) answers.at_108.answered, ap (λ (t : Summary). t.refusal) answers.at_107.answered)
