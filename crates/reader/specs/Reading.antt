-- Document 01, "Refusal numbers": reading the metadata s beside a dataset of d bytes, into lent memory.
use Rattle.std.specs.Prelude.{Bool, false, cond, not, ◌&&◌, ◌||◌, List, [], ◌∷◌, ◌++◌, ℕ, length, eqb, ltb}
use Rattle.json_blocks.specs.Lists.{any}
use Rattle.limits.specs.Limits.{metadata, dataset}
use Rattle.refusals.specs.Refusals.{Rule, rule, lowest}
pub use Rattle.json_judge.specs.Judged.{not_json, bad_members, judge_rules}
use Rattle.sigmf_names.specs.Names.{global_fields, capture_fields, annotation_fields}
use Rattle.table.specs.declared.Summary.{Summary}
use Rattle.table.specs.Memory.{written}
use Rattle.table.specs.Rows.{capture_numbers, annotation_numbers, flat, Table, table}
use Rattle.reader_layout.specs.Layout.{Contents, sample_rules, too_many, captures_in, annotations_in, summary_or}
use Rattle.sigmf_objects.specs.Fields.{Field, given, misnamed, missing, mistyped}
use Rattle.sigmf_objects.specs.Global.{other_version, other_datatype, bad_channels, bad_extension, needs_extension, no_dataset}
use Rattle.sigmf_objects.specs.Capture.{bad_datetime}
use Rattle.reader.specs.File.{File, top_at, top_member, is_object, is_listing, file_of, contents_of}

-- 1: "metadata empty or too long, or D above 2^48"
unfoldable pub bad_length : List ℕ → ℕ → Bool
bad_length s d = eqb (length s) 0 || ltb metadata (length s) || ltb dataset d

-- 2: "not one JSON value in valid UTF-8, or nested beyond 32"; 3: "some object, however deep, has a name twice or over 256 members":
-- `not_json` and `bad_members`, as the judge of the text alone has them (json_judge/specs/Judged.antt)

-- 4: "top level not an object; `global` not an object, `captures` or `annotations` not an array, or one missing; an element of
-- either array not an object"
unfoldable pub misshapen : List ℕ → Bool
misshapen s =
    not (is_object s (top_at s) && (given false (λ v. is_object s v.at) (top_member "global" s)
    && (is_listing s (top_member "captures" s) && is_listing s (top_member "annotations" s))))

-- 5, 6, 7: of the global object, or of some capture, or of some annotation
abbrev pub in_file : (List Field → Bool) → (List Field → Bool) → (List Field → Bool) → File → Bool
in_file g c a f = g f.global || any c f.captures || any a f.annotations

-- ---- the table of refusals 1 to 17: those of the whole text, those of its parts, those of what they say of samples
abbrev pub text_rules : List ℕ → ℕ → List Rule
text_rules s d = rule 1 (bad_length s d) ∷ judge_rules s

abbrev pub object_rules : List ℕ → File → List Rule
object_rules s f =
    rule 5 (in_file misnamed misnamed misnamed f)
    ∷ rule 6 (in_file (missing global_fields) (missing capture_fields) (missing annotation_fields) f)
    ∷ rule 7 (in_file (mistyped global_fields) (mistyped capture_fields) (mistyped annotation_fields) f)
    ∷ rule 8 (other_version f.global)
    ∷ rule 9 (other_datatype f.global)
    ∷ rule 10 (bad_channels f.global)
    ∷ rule 11 (any bad_datetime f.captures)
    ∷ rule 12 (bad_extension s f.global)
    ∷ rule 13 (needs_extension s f.global)
    ∷ rule 14 (no_dataset f.global)
    ∷ []

abbrev pub part_rules : List ℕ → File → List Rule
part_rules s f = rule 4 (misshapen s) ∷ object_rules s f

abbrev pub contents : List ℕ → Contents
contents s = contents_of (file_of s)

unfoldable pub read_rules : List ℕ → ℕ → List Rule
read_rules s d = text_rules s d ++ (part_rules s (file_of s) ++ sample_rules (contents s) d)

-- without rows: refusals 1 to 17
unfoldable pub judged_recording : List ℕ → ℕ → Summary
judged_recording s d = summary_or (lowest (read_rules s d)) (contents s) d

-- with rows: 20 as well
unfoldable pub read_refusal : List ℕ → ℕ → List ℕ → List ℕ → ℕ
read_refusal s d caps notes = lowest (read_rules s d ++ (rule 20 (too_many (contents s) caps notes) ∷ []))

unfoldable pub read_answer : List ℕ → ℕ → List ℕ → List ℕ → Summary
read_answer s d caps notes = summary_or (read_refusal s d caps notes) (contents s) d

-- what the lent memory holds afterwards
unfoldable pub captures_read : List ℕ → ℕ → List ℕ → List ℕ → List ℕ
captures_read s d caps notes = cond (eqb (read_refusal s d caps notes) 0) (written (flat capture_numbers (captures_in (contents s) d)) caps) caps

unfoldable pub annotations_read : List ℕ → ℕ → List ℕ → List ℕ → List ℕ
annotations_read s d caps notes = cond (eqb (read_refusal s d caps notes) 0) (written (flat annotation_numbers (annotations_in (contents s) d)) notes) notes

-- the table that the reader leaves
abbrev pub table_read : List ℕ → ℕ → List ℕ → List ℕ → Table
table_read s d caps notes = table (read_answer s d caps notes) (captures_read s d caps notes) (annotations_read s d caps notes)
