-- Demand 2: a recording is accepted exactly when the rules hold, and its table holds exactly the rows they give. s is the metadata, d the length
-- of the dataset, caps and notes the memory lent for rows. `Text nesting s` derives s by the grammar of ECMA-404, nested at most 32 deep;
-- what a derivation says, and the refusals from 3 on over it, stand in crates/claims_derived/specs.
use Rattle.std.specs.Prelude.{◌≡◌, ◌↔◌, true, false, List, [], ◌∷◌, ◌++◌, ℕ, suc, ◌+◌, ◌<◌, length, get_or}
use Rattle.std.proofs.Math.Option.{Option, none, some}
use Rattle.limits.specs.Limits.{nesting}
use Rattle.json_grammar.specs.Grammar.{Number, Text}
use Rattle.json_strings.specs.Meaning.{Means}
use Rattle.json_strings.specs.Utf8.{Utf8}
use Rattle.refusals.specs.Refusals.{Rule, rule, ByRules}
use Rattle.table.specs.declared.Place.{Place}
use Rattle.table.specs.declared.Capture.{Capture}
use Rattle.table.specs.declared.Summary.{Summary}
use Rattle.table.specs.Place.{nowhere}
use Rattle.table.specs.Memory.{written}
use Rattle.table.specs.Rows.{capture_of, capture_numbers, annotation_numbers, capture_at, annotation_at, flat, table, captures_of, annotations_of}
use Rattle.table.specs.Table.{no_table}
use Rattle.reader_layout.specs.Layout.{end_index, too_many, summary_in, captures_in}
use Rattle.table.specs.Samples.{annotation_row}
use Rattle.reader.specs.Reading.{bad_length, judged_recording, read_answer, captures_read, annotations_read}
use Rattle.listing_labels.specs.Text.{part}
use Rattle.claims_derived.specs.Derived.{Node, Here, Entry, kind}
use Rattle.claims_derived.specs.Rules.{text_in, value, annotation_in, number_place, rules_of, file_of, contents_of}

-- ---- "exactly when": the number n of an answer; the rules from 3 on are those of a derivation
pub record Numbered (s : List ℕ) (d n : ℕ) (rules : Text nesting s → List Rule) : Type 0 where
  -- 1: "metadata empty or too long, or D above 2^48"
  pub one : (n ≡ 1) ↔ (bad_length s d ≡ true)
  -- 2: "not one JSON value in valid UTF-8, or nested beyond 32": the grammar derives no text
  pub two : (n ≡ 2) ↔ ((bad_length s d ≡ false) × (Text nesting s → ⊥))
  -- else "the smallest number whose condition holds", and 0 exactly if none does, in whatever way the text is derived
  pub more : bad_length s d ≡ false → (t : Text nesting s) → ByRules n (rules t)
  -- any other number than 1 and 2 is the answer for a text
  pub text : (n ≡ 1 → ⊥) → (n ≡ 2 → ⊥) → Text nesting s

-- 3 to 17, and 20
abbrev pub all_rules : {s : List ℕ} → Text nesting s → ℕ → List ℕ → List ℕ → List Rule
all_rules t d caps notes = rules_of t d ++ (rule 20 (too_many (contents_of t) caps notes) ∷ [])

-- ---- texts in the text
-- "place and length of the raw label between its quotes; 0, 0 if absent": the member's value stands at its place in s, the bytes of s at the
-- label's place are that value without its quotes, and they mean its text; such a place is above 0, so that 0, 0 tells absence exactly
pub data LabelAt (s : List ℕ) : Option Node → Place → Type 0 where
  no_label : LabelAt s none nowhere
  label : {n : Node} {p : Place} → Here s n → p.at ≡ n.at + 1 → n.bytes ≡ 0x22 ∷ (part s p ++ (0x22 ∷ [])) → Means (part s p) (text_in (kind n))
      → LabelAt s (some n) p

-- "place and length of sample_rate (0, 0 if absent)": those of the member's value, a number
pub data RateAt (s : List ℕ) : Option Node → Place → Type 0 where
  no_rate : RateAt s none nowhere
  rate : {n : Node} → Here s n → Number n.bytes → RateAt s (some n) (number_place n)

-- ---- the table r of a recording, by a derivation t
pub record SummaryBy {s : List ℕ} (t : Text nesting s) (d : ℕ) (r : Summary) : Type 0 where
  pub numbers : r ≡ summary_in (contents_of t) d
  -- as many rows as the arrays have elements: neither an empty table nor invented counts
  pub capture_count : r.captures ≡ length (file_of t).captures
  pub annotation_count : r.annotations ≡ length (file_of t).annotations
  pub rate : RateAt s (value "core:sample_rate" (file_of t).global) r.rate

-- the members of element k of `annotations`
abbrev pub annotation : {s : List ℕ} → Text nesting s → ℕ → List Entry
annotation t k = get_or (file_of t).annotations k []

-- row k of those that the starts and headers of all captures give
abbrev pub capture_row : {s : List ℕ} → Text nesting s → ℕ → ℕ → Capture
capture_row t d k = get_or (captures_in (contents_of t) d) k (capture_of [])

-- the memories held caps and notes before, and hold m and k after
pub record RowsBy {s : List ℕ} (t : Text nesting s) (d : ℕ) (r : Summary) (caps notes m k : List ℕ) : Type 0 where
  -- row i is that of element i: not a copy of the first
  pub capture_rows : (i : ℕ) → i < r.captures → capture_at m i ≡ capture_row t d i
  pub annotation_rows : (i : ℕ) → i < r.annotations → annotation_at k i ≡ annotation_row (end_index (contents_of t) d) (annotation_in (annotation t i))
  pub labels : (i : ℕ) → i < r.annotations → LabelAt s (value "core:label" (annotation t i)) (annotation_at k i).texts.label
  -- "from the front of the lent memory; beyond them nothing changes"
  pub capture_memory : m ≡ written (flat capture_numbers (captures_of (table r m k))) caps
  pub annotation_memory : k ≡ written (flat annotation_numbers (annotations_of (table r m k))) notes

-- ---- a reader's answer r, and the memories m and k that it leaves
pub record ReadBy (s : List ℕ) (d : ℕ) (caps notes : List ℕ) (r : Summary) (m k : List ℕ) : Type 0 where
  pub number : Numbered s d r.refusal (λ t. all_rules t d caps notes)
  pub summary : r.refusal ≡ 0 → (t : Text nesting s) → SummaryBy t d r
  pub rows : r.refusal ≡ 0 → (t : Text nesting s) → RowsBy t d r caps notes m k
  -- "that number, 0 in every other number of the answer"; "every lent row and byte keeps its content"
  pub alone : (r.refusal ≡ 0 → ⊥) → r ≡ no_table r.refusal
  pub keeps : (r.refusal ≡ 0 → ⊥) → (m ≡ caps) × (k ≡ notes)

-- the reader's own, as the contracts of `read` and `judge` have it
pub record Demand2 (s : List ℕ) (d : ℕ) (caps notes : List ℕ) : Type 0 where
  pub read : ReadBy s d caps notes (read_answer s d caps notes) (captures_read s d caps notes) (annotations_read s d caps notes)
  -- and no other: not one that refuses everything or has one fixed answer, an empty table, rows copied from the first or invented counts
  pub only : (r : Summary) (m k : List ℕ) → ReadBy s d caps notes r m k
      → (r ≡ read_answer s d caps notes) × (m ≡ captures_read s d caps notes) × (k ≡ annotations_read s d caps notes)
  -- without rows
  pub judged : Numbered s d (judged_recording s d).refusal (λ t. rules_of t d)
  pub judged_summary : (judged_recording s d).refusal ≡ 0 → (t : Text nesting s) → SummaryBy t d (judged_recording s d)
  -- "in valid UTF-8": a derived text is, whole
  pub utf8 : Text nesting s → Utf8 s
