-- The lowest number of rules in stages, and the answers of `judge` and `read` from those of their stages.
use Rattle.std.specs.Prelude.{Result, ⊤}
use mathlib.Core.Path.{◌≡◌, refl, sym, ap, ◌∙◌}
use mathlib.Core.Bool.{Bool, true, false, not, ◌||◌}
use mathlib.Core.List.{List, [], ◌∷◌, ◌++◌}
use Prim.Native.Nat.{ℕ, ◌≤◌}
use lib.ListN.{length}
use lib.Dec.{eqb, ltb}
use borrow.Author.Tests.{ne_eqb, ltb-false}
use Rattle.limits.specs.Limits.{metadata, dataset, channels}
use Rattle.refusals.specs.Refusals.{Rule, rule, lowest}
use Rattle.refusals.proofs.RuleLaws.{rising, condition, unheld, skip, lowest_first, lowest_then}
use Rattle.json_blocks.specs.TextBytes.{within}
use Rattle.json_grammar.specs.ByPlace.{is_json}
use Rattle.json_judge.specs.Judged.{judge_rules, refusal_of}
use Rattle.json_judge.specs.declared.TextError.{TextError}
use Rattle.sigmf_datatypes.specs.Datatypes.{is_listed}
use Rattle.table.specs.Table.{no_table}
use Rattle.reader_layout.specs.Layout.{Contents, sample_rules, too_many, layout_rules, layout_refusal, judged_layout, layout_answer, captures_after, annotations_after}
use Rattle.sigmf_objects.specs.Global.{other_datatype, bad_channels}
use Rattle.reader.specs.File.{file_of, contents_of}
use Rattle.reader.specs.Reading.{bad_length, text_rules, part_rules, read_rules, contents, judged_recording, read_refusal, read_answer, captures_read, annotations_read}

pub or_falses : (a b : Bool) → (a || b) ≡ false → (a ≡ false) × (b ≡ false)
or_falses true b e = cc
or_falses false b e = (refl, e)

not_false : (a : Bool) → not a ≡ false → a ≡ true
not_false true e = refl
not_false false e = cc

-- ---- 1 to 3
module _ (s : List ℕ) (d : ℕ) where
  module _ (r : Bool) (e : r ≡ bad_length s d) where
    pub text_bad : r ≡ true → 1 ≡ lowest (text_rules s d)
    unfolding lowest
    text_bad h = rw (sym e ∙ h)

    pub text_judged : r ≡ false → (j : Result ⊤ TextError) → refusal_of j ≡ lowest (judge_rules s) → refusal_of j ≡ lowest (text_rules s d)
    unfolding lowest
    text_judged h j g = rw (sym e ∙ h) g

  module _ (e : lowest (text_rules s d) ≡ 0) where
    text_holds : (n : ℕ) → condition n (text_rules s d) ≡ false
    unfolding rising
    text_holds n = unheld 0 (text_rules s d) refl e n

    pub text_json : is_json s ≡ true
    unfolding condition
    text_json = not_false (is_json s) (text_holds 2)

    lengths : (length s ≤ metadata) × (ltb dataset d ≡ false)
    unfolding condition bad_length
    lengths =
        let a = or_falses (eqb (length s) 0 || ltb metadata (length s)) (ltb dataset d) (text_holds 1) in
        let b = or_falses (eqb (length s) 0) (ltb metadata (length s)) a.0 in
        (ltb-false metadata (length s) b.1, a.1)

    pub text_fits_lem : length s ≤ metadata
    text_fits_lem = lengths.0

    data_fits : ltb dataset d ≡ false
    data_fits = lengths.1

-- ---- all stages
module _ (s : List ℕ) (d : ℕ) (rows : List Rule) where
  stages : read_rules s d ++ rows ≡ text_rules s d ++ (part_rules s (file_of s) ++ (sample_rules (contents s) d ++ rows))
  unfolding read_rules
  stages = refl

  at_text : (n : ℕ) → n ≡ lowest (text_rules s d) → (n ≡ 0 → ⊥) → lowest (read_rules s d ++ rows) ≡ n
  at_text n e f = ap lowest stages ∙ lowest_first (text_rules s d) _ (λ z. f (e ∙ z)) ∙ sym e

  module _ (e : lowest (text_rules s d) ≡ 0) where
    past_text : lowest (read_rules s d ++ rows) ≡ lowest (part_rules s (file_of s) ++ (sample_rules (contents s) d ++ rows))
    unfolding rising
    past_text = ap lowest stages ∙ lowest_then 0 (text_rules s d) _ refl e

    at_parts : (n : ℕ) → n ≡ lowest (part_rules s (file_of s)) → (n ≡ 0 → ⊥) → lowest (read_rules s d ++ rows) ≡ n
    at_parts n g f = past_text ∙ lowest_first (part_rules s (file_of s)) _ (λ z. f (g ∙ z)) ∙ sym g

    module _ (g : lowest (part_rules s (file_of s)) ≡ 0) where
      part_holds : (n : ℕ) → condition n (part_rules s (file_of s)) ≡ false
      unfolding rising
      part_holds n = unheld 3 (part_rules s (file_of s)) refl g n

      coded : not (is_listed (contents s).globals.datatype) ≡ false
      unfolding condition other_datatype contents_of
      coded = part_holds 9

      channelled : not (within 1 channels (contents s).globals.channels) ≡ false
      unfolding condition bad_channels contents_of
      channelled = part_holds 10

      -- 1, 9 and 10 do not hold of what the parts say
      at_samples : lowest (layout_rules (contents s) d ++ rows) ≡ lowest (read_rules s d ++ rows)
      unfolding rising
      at_samples =
          skip 1 _ _ (data_fits s d e) ∙ skip 9 _ _ coded ∙ skip 10 _ _ channelled
          ∙ sym (past_text ∙ lowest_then 3 (part_rules s (file_of s)) (sample_rules (contents s) d ++ rows) refl g)

-- ---- the answer without rows
module _ (s : List ℕ) (d : ℕ) where
  unrowed : read_rules s d ++ [] ≡ read_rules s d
  unfolding read_rules
  unrowed = refl

  judge_refused : (n : ℕ) → lowest (read_rules s d ++ []) ≡ n → (n ≡ 0 → ⊥) → no_table n ≡ judged_recording s d
  unfolding judged_recording
  judge_refused n e f = rw (← unrowed, e, ne_eqb n 0 f)

  pub judge_text_lem : (n : ℕ) → n ≡ lowest (text_rules s d) → (n ≡ 0 → ⊥) → no_table n ≡ judged_recording s d
  judge_text_lem n e f = judge_refused n (at_text s d [] n e f) f

  module _ (e : lowest (text_rules s d) ≡ 0) where
    pub judge_parts : (n : ℕ) → n ≡ lowest (part_rules s (file_of s)) → (n ≡ 0 → ⊥) → no_table n ≡ judged_recording s d
    judge_parts n g f = judge_refused n (at_parts s d [] e n g f) f

    pub judge_samples : (k : Contents) → k ≡ contents s → (n : ℕ) → n ≡ lowest (part_rules s (file_of s)) → n ≡ 0 → judged_layout k d ≡ judged_recording s d
    unfolding judged_recording judged_layout
    judge_samples k q n g f = rw (q, ← unrowed, ← at_samples s d [] e (sym g ∙ f))

-- ---- the answer with rows
module _ (s : List ℕ) (d : ℕ) (caps notes : List ℕ) where
  abbrev full : List Rule
  full = rule 20 (too_many (contents s) caps notes) ∷ []

  read_refused : (n : ℕ) → lowest (read_rules s d ++ full) ≡ n → (n ≡ 0 → ⊥)
      → (no_table n ≡ read_answer s d caps notes) × ((caps ≡ captures_read s d caps notes) × (notes ≡ annotations_read s d caps notes))
  unfolding read_answer captures_read annotations_read read_refusal
  read_refused n e f = (rw (e, ne_eqb n 0 f), (rw (e, ne_eqb n 0 f), rw (e, ne_eqb n 0 f)))

  pub read_text : (n : ℕ) → n ≡ lowest (text_rules s d) → (n ≡ 0 → ⊥)
      → (no_table n ≡ read_answer s d caps notes) × ((caps ≡ captures_read s d caps notes) × (notes ≡ annotations_read s d caps notes))
  read_text n e f = read_refused n (at_text s d full n e f) f

  module _ (e : lowest (text_rules s d) ≡ 0) where
    pub read_parts : (n : ℕ) → n ≡ lowest (part_rules s (file_of s)) → (n ≡ 0 → ⊥)
        → (no_table n ≡ read_answer s d caps notes) × ((caps ≡ captures_read s d caps notes) × (notes ≡ annotations_read s d caps notes))
    read_parts n g f = read_refused n (at_parts s d full e n g f) f

    module _ (k : Contents) (q : k ≡ contents s) (n : ℕ) (g : n ≡ lowest (part_rules s (file_of s))) (f : n ≡ 0) where
      same_refusal : layout_refusal k d caps notes ≡ read_refusal s d caps notes
      unfolding layout_refusal read_refusal
      same_refusal = rw q (at_samples s d full e (sym g ∙ f))

      pub answer_samples : layout_answer k d caps notes ≡ read_answer s d caps notes
      unfolding layout_answer read_answer
      answer_samples = rw (same_refusal, q)

      pub captures_samples : captures_after k d caps notes ≡ captures_read s d caps notes
      unfolding captures_after captures_read
      captures_samples = rw (same_refusal, q)

      pub annotations_samples : annotations_after k d caps notes ≡ annotations_read s d caps notes
      unfolding annotations_after annotations_read
      annotations_samples = rw (same_refusal, q)
