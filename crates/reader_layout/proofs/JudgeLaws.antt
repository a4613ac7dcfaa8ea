-- Laws of the answer, and what an accepted recording tells.
use Prim.Native.Nat.{ℕ, ◌+◌, ◌-◌, ◌*◌, ◌/◌, ◌%◌, ◌^◌, ◌≤◌, ◌<◌}
use mathlib.Core.Path.{◌≡◌, refl, sym, ap, ◌∙◌}
use mathlib.Core.Bool.{Bool, true, false, cond, not, ◌&&◌, ◌||◌, false≢true}
use mathlib.Core.List.{List, [], ◌∷◌, map}
use native.Mathlib.Omega.{arith}
use native.Mathlib.Nat.{div-add-mod'}
use lib.ListN.{length}
use lib.Dec.{leb, ltb, eqb}
use borrow.Author.Tests.{le-leb, lt-leb, ne_eqb, leb-true, ltb-false, eqb-true, not-false}
use Rattle.limits.specs.Limits.{dataset, channels}
use Rattle.json_blocks.specs.TextBytes.{within}
use Rattle.refusals.specs.Refusals.{rule, lowest}
use Rattle.refusals.proofs.RuleLaws.{rising, condition, unheld, lowest_first, lowest_then}
use Rattle.sigmf_datatypes.specs.Datatypes.{is_listed, sample_bytes}
use Rattle.sigmf_datatypes.proofs.Laws.{width_least}
use Rattle.table.specs.declared.Summary.{Summary}
use Rattle.table.specs.Memory.{written}
use Rattle.table.specs.Rows.{capture_width, annotation_width, capture_numbers, annotation_numbers, rest, flat}
use Rattle.table.specs.Table.{no_table}
use Rattle.table.proofs.Bools.{and_left, and_right}
use Rattle.table.specs.declared.Globals.{Globals}
use Rattle.std.proofs.Common.{Some, None}
use Rattle.std.proofs.lemmas.Option.{none-some, same_Some}
use Rattle.reader_layout.specs.Layout.{Contents, width_in, headers_and_trailer, samples_in, end_index, unordered, not_whole, index_outside, summary_in, format_rules, sample_rules, layout_rules, too_many, judged_layout, layout_refusal, layout_answer, captures_after, annotations_after}
use Rattle.table.specs.Samples.{capture_rows, annotation_row, ascending, all_entries, all_notes, header_sum}
use Rattle.table.proofs.RowLaws.{rest_length}
use Rattle.reader_layout.specs.Entries.{entry_at, note_at, capture_entries, stored_contents}
use Rattle.reader_layout.specs.Stages.{capture_starts, note_starts, whole_in, inside_ok, accepted_summary}

-- ---- 1, 9 and 10
pub record Format (g : Globals) (d : ℕ) : Type 0 where
  pub small : d ≤ dataset
  pub code : is_listed g.datatype ≡ true
  pub some : 1 ≤ g.channels
  pub few : g.channels ≤ channels
  pub wide : 1 ≤ width_in g

format_from : (g : Globals) (d : ℕ) → ltb dataset d ≡ false → not (is_listed g.datatype) ≡ false → not (within 1 channels g.channels) ≡ false → Format g d
unfolding within
format_from g d a b c =
    let code = not-false (is_listed g.datatype) b in
    let w = not-false (leb 1 g.channels && leb g.channels channels) c in
    let some = leb-true 1 g.channels (and_left _ _ w) in
    record { small = ltb-false dataset d a; code = code; some = some; few = leb-true g.channels channels (and_right (leb 1 g.channels) _ w); wide = width_least g.datatype g.channels code some }

format_facts : (g : Globals) (d : ℕ) → lowest (format_rules g d) ≡ 0 → Format g d
unfolding rising condition
format_facts g d e = let no = unheld 0 (format_rules g d) refl e in format_from g d (no 1) (no 9) (no 10)

-- of an answer that is 0
module _ (g : Globals) (d n : ℕ) (e : n ≡ lowest (format_rules g d)) (z : n ≡ 0) where
  pub format_of : Format g d
  format_of = format_facts g d (sym e ∙ z)

  pub format_small : d ≤ dataset
  format_small = format_of.small

  pub width_is : (w : ℕ) → w ≡ sample_bytes g.datatype g.channels → w ≡ width_in g
  unfolding sample_bytes
  width_is w q = q ∙ rw (format_of.code, le-leb _ _ format_of.some, le-leb _ _ format_of.few)

  pub width_some : (w : ℕ) → w ≡ sample_bytes g.datatype g.channels → 1 ≤ w
  width_some w q = omega (arith, width_is w q, format_of.wide)

-- ---- 16
whole_no : (b : Bool) (s : ℕ) → None ≡ cond b None (Some s) → b ≡ true
whole_no true s e = refl
whole_no false s e = absurd (none-some s e)

whole_yes : (b : Bool) (s x : ℕ) → Some x ≡ cond b None (Some s) → (b ≡ false) × (x ≡ s)
whole_yes true s x e = absurd (none-some x (sym e))
whole_yes false s x e = (refl, same_Some x s e)

-- ---- the answer without rows, stage by stage
module _ (k : Contents) (d n : ℕ) (e : n ≡ lowest (format_rules k.globals d)) where
  pub judged_format : (r : Summary) → r ≡ no_table n → (n ≡ 0 → ⊥) → r ≡ judged_layout k d
  unfolding judged_layout
  judged_format r q h =
      let z : lowest (layout_rules k d) ≡ n = lowest_first (format_rules k.globals d) (sample_rules k d) (λ y. h (e ∙ y)) ∙ sym e in
      rw (z, ne_eqb n 0 h) q

  module _ (z : n ≡ 0) (b : Bool) (u : b ≡ ascending (capture_starts k.captures) && ascending (note_starts k.annotations)) where
    late : lowest (layout_rules k d) ≡ lowest (rule 15 (not b) ∷ rule 16 (not_whole k d) ∷ rule 17 (index_outside k d) ∷ [])
    unfolding rising unordered
    late = lowest_then 0 (format_rules k.globals d) (sample_rules k d) refl (sym e ∙ z) ∙ rw (← u)

    pub judged_15 : (r : Summary) → r ≡ no_table 15 → b ≡ false → r ≡ judged_layout k d
    unfolding judged_layout lowest
    judged_15 r q f = rw (late, f) q

    module _ (f : b ≡ true) (w : ℕ) (v : w ≡ sample_bytes k.globals.datatype k.globals.channels) where
      same : whole_in (headers_and_trailer k) w d ≡ cond (not_whole k d) None (Some (samples_in k d))
      unfolding not_whole samples_in
      same = ap (λ (a : ℕ). whole_in (headers_and_trailer k) a d) (width_is k.globals d n e z w v)

      pub judged_16 : (r : Summary) → r ≡ no_table 16 → None ≡ whole_in (headers_and_trailer k) w d → r ≡ judged_layout k d
      unfolding judged_layout lowest
      judged_16 r q g = rw (late, f, whole_no (not_whole k d) (samples_in k d) (g ∙ same)) q

      module _ (x : ℕ) (g : Some x ≡ whole_in (headers_and_trailer k) w d) (a : Bool) (s : a ≡ inside_ok k.globals.offset x k.captures k.annotations) where
        whole : not_whole k d ≡ false
        whole = (whole_yes (not_whole k d) (samples_in k d) x (g ∙ same)).0

        many : x ≡ samples_in k d
        many = (whole_yes (not_whole k d) (samples_in k d) x (g ∙ same)).1

        outs : index_outside k d ≡ not a
        unfolding index_outside
        outs = rw (s, many)

        pub judged_17 : (r : Summary) → r ≡ no_table 17 → a ≡ false → r ≡ judged_layout k d
        unfolding judged_layout lowest
        judged_17 r q h = rw (late, f, whole, outs, h) q

        pub judged_0 : (r : Summary) (c m : ℕ) → r ≡ accepted_summary k.globals w x d c m → a ≡ true → length k.captures ≡ c → length k.annotations ≡ m
            → r ≡ judged_layout k d
        unfolding judged_layout lowest summary_in
        judged_0 r c m q h i j = rw (late, f, whole, outs, h, i, j, ← many, ← width_is k.globals d n e z w v) q

-- ---- the answer with rows
or_left : (a b : Bool) → a || b ≡ false → a ≡ false
or_left true b e = e
or_left false b e = refl

or_right : (a b : Bool) → a || b ≡ false → b ≡ false
or_right true b e = absurd (false≢true (sym e))
or_right false b e = e

-- what an accepted recording tells
pub record Good (k : Contents) (d : ℕ) : Type 0 where
  pub format : Format k.globals d
  pub captures_up : ascending (capture_starts k.captures) ≡ true
  pub notes_up : ascending (note_starts k.annotations) ≡ true
  pub fit : headers_and_trailer k ≤ d
  pub whole : (d - headers_and_trailer k) % width_in k.globals ≡ 0
  pub ends : end_index k d ≤ 2 ^ 64 - 1
  pub captures_in : all_entries k.globals.offset (end_index k d) k.captures ≡ true
  pub notes_in : all_notes k.globals.offset (end_index k d) k.annotations ≡ true

pub good : (k : Contents) (d : ℕ) → lowest (layout_rules k d) ≡ 0 → Good k d
unfolding unordered not_whole index_outside rising condition
good k d e =
    let no = unheld 0 (layout_rules k d) refl e in
    let up = not-false (ascending (capture_starts k.captures) && ascending (note_starts k.annotations)) (no 15) in
    let m = not-false (eqb ((d - headers_and_trailer k) % width_in k.globals) 0) (or_right (ltb d (headers_and_trailer k)) _ (no 16)) in
    let x = leb (end_index k d) (2 ^ 64 - 1) in
    let y = all_entries k.globals.offset (end_index k d) k.captures in
    let z = all_notes k.globals.offset (end_index k d) k.annotations in
    let inside = not-false (x && y && z) (no 17) in
    record {
      format = format_from k.globals d (no 1) (no 9) (no 10);
      captures_up = and_left (ascending (capture_starts k.captures)) _ up;
      notes_up = and_right (ascending (capture_starts k.captures)) _ up;
      fit = ltb-false d (headers_and_trailer k) (or_left (ltb d (headers_and_trailer k)) _ (no 16));
      whole = eqb-true _ _ m;
      ends = leb-true (end_index k d) (2 ^ 64 - 1) (and_left x y (and_left (x && y) z inside));
      captures_in = and_right x y (and_left (x && y) z inside);
      notes_in = and_right (x && y) z inside;
    }

module _ (k : Contents) (d : ℕ) where
  -- the number of the answer without rows
  number : (judged_layout k d).refusal ≡ lowest (layout_rules k d)
  unfolding judged_layout summary_in
  number = go (lowest (layout_rules k d)) (eqb (lowest (layout_rules k d)) 0) refl
    where
      go : (n : ℕ) (b : Bool) → eqb n 0 ≡ b → (cond b (summary_in k d) (no_table n)).refusal ≡ n
      go n true e = sym (eqb-true n 0 e)
      go n false e = refl

  pub accepted_is : lowest (layout_rules k d) ≡ 0 → judged_layout k d ≡ summary_in k d
  unfolding judged_layout
  accepted_is e = rw e

  module _ (rows anns : List ℕ) where
    -- refused already
    pub refused_still : (lowest (layout_rules k d) ≡ 0 → ⊥) → layout_refusal k d rows anns ≡ lowest (layout_rules k d)
    unfolding layout_refusal
    refused_still h = lowest_first (layout_rules k d) _ h

    -- accepted so far
    pub then_room : lowest (layout_rules k d) ≡ 0 → layout_refusal k d rows anns ≡ cond (too_many k rows anns) 20 0
    unfolding layout_refusal rising lowest
    then_room e = lowest_then 0 (layout_rules k d) (rule 20 (too_many k rows anns) ∷ []) refl e

    module _ (t : Summary) (e : t ≡ judged_layout k d) where
      told : t.refusal ≡ lowest (layout_rules k d)
      told = ap (λ (s : Summary). s.refusal) e ∙ number

      module _ (h : t.refusal ≡ 0 → ⊥) where
        still : layout_refusal k d rows anns ≡ lowest (layout_rules k d)
        still = refused_still (λ y. h (told ∙ y))

        pub same_answer : t ≡ layout_answer k d rows anns
        unfolding layout_answer judged_layout
        same_answer = rw still e

        pub same_rows : rows ≡ captures_after k d rows anns
        unfolding captures_after
        same_rows = rw (still, ← told, ne_eqb t.refusal 0 h)

        pub same_anns : anns ≡ annotations_after k d rows anns
        unfolding annotations_after
        same_anns = rw (still, ← told, ne_eqb t.refusal 0 h)

      module _ (z : t.refusal ≡ 0) where
        zero_so_far : lowest (layout_rules k d) ≡ 0
        zero_so_far = sym told ∙ z

        pub facts : Good k d
        facts = good k d zero_so_far

        pub table_is : t ≡ summary_in k d
        table_is = e ∙ accepted_is zero_so_far

        module _ (n m : ℕ) (i : length k.captures ≡ n) (j : length k.annotations ≡ m) where
          short : too_many k rows anns ≡ true → layout_refusal k d rows anns ≡ 20
          short y = then_room zero_so_far ∙ rw y

          many_rows : length rows / capture_width < n → too_many k rows anns ≡ true
          unfolding too_many
          many_rows y =
              let x : length rows < capture_width * length k.captures = omega arith in
              rw (lt-leb _ _ x)

          many_anns : n ≤ length rows / capture_width → length anns / annotation_width < m → too_many k rows anns ≡ true
          unfolding too_many
          many_anns x y =
              let u : capture_width * length k.captures ≤ length rows = omega arith in
              let v : length anns < annotation_width * length k.annotations = omega arith in
              rw (le-leb _ _ u, lt-leb _ _ v)

          module _ (y : too_many k rows anns ≡ true) where
            pub answer_20 : (r : Summary) → r ≡ no_table 20 → r ≡ layout_answer k d rows anns
            unfolding layout_answer
            answer_20 r q = rw (short y) q

            pub rows_20 : rows ≡ captures_after k d rows anns
            unfolding captures_after
            rows_20 = rw (short y)

            pub anns_20 : anns ≡ annotations_after k d rows anns
            unfolding annotations_after
            anns_20 = rw (short y)

          module _ (u : n ≤ length rows / capture_width) (v : m ≤ length anns / annotation_width) where
            enough : too_many k rows anns ≡ false
            unfolding too_many
            enough =
                let x : capture_width * length k.captures ≤ length rows = omega arith in
                let y : annotation_width * length k.annotations ≤ length anns = omega arith in
                rw (le-leb _ _ x, le-leb _ _ y)

            pub answer_0 : layout_refusal k d rows anns ≡ 0
            answer_0 = then_room zero_so_far ∙ rw enough

-- the parts of the dataset make its length
pub parts : (k : Contents) (d : ℕ) → Good k d → headers_and_trailer k + samples_in k d * width_in k.globals ≡ d
unfolding samples_in
parts k d G = omega (arith, G.fit, G.whole, div-add-mod' (d - headers_and_trailer k) (width_in k.globals))

-- ---- for the code: the contents in two memories, and a summary t of them
module _ (g : Globals) (caps : List ℕ) (n : ℕ) (notes : List ℕ) (m d : ℕ) (rows anns : List ℕ) (t : Summary) (e : t ≡ judged_layout (stored_contents g caps n notes m) d) where
  abbrev k : Contents
  k = stored_contents g caps n notes m

  module _ (z : t.refusal ≡ 0) where
    good_is : Good k d
    good_is = facts k d rows anns t e z

    is : t ≡ summary_in k d
    is = table_is k d rows anns t e z

    captures_is : t.captures ≡ n
    unfolding summary_in
    captures_is = ap (λ (s : Summary). s.captures) is ∙ rest_length (entry_at caps) n

    annotations_is : t.annotations ≡ m
    unfolding summary_in
    annotations_is = ap (λ (s : Summary). s.annotations) is ∙ rest_length (note_at notes) m

    offset_is : t.offset ≡ g.offset
    unfolding summary_in
    offset_is = ap (λ (s : Summary). s.offset) is

    samples_is : t.samples ≡ samples_in k d
    unfolding summary_in
    samples_is = ap (λ (s : Summary). s.samples) is

    wide_is : t.width ≡ width_in g
    unfolding summary_in
    wide_is = ap (λ (s : Summary). s.width) is

    pub lay_ends : t.offset + t.samples < 2 ^ 64
    lay_ends = omega (arith, offset_is, samples_is, good_is.ends)

    pub lay_below : t.samples * t.width + header_sum (capture_entries caps t.captures) < 2 ^ 63
    lay_below = rw (captures_is, samples_is, wide_is) (omega (arith, parts k d good_is, good_is.format.small))

    pub lay_captures : all_entries t.offset (t.offset + t.samples) (capture_entries caps t.captures) ≡ true
    lay_captures = rw (captures_is, samples_is, offset_is) good_is.captures_in

    pub lay_notes : all_notes t.offset (t.offset + t.samples) (rest (note_at notes) t.annotations 0) ≡ true
    lay_notes = rw (annotations_is, samples_is, offset_is) good_is.notes_in

    pub rows_room : n ≤ length rows / capture_width → capture_width * t.captures ≤ length rows
    rows_room h = omega (arith, captures_is)

    pub anns_room : m ≤ length anns / annotation_width → annotation_width * t.annotations ≤ length anns
    anns_room h = omega (arith, annotations_is)

    nc : length k.captures ≡ n
    nc = rest_length (entry_at caps) n

    na : length k.annotations ≡ m
    na = rest_length (note_at notes) m

    module _ (h : length rows / capture_width < n) where
      no_rows : too_many k rows anns ≡ true
      no_rows = many_rows k d rows anns t e z n m nc na h

      pub lay_20 : (r : Summary) → r ≡ no_table 20 → r ≡ layout_answer k d rows anns
      lay_20 = answer_20 k d rows anns t e z n m nc na no_rows

      pub lay_rows_20 : rows ≡ captures_after k d rows anns
      lay_rows_20 = rows_20 k d rows anns t e z n m nc na no_rows

      pub lay_anns_20 : anns ≡ annotations_after k d rows anns
      lay_anns_20 = anns_20 k d rows anns t e z n m nc na no_rows

    module _ (u : n ≤ length rows / capture_width) where
      module _ (h : length anns / annotation_width < m) where
        no_anns : too_many k rows anns ≡ true
        no_anns = many_anns k d rows anns t e z n m nc na u h

        pub lay_20' : (r : Summary) → r ≡ no_table 20 → r ≡ layout_answer k d rows anns
        lay_20' = answer_20 k d rows anns t e z n m nc na no_anns

        pub lay_rows_20' : rows ≡ captures_after k d rows anns
        lay_rows_20' = rows_20 k d rows anns t e z n m nc na no_anns

        pub lay_anns_20' : anns ≡ annotations_after k d rows anns
        lay_anns_20' = anns_20 k d rows anns t e z n m nc na no_anns

      module _ (v : m ≤ length anns / annotation_width) where
        none : layout_refusal k d rows anns ≡ 0
        none = answer_0 k d rows anns t e z n m nc na u v

        pub lay_0 : t ≡ layout_answer k d rows anns
        unfolding layout_answer
        lay_0 = rw none is

        pub lay_rows_0 : (out : List ℕ) → out ≡ written (flat capture_numbers (capture_rows t.offset t.width (t.offset + t.samples) 0 (capture_entries caps t.captures))) rows
            → out ≡ captures_after k d rows anns
        unfolding captures_after
        lay_rows_0 out q = rw none (q ∙ rw (captures_is, samples_is, wide_is, offset_is))

        pub lay_anns_0 : (out : List ℕ) → out ≡ written (flat annotation_numbers (map (annotation_row (t.offset + t.samples)) (rest (note_at notes) t.annotations 0))) anns
            → out ≡ annotations_after k d rows anns
        unfolding annotations_after
        lay_anns_0 out q = rw none (q ∙ rw (annotations_is, samples_is, offset_is))
