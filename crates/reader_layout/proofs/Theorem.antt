-- A recording that is laid out is a well-formed table, and its rows are read back.
use Rattle.std.specs.Prelude.{None, Option, Some}
use Prim.Native.Nat.{ℕ, ◌+◌, ◌-◌, ◌*◌, ◌≤◌}
use mathlib.Core.Path.{◌≡◌, refl, sym, ap, ◌∙◌}
use mathlib.Core.Bool.{Bool, true, false, cond}
use mathlib.Core.List.{List, [], ◌∷◌, map}
use native.Mathlib.Omega.{arith}
use lib.ListN.{length, drop, length-append}
use lib.Dec.{leb, eqb}
use borrow.Author.Tests.{le-leb, eq-eqb, leb-true, eqb-true, eqb-false}
use Rattle.refusals.specs.Refusals.{lowest}
use Rattle.table.specs.Memory.{written}
use Rattle.table.specs.Rows.{capture_width, annotation_width, capture_numbers, annotation_numbers, flat, captures, annotations}
use Rattle.table.specs.Samples.{header_sum, next_start, capture_rows, note_end, annotation_row, ascending_from, start_ok, note_ok, all_entries, all_notes}
use Rattle.table.specs.Place.{ends_within}
use Rattle.table.specs.Table.{own_entries, texts_ok, format_ok, no_table}
use Rattle.table.specs.Judge.{Laid, capture_ok, captures_ok, annotation_ok, annotations_ok}
use Rattle.table.proofs.Bools.{and_left, and_right}
use Rattle.table.proofs.RowLaws.{length_flat, captures_back, annotations_back}
use Rattle.table.proofs.TableLaws.{Numbers, Formed, well_formed_lem}
use Rattle.table.specs.declared.CaptureEntry.{CaptureEntry}
use Rattle.table.specs.declared.AnnotationEntry.{AnnotationEntry}
use Rattle.reader_layout.specs.Layout.{Contents, width_in, samples_in, end_index, captures_in, annotations_in, summary_in, layout_rules, layout_refusal, layout_answer, captures_after, annotations_after}
use Rattle.reader_layout.specs.Stages.{capture_starts, note_starts}
use Rattle.reader_layout.specs.Claim.{entry_texts_ok, places_ok, LaidOut}
use Rattle.reader_layout.proofs.JudgeLaws.{Good, good, parts, refused_still}
use Rattle.reader_layout.proofs.WriteLaws.{rows_long, map_long}

-- ---- captures
-- the rows' own starts and headers are those that gave them
own : (o w e h : ℕ) (cs : List CaptureEntry) → own_entries (capture_rows o w e h cs) ≡ cs
unfolding capture_rows
own o w e h [] = refl
own o w e h (c ∷ t) = ap (λ (u : List CaptureEntry). c ∷ u) (own o w e (h + c.header) t)

-- captures that ascend and start inside have rows that obey the rules
rows_ok_lem : (o w e s h : ℕ) (cs : List CaptureEntry) → ascending_from s (capture_starts cs) ≡ true → all_entries o e cs ≡ true → captures_ok o e w s h (capture_rows o w e h cs) ≡ true
unfolding ascending_from all_entries capture_rows capture_ok captures_ok
rows_ok_lem o w e s h [] u v = refl
rows_ok_lem o w e s h (c ∷ t) u v =
    let a = and_left (leb s c.start) (ascending_from c.start (capture_starts t)) u in
    let b = and_right (leb o c.start) (leb c.start e) (and_left (start_ok o e c.start) (all_entries o e t) v) in
    rw (a, b, eq-eqb _ _ (ap (next_start e) (sym (own o w e (h + c.header) t))), eq-eqb ((c.start - o) * w + (h + c.header)) _ refl)
    (rows_ok_lem o w e c.start (h + c.header) t (and_right (leb s c.start) _ u) (and_right (start_ok o e c.start) _ v))

-- the first start is o at least
up_from : (o e : ℕ) (cs : List CaptureEntry) → ascending_from 0 (capture_starts cs) ≡ true → all_entries o e cs ≡ true → ascending_from o (capture_starts cs) ≡ true
unfolding ascending_from all_entries
up_from o e [] u v = refl
up_from o e (c ∷ t) u v =
    let a = and_left (leb o c.start) (leb c.start e) (and_left (start_ok o e c.start) (all_entries o e t) v) in
    rw a (and_right (leb 0 c.start) (ascending_from c.start (capture_starts t)) u)

-- ---- annotations
end_late : (e s : ℕ) (c : Option ℕ) → s ≤ e → s ≤ note_end e s c
end_late e s (Some n) h = omega arith
end_late e s None h = h

notes_ok : (o e s : ℕ) (ns : List AnnotationEntry) → ascending_from s (note_starts ns) ≡ true → all_notes o e ns ≡ true → entry_texts_ok ns ≡ true
    → annotations_ok e s (map (annotation_row e) ns) ≡ true
unfolding ascending_from all_notes entry_texts_ok annotation_ok annotations_ok
notes_ok o e s [] u v z = refl
notes_ok o e s (a ∷ t) u v z =
    let p = and_left (leb s a.start) (ascending_from a.start (note_starts t)) u in
    let n = and_left (note_ok o e a) (all_notes o e t) v in
    let i = and_left (start_ok o e a.start) (leb (note_end e a.start a.count) e) n in
    let q = leb-true a.start e (and_right (leb o a.start) _ i) in
    let x = texts_ok a.texts in
    rw (p, le-leb _ _ (end_late e a.start a.count q), and_right (start_ok o e a.start) _ n, and_left x (entry_texts_ok t) z)
    (notes_ok o e a.start t (and_right (leb s a.start) _ u) (and_right (note_ok o e a) _ v) (and_right x _ z))

notes_from : (o e : ℕ) (ns : List AnnotationEntry) → ascending_from 0 (note_starts ns) ≡ true → all_notes o e ns ≡ true → ascending_from o (note_starts ns) ≡ true
unfolding ascending_from all_notes
notes_from o e [] u v = refl
notes_from o e (a ∷ t) u v =
    let i = and_left (start_ok o e a.start) _ (and_left (note_ok o e a) (all_notes o e t) v) in
    rw (and_left (leb o a.start) _ i) (and_right (leb 0 a.start) (ascending_from a.start (note_starts t)) u)

-- ---- the table
module _ (k : Contents) (d : ℕ) (caps notes : List ℕ) where
  -- the answer's number is the refusal
  pub answer_number_lem : (layout_answer k d caps notes).refusal ≡ layout_refusal k d caps notes
  unfolding layout_answer summary_in
  answer_number_lem = go (layout_refusal k d caps notes) (eqb (layout_refusal k d caps notes) 0) refl
    where
      go : (n : ℕ) (b : Bool) → eqb n 0 ≡ b → (cond b (summary_in k d) (no_table n)).refusal ≡ n
      go n true e = sym (eqb-true n 0 e)
      go n false e = refl

  module _ (e : layout_refusal k d caps notes ≡ 0) where
    none : lowest (layout_rules k d) ≡ 0
    none = go (eqb (lowest (layout_rules k d)) 0) refl
      where
        go : (b : Bool) → eqb (lowest (layout_rules k d)) 0 ≡ b → lowest (layout_rules k d) ≡ 0
        go true q = eqb-true _ _ q
        go false q = sym (refused_still k d caps notes (eqb-false _ _ q)) ∙ e

    G : Good k d
    G = good k d none

    -- the rows, and the memories that they are written to
    cs_long : length (captures_in k d) ≡ length k.captures
    cs_long = rows_long k.globals.offset (width_in k.globals) (end_index k d) 0 k.captures

    ns_long : length (annotations_in k d) ≡ length k.annotations
    ns_long = map_long (annotation_row (end_index k d)) k.annotations

    caps_are : captures_after k d caps notes ≡ written (flat capture_numbers (captures_in k d)) caps
    unfolding captures_after
    caps_are = rw e

    notes_are : annotations_after k d caps notes ≡ written (flat annotation_numbers (annotations_in k d)) notes
    unfolding annotations_after
    notes_are = rw e

    pub captures_read_lem : captures (captures_after k d caps notes) (length k.captures) ≡ captures_in k d
    captures_read_lem = rw (caps_are, ← cs_long) (captures_back (captures_in k d) (drop (length (flat capture_numbers (captures_in k d))) caps))

    pub annotations_read_lem : annotations (annotations_after k d caps notes) (length k.annotations) ≡ annotations_in k d
    annotations_read_lem = rw (notes_are, ← ns_long) (annotations_back (annotations_in k d) (drop (length (flat annotation_numbers (annotations_in k d))) notes))

    caps_fit : capture_width * length k.captures ≤ length (captures_after k d caps notes)
    caps_fit = rw caps_are (omega (arith, cs_long, length_flat capture_numbers capture_width (λ r. refl) (captures_in k d), length-append (flat capture_numbers (captures_in k d)) (drop (length (flat capture_numbers (captures_in k d))) caps)))

    notes_fit : annotation_width * length k.annotations ≤ length (annotations_after k d caps notes)
    notes_fit = rw notes_are (omega (arith, ns_long, length_flat annotation_numbers annotation_width (λ r. refl) (annotations_in k d), length-append (flat annotation_numbers (annotations_in k d)) (drop (length (flat annotation_numbers (annotations_in k d))) notes)))

    format : format_ok (summary_in k d) ≡ true
    unfolding format_ok summary_in
    format = rw (G.format.code, le-leb _ _ G.format.some, le-leb _ _ G.format.few, eq-eqb (width_in k.globals) _ refl)

    total : k.globals.trailing + header_sum (own_entries (captures_in k d)) + samples_in k d * width_in k.globals ≡ d
    total = omega (arith, parts k d G, ap header_sum (own k.globals.offset (width_in k.globals) (end_index k d) 0 k.captures))

    module _ (p : places_ok k ≡ true) where
      numbers : Numbers (summary_in k d)
      unfolding summary_in places_ok
      numbers = record { said = refl; format = format; wide = G.format.wide; small = G.format.small; ends = G.ends; rate = and_left _ _ p }

      laid : Laid (summary_in k d) (captures_after k d caps notes)
      unfolding summary_in
      laid = record {
        fit = caps_fit;
        total = rw captures_read_lem total;
        small = G.format.small;
        ends = G.ends;
        in_order = rw captures_read_lem (rows_ok_lem k.globals.offset (width_in k.globals) (end_index k d) k.globals.offset 0 k.captures (up_from k.globals.offset (end_index k d) k.captures G.captures_up G.captures_in) G.captures_in);
      }

      formed : Formed (summary_in k d) (captures_after k d caps notes) (annotations_after k d caps notes)
      unfolding summary_in places_ok
      formed = record {
        nums = numbers;
        laid = laid;
        noted = notes_fit;
        in_order = rw annotations_read_lem (notes_ok k.globals.offset (end_index k d) k.globals.offset k.annotations (notes_from k.globals.offset (end_index k d) k.annotations G.notes_up G.notes_in) G.notes_in (and_right (ends_within k.globals.rate) _ p));
      }

      is : layout_answer k d caps notes ≡ summary_in k d
      unfolding layout_answer
      is = rw e

      -- a recording that is laid out is a well-formed table, and its rows are read back
      pub laid_out_lem : LaidOut k d caps notes
      unfolding summary_in
      laid_out_lem = record {
        answer = is;
        table = rw is (well_formed_lem (summary_in k d) (captures_after k d caps notes) (annotations_after k d caps notes) formed);
        capture_rows = rw is captures_read_lem;
        annotation_rows = rw is annotations_read_lem;
      }
