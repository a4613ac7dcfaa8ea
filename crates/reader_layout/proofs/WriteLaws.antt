-- Laws of the rows written to lent memory.
use Prim.Native.Nat.{ℕ, suc, ◌+◌, ◌-◌, ◌*◌, ◌^◌, ◌≤◌, ◌<◌}
use mathlib.Core.Path.{◌≡◌, refl, ap, ◌∙◌}
use mathlib.Core.Bool.{true, ◌&&◌}
use mathlib.Core.List.{List, [], ◌∷◌, ◌++◌, map}
use native.Mathlib.Omega.{arith}
use native.Mathlib.Nat.{mul-le-mul_right}
use mir.Syntax.{w64}
use mir.Val.{Fits}
use lib.ListN.{length, drop}
use lib.Dec.{leb}
use borrow.Author.Tests.{leb-true}
use Rattle.table.specs.declared.Capture.{Capture}
use Rattle.table.specs.Memory.{written, put_row}
use Rattle.table.specs.Rows.{capture_width, annotation_width, capture_numbers, annotation_numbers, rest, flat}
use Rattle.table.proofs.Bools.{and_left, and_right}
use Rattle.table.proofs.RowLaws.{rest_at, rest_none, rest_length, length_flat}
use Rattle.table.proofs.Filling.{Filling, fill_none, fill_row, fill_all}
use Rattle.table.specs.declared.CaptureEntry.{CaptureEntry}
use Rattle.table.specs.declared.AnnotationEntry.{AnnotationEntry}
use Rattle.table.specs.Samples.{next_start, capture_rows, note_end, annotation_row, note_ok, all_entries, all_notes, header_sum}
use Rattle.reader_layout.specs.Entries.{entry_at, note_at, capture_entries}
use Rattle.reader_layout.proofs.StageLaws.{headers_at}

-- ---- where a row ends
pub next_some : (l : List ℕ) (n i e : ℕ) (x : CaptureEntry) → x ≡ entry_at l i → i < n → x.start ≡ next_start e (rest (entry_at l) n i)
unfolding next_start
next_some l n i e x q lt = rw (rest_at (entry_at l) n i x q lt)

pub next_none : (l : List ℕ) (n i e : ℕ) → n ≤ i → e ≡ next_start e (rest (entry_at l) n i)
unfolding next_start
next_none l n i e h = rw (rest_none (entry_at l) n i h)

-- ---- F is all numbers of the rows of w numbers, i rows are written, L are the numbers left
pub record Part (w : ℕ) (F m out : List ℕ) (i : ℕ) (L : List ℕ) : Type 0 where
  pub fill : Filling F m out (w * i)
  pub left : drop (w * i) F ≡ L

part_begin : (w : ℕ) (F m : List ℕ) → Part w F m m 0 F
part_begin w F m =
    let z : w * 0 ≡ 0 = omega arith in
    record { fill = rw z (fill_none F m); left = rw z }

module _ (w : ℕ) (F m out : List ℕ) (i : ℕ) (L : List ℕ) (P : Part w F m out i L) where
  part_end : L ≡ [] → out ≡ written F m
  part_end e = fill_all F m out (w * i) (P.left ∙ e) P.fill

  part_row : (X T : List ℕ) → L ≡ X ++ T → length F ≤ length m → length X ≡ w → (out' : List ℕ) → out' ≡ put_row w out i X → Part w F m out' (i + 1) T
  part_row X T e h k out' z =
      let f = fill_row F m out w i X T h (P.left ∙ e) k P.fill out' z in
      record { fill = f.0; left = f.1 }

-- ---- captures
pub rows_long : (o w e h : ℕ) (cs : List CaptureEntry) → length (capture_rows o w e h cs) ≡ length cs
unfolding capture_rows
rows_long o w e h [] = refl
rows_long o w e h (c ∷ t) = ap suc (rows_long o w e (h + c.header) t)

pub record Rowing (l : List ℕ) (n o w e : ℕ) (m out : List ℕ) (h i : ℕ) : Type 0 where
  pub sum : h + header_sum (rest (entry_at l) n i) ≡ header_sum (capture_entries l n)
  pub good : all_entries o e (rest (entry_at l) n i) ≡ true
  pub part : Part capture_width (flat capture_numbers (capture_rows o w e 0 (capture_entries l n))) m out i (flat capture_numbers (capture_rows o w e h (rest (entry_at l) n i)))

pub rows_begin : (l : List ℕ) (n o w e : ℕ) (m : List ℕ) → all_entries o e (capture_entries l n) ≡ true → Rowing l n o w e m m 0 0
rows_begin l n o w e m g = record { sum = omega arith; good = g; part = part_begin _ _ m }

module _ (l : List ℕ) (n o w e : ℕ) (m out : List ℕ) (h i : ℕ) (S : Rowing l n o w e m out h i) where
  pub rows_end : n ≤ i → out ≡ written (flat capture_numbers (capture_rows o w e 0 (capture_entries l n))) m
  unfolding flat capture_rows
  rows_end g = part_end _ _ m out i _ S.part (rw (rest_none (entry_at l) n i g))

  module _ (x : CaptureEntry) (q : x ≡ entry_at l i) (lt : i < n) where
    split : leb o x.start && leb x.start e && all_entries o e (rest (entry_at l) n (i + 1)) ≡ true
    unfolding all_entries
    split = rw (rest_at (entry_at l) n i x q lt) at S.good

    both : leb o x.start && leb x.start e ≡ true
    both = and_left _ _ split

    pub row_low : o ≤ x.start
    row_low = leb-true o x.start (and_left _ _ both)

    row_high : x.start ≤ e
    row_high = leb-true x.start e (and_right (leb o x.start) _ both)

    -- s samples of w bytes, and the headers, are few bytes
    module _ (s : ℕ) (b : s * w + header_sum (capture_entries l n) < 2 ^ 63) where
      pub row_fits : Fits w64 (h + x.header)
      row_fits = omega (arith, b, S.sum, headers_at l n i x q lt)

      pub row_below : e ≡ o + s → (x.start - o) * w + (h + x.header) < 2 ^ 63
      row_below j =
          let k : x.start - o ≤ s = omega (arith, row_high, j) in
          omega (arith, b, S.sum, headers_at l n i x q lt, mul-le-mul_right w k)

    module _ (room : capture_width * n ≤ length m) (next : ℕ) (j : next ≡ next_start e (rest (entry_at l) n (i + 1)))
        (y : Capture) (v : y ≡ record { start = x.start; end = next; first = (x.start - o) * w + (h + x.header); header = x.header }) where
      enough : length (flat capture_numbers (capture_rows o w e 0 (capture_entries l n))) ≤ length m
      enough = omega (arith, length_flat capture_numbers capture_width (λ r. refl) (capture_rows o w e 0 (capture_entries l n)), rows_long o w e 0 (capture_entries l n), rest_length (entry_at l) n)

      first_row : flat capture_numbers (capture_rows o w e h (rest (entry_at l) n i)) ≡ capture_numbers y ++ flat capture_numbers (capture_rows o w e (h + x.header) (rest (entry_at l) n (i + 1)))
      unfolding flat capture_rows
      first_row = rw (rest_at (entry_at l) n i x q lt, v, j)

      pub row_on : (out' : List ℕ) → out' ≡ put_row capture_width out i (capture_numbers y) → Rowing l n o w e m out' (h + x.header) (i + 1)
      row_on out' z = record {
        sum = omega (arith, S.sum, headers_at l n i x q lt);
        good = and_right (leb o x.start && leb x.start e) _ split;
        part = part_row _ _ m out i _ S.part (capture_numbers y) _ first_row enough refl out' z;
      }

-- ---- annotations
pub map_long : {A B : Type 0} (f : A → B) (xs : List A) → length (map f xs) ≡ length xs
map_long f [] = refl
map_long f (x ∷ t) = ap suc (map_long f t)

pub record Noting (l : List ℕ) (n o e : ℕ) (m out : List ℕ) (i : ℕ) : Type 0 where
  pub good : all_notes o e (rest (note_at l) n i) ≡ true
  pub part : Part annotation_width (flat annotation_numbers (map (annotation_row e) (rest (note_at l) n 0))) m out i (flat annotation_numbers (map (annotation_row e) (rest (note_at l) n i)))

pub notes_begin : (l : List ℕ) (n o e : ℕ) (m : List ℕ) → all_notes o e (rest (note_at l) n 0) ≡ true → Noting l n o e m m 0
notes_begin l n o e m g = record { good = g; part = part_begin _ _ m }

module _ (l : List ℕ) (n o e : ℕ) (m out : List ℕ) (i : ℕ) (S : Noting l n o e m out i) where
  pub notes_end : n ≤ i → out ≡ written (flat annotation_numbers (map (annotation_row e) (rest (note_at l) n 0))) m
  unfolding flat
  notes_end g = part_end _ _ m out i _ S.part (rw (rest_none (note_at l) n i g))

  module _ (x : AnnotationEntry) (q : x ≡ note_at l i) (lt : i < n) where
    note_split : note_ok o e x && all_notes o e (rest (note_at l) n (i + 1)) ≡ true
    unfolding all_notes
    note_split = rw (rest_at (note_at l) n i x q lt) at S.good

    pub note_inside : note_end e x.start x.count ≤ e
    note_inside = leb-true _ e (and_right (leb o x.start && leb x.start e) _ (and_left (note_ok o e x) _ note_split))

    module _ (room : annotation_width * n ≤ length m) (end : ℕ) (j : end ≡ note_end e x.start x.count) where
      note_enough : length (flat annotation_numbers (map (annotation_row e) (rest (note_at l) n 0))) ≤ length m
      note_enough = omega (arith, length_flat annotation_numbers annotation_width (λ r. refl) (map (annotation_row e) (rest (note_at l) n 0)), map_long (annotation_row e) (rest (note_at l) n 0), rest_length (note_at l) n)

      first_note : flat annotation_numbers (map (annotation_row e) (rest (note_at l) n i))
          ≡ (annotation_numbers (record { start = x.start; end = end; texts = x.texts })) ++ flat annotation_numbers (map (annotation_row e) (rest (note_at l) n (i + 1)))
      unfolding flat
      first_note = rw (rest_at (note_at l) n i x q lt, j)

      pub note_on : (out' : List ℕ) → out' ≡ put_row annotation_width out i (annotation_numbers (record { start = x.start; end = end; texts = x.texts })) → Noting l n o e m out' (i + 1)
      note_on out' z = record {
        good = and_right (note_ok o e x) _ note_split;
        part = part_row _ _ m out i _ S.part (annotation_numbers (record { start = x.start; end = end; texts = x.texts })) _ first_note note_enough refl out' z;
      }
