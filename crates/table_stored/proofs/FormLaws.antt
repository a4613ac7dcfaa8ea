-- Laws of the stored form: numbers as eight bytes each, rows as numbers, and lengths.
use Prim.Native.Nat.{ℕ, zero, suc, ◌+◌, ◌-◌, ◌*◌, ◌/◌, ◌^◌, ◌≤◌, ◌<◌}
use mathlib.Core.Path.{◌≡◌, refl, sym, ap, ◌∙◌, subst}
use mathlib.Core.List.{List, [], ◌∷◌, ◌++◌, append_assoc, append-nil}
use native.Mathlib.Omega.{arith}
use lib.ListN.{length, get_or, take, drop, length-append, length-drop, take-append-drop, drop_of_length-le}
use lib.Seq.{take_at, drop_at, drop-drop, take-add, length-take-le}
use borrow.Author.Tests.{le-leb}
use Rattle.little_endian.specs.LittleEndian.{little_endian, number_of, number_width, numbers_from, numbers_of}
use Rattle.little_endian.proofs.NumberLaws.{length_bytes, number_back, Bytes, bytes_back, bytes_take, bytes_drop}
use Rattle.table.specs.Memory.{row}
use Rattle.table.specs.Rows.{capture_width, capture_numbers, capture_of, capture_at, annotation_width, annotation_numbers, annotation_of, annotation_at, rows_from, rest, flat, captures, annotations, Table, captures_of, annotations_of}
use Rattle.table.specs.declared.Summary.{Summary}
use Rattle.table.specs.Summary.{summary_width, summary_numbers}
use Rattle.table.proofs.RowLaws.{length_flat, rest_length}
use Rattle.table.proofs.SummaryLaws.{whole_by_place}
use Rattle.table_stored.specs.Form.{opening, opening_size, head_size, eight_each, capture_bytes, annotation_bytes, stored_of}

-- ---- numbers, eight bytes each
pub length_eight : (xs : List ℕ) → length (eight_each xs) ≡ number_width * length xs
length_eight = length_flat (little_endian number_width) number_width (length_bytes number_width)

pub front_bytes : (l : List ℕ) (n : ℕ) → n ≤ length l → length (eight_each (take n l)) ≡ number_width * n
front_bytes l n h = length_eight (take n l) ∙ ap (λ (k : ℕ). number_width * k) (length-take-le n l h)

-- each number fits in eight bytes
abbrev pub Small : List ℕ → Type 0
Small [] = Unit {0}
Small (x ∷ l) = (x < 2 ^ 64) × Small l

pub small_append : (k l : List ℕ) → Small k → Small l → Small (k ++ l)
small_append [] l h s = s
small_append (x ∷ k) l h s = (h.0, small_append k l h.1 s)

-- read back, with anything after them
pub numbers_front : (xs r : List ℕ) → Small xs → numbers_from (length xs) (eight_each xs ++ r) ≡ xs
unfolding numbers_from flat
numbers_front [] r s = refl
numbers_front (x ∷ xs) r s =
    let b = little_endian number_width x in
    let k = length_bytes number_width x in
    rw (append_assoc b (eight_each xs) r, take_at b (eight_each xs ++ r) number_width k, drop_at b (eight_each xs ++ r) number_width k, number_back number_width x s.0, numbers_front xs r s.1)

-- bytes that are n numbers, and no more
pub numbers_exact : (n : ℕ) (l : List ℕ) → length l ≡ number_width * n → numbers_of l ≡ numbers_from n l
numbers_exact n l e =
    let k : length l / number_width ≡ n = omega arith in
    rw k

pub numbers_back : (xs : List ℕ) → Small xs → numbers_of (eight_each xs) ≡ xs
numbers_back xs s = numbers_exact (length xs) (eight_each xs) (length_eight xs) ∙ subst (λ (l : List ℕ). numbers_from (length xs) l ≡ xs) (append-nil (eight_each xs)) (numbers_front xs [] s)

-- written back
pub eight_back : (n : ℕ) (l : List ℕ) → length l ≡ number_width * n → Bytes l → eight_each (numbers_from n l) ≡ l
unfolding numbers_from flat
eight_back zero l e h = sym (drop_of_length-le l {i = 0} (omega arith))
eight_back (suc n) l e h =
    let k : length (take number_width l) ≡ number_width = length-take-le number_width l (omega arith) in
    let b : little_endian number_width (number_of (take number_width l)) ≡ take number_width l
    = subst (λ (j : ℕ). little_endian j (number_of (take number_width l)) ≡ take number_width l) k (bytes_back (take number_width l) (bytes_take number_width l h)) in
    let d : length (drop number_width l) ≡ number_width * n = omega (arith, length-drop number_width l) in
    rw (b, eight_back n (drop number_width l) d (bytes_drop number_width l h)) (take-append-drop number_width l)

-- ---- rows read off numbers are those numbers
module _ {A : Type 0} (w : ℕ) (of : List ℕ → A) (numbers : A → List ℕ) (whole : (l : List ℕ) → length l ≡ w → numbers (of l) ≡ l) (m : List ℕ) where
  row_whole : (i : ℕ) → w * i + w ≤ length m → numbers (of (row w m i)) ≡ take w (drop (w * i) m)
  unfolding row
  row_whole i h = rw (le-leb _ _ h) (whole (take w (drop (w * i) m)) (length-take-le w (drop (w * i) m) (omega (arith, length-drop (w * i) m))))

  rows_forth : (k i : ℕ) → w * i + w * k ≤ length m → flat numbers (rows_from (λ j. of (row w m j)) k i) ≡ take (w * k) (drop (w * i) m)
  unfolding rows_from flat
  rows_forth zero i h =
      let z : w * 0 ≡ 0 = omega arith in
      rw z
  rows_forth (suc k) i h =
      let a : w * suc k ≡ w + w * k = omega arith in
      let b : w * suc i ≡ w * i + w = omega arith in
      let d : drop (w * suc i) m ≡ drop w (drop (w * i) m) = rw b (sym (drop-drop w (w * i) m)) in
      rw (a, row_whole i (omega arith), rows_forth k (suc i) (omega arith), d) (sym (take-add w (w * k) (drop (w * i) m)))

  pub rows_front : (n : ℕ) → w * n ≤ length m → flat numbers (rest (λ j. of (row w m j)) n 0) ≡ take (w * n) m
  rows_front n h =
      let e : n - 0 ≡ n = omega arith in
      let z : w * 0 ≡ 0 = omega arith in
      rw e (rows_forth n 0 (omega arith) ∙ rw z)

-- four numbers by place
four : (l : List ℕ) → length l ≡ 4 → get_or l 0 0 ∷ get_or l 1 0 ∷ get_or l 2 0 ∷ get_or l 3 0 ∷ [] ≡ l
unfolding rows_from
four l e = whole_by_place l 4 e

pub captures_front : (m : List ℕ) (n : ℕ) → capture_width * n ≤ length m → flat capture_numbers (captures m n) ≡ take (capture_width * n) m
unfolding capture_at
captures_front m n h = rows_front capture_width capture_of capture_numbers four m n h

pub annotations_front : (m : List ℕ) (n : ℕ) → annotation_width * n ≤ length m → flat annotation_numbers (annotations m n) ≡ take (annotation_width * n) m
unfolding annotation_at
annotations_front m n h = rows_front annotation_width annotation_of annotation_numbers four m n h

-- ---- lengths
pub opening_length : length opening ≡ opening_size
unfolding little_endian
opening_length = refl

pub summary_length : (s : Summary) → length (eight_each (summary_numbers s)) ≡ number_width * summary_width
summary_length s = length_eight (summary_numbers s)

module _ (t : Table) where
  pub captures_length : length (flat capture_numbers (captures_of t)) ≡ capture_width * t.summary.captures
  captures_length = length_flat capture_numbers capture_width (λ r. refl) (captures_of t) ∙ ap (λ (n : ℕ). capture_width * n) (rest_length (capture_at t.captures) t.summary.captures)

  pub annotations_length : length (flat annotation_numbers (annotations_of t)) ≡ annotation_width * t.summary.annotations
  annotations_length = length_flat annotation_numbers annotation_width (λ r. refl) (annotations_of t) ∙ ap (λ (n : ℕ). annotation_width * n) (rest_length (annotation_at t.annotations) t.summary.annotations)

  pub capture_bytes_lem : length (eight_each (flat capture_numbers (captures_of t))) ≡ capture_bytes t.summary.captures
  capture_bytes_lem = length_eight (flat capture_numbers (captures_of t)) ∙ ap (λ (n : ℕ). number_width * n) captures_length

  pub annotation_bytes_lem : length (eight_each (flat annotation_numbers (annotations_of t))) ≡ annotation_bytes t.summary.annotations
  annotation_bytes_lem = length_eight (flat annotation_numbers (annotations_of t)) ∙ ap (λ (n : ℕ). number_width * n) annotations_length

  pub stored_length : length (stored_of t) ≡ head_size + capture_bytes t.summary.captures + annotation_bytes t.summary.annotations
  unfolding stored_of
  stored_length =
      let s = eight_each (summary_numbers t.summary) in
      let c = eight_each (flat capture_numbers (captures_of t)) in
      let n = eight_each (flat annotation_numbers (annotations_of t)) in
      omega (arith, length-append (opening ++ s ++ c) n, length-append (opening ++ s) c, length-append opening s, opening_length, summary_length t.summary, capture_bytes_lem, annotation_bytes_lem)
