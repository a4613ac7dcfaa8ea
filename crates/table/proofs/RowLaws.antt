-- Laws of rows in flat memory.
use Prim.Native.Nat.{ℕ, zero, suc, ◌+◌, ◌-◌, ◌*◌, ◌/◌, ◌≤◌, ◌<◌}
use mathlib.Core.Path.{◌≡◌, refl, sym, ap, subst, ◌∙◌}
use mathlib.Core.List.{List, [], ◌∷◌, ◌++◌, append_assoc}
use native.Mathlib.Omega.{arith}
use native.Mathlib.Numerals.{add-one}
use native.Mathlib.Nat.{add-zero}
use lib.ListN.{length, get_or, take, drop, set, length-append}
use lib.Seq.{get_or-take, get_or-drop, sets-eq, take_at, drop_at, drop-drop}
use lib.Dec.{leb}
use borrow.Author.Tests.{le-leb, lt-leb}
use Rattle.table.specs.declared.Capture.{Capture}
use Rattle.table.specs.declared.Annotation.{Annotation}
use Rattle.table.specs.Memory.{row, put_row}
use Rattle.table.proofs.Bools.{leb_same}
use Rattle.table.specs.Rows.{capture_width, capture_numbers, capture_of, capture_at, annotation_width, annotation_numbers, annotation_of, annotation_at, rows_from, rest, flat, captures, annotations}

-- ---- what is left of the rows
module _ {A : Type 0} (at : ℕ → A) (n i : ℕ) where
  -- one row more
  pub rest_more : i < n → rest at n i ≡ at i ∷ rest at n (i + 1)
  unfolding rows_from
  rest_more h =
      let e : n - i ≡ suc (n - (i + 1)) = omega arith in
      rw (e, add-one i)

  -- the same, with the row by a name
  pub rest_at : (x : A) → x ≡ at i → i < n → rest at n i ≡ x ∷ rest at n (i + 1)
  rest_at x e h = rest_more h ∙ rw e

  pub rest_none : n ≤ i → rest at n i ≡ []
  unfolding rows_from
  rest_none h =
      let e : n - i ≡ 0 = omega arith in
      rw e

-- how many there are
rows_length : {A : Type 0} (at : ℕ → A) (k i : ℕ) → length (rows_from at k i) ≡ k
unfolding rows_from
rows_length at zero i = refl
rows_length at (suc k) i = ap suc (rows_length at k (suc i))

pub rest_length : {A : Type 0} (at : ℕ → A) (n : ℕ) → length (rest at n 0) ≡ n
rest_length at n = rows_length at (n - 0) 0 ∙ omega arith

-- ---- a row, number by number
pub row_number : (w : ℕ) (m : List ℕ) (i k : ℕ) → w * i + w ≤ length m → k < w → get_or (row w m i) k 0 ≡ get_or m (w * i + k) 0
unfolding row
row_number w m i k h q = rw (le-leb _ _ h) (get_or-take w (drop (w * i) m) k 0 q ∙ get_or-drop (w * i) m k 0)

pub row_none : (w : ℕ) (m : List ℕ) (i : ℕ) → length m < w * i + w → row w m i ≡ []
unfolding row
row_none w m i h = rw (lt-leb _ _ h)

module _ (m : List ℕ) (i : ℕ) where
  -- a row made of its four numbers
  module _ (a b c d : ℕ) (e : a ≡ get_or m (4 * i) 0) (f : b ≡ get_or m (4 * i + 1) 0) (g : c ≡ get_or m (4 * i + 2) 0) (h : d ≡ get_or m (4 * i + 3) 0)
      (lt : 4 * (i + 1) ≤ length m) where
    fit : 4 * i + 4 ≤ length m
    fit = omega arith

    pub capture_in_lem : record { start = a; end = b; first = c; header = d } ≡ capture_at m i
    unfolding capture_at
    capture_in_lem = rw (e, f, g, h, row_number 4 m i 0 fit (omega arith), row_number 4 m i 1 fit (omega arith), row_number 4 m i 2 fit (omega arith), row_number 4 m i 3 fit (omega arith), add-zero (4 * i))

    pub annotation_in_lem : record { start = a; end = b; texts = record { label = record { at = c; len = d } } } ≡ annotation_at m i
    unfolding annotation_at
    annotation_in_lem = rw (e, f, g, h, row_number 4 m i 0 fit (omega arith), row_number 4 m i 1 fit (omega arith), row_number 4 m i 2 fit (omega arith), row_number 4 m i 3 fit (omega arith), add-zero (4 * i))

  module _ (n : ℕ) (long : n ≡ length m) (le : n / 4 ≤ i) where
    pub capture_out : record { start = 0; end = 0; first = 0; header = 0 } ≡ capture_at m i
    unfolding capture_at
    capture_out = rw (row_none capture_width m i (omega arith))

    pub annotation_out : record { start = 0; end = 0; texts = record { label = record { at = 0; len = 0 } } } ≡ annotation_at m i
    unfolding annotation_at
    annotation_out = rw (row_none annotation_width m i (omega arith))

  -- four stores are a row
  pub put_in : (a b c d : ℕ) → i < length m / 4
      → set (set (set (set m (4 * i) a) (4 * i + 1) b) (4 * i + 2) c) (4 * i + 3) d ≡ put_row 4 m i (a ∷ b ∷ c ∷ d ∷ [])
  unfolding put_row
  put_in a b c d h =
      let g : 4 * i + 4 ≤ length m = omega arith in
      let e1 : 4 * i + 1 ≡ suc (4 * i) = omega arith in
      let e2 : 4 * i + 2 ≡ suc (suc (4 * i)) = omega arith in
      let e3 : 4 * i + 3 ≡ suc (suc (suc (4 * i))) = omega arith in
      rw (e1, e2, e3, le-leb _ _ g) (sets-eq (a ∷ b ∷ c ∷ d ∷ []) m (4 * i) g)

  pub put_out : (xs : List ℕ) → length m / 4 ≤ i → m ≡ put_row 4 m i xs
  unfolding put_row
  put_out xs h =
      let g : length m < 4 * i + 4 = omega arith in
      rw (lt-leb _ _ g)

-- a row put where there is room
pub put_room : (w : ℕ) (m : List ℕ) (i : ℕ) (xs : List ℕ) → w * i + w ≤ length m → put_row w m i xs ≡ take (w * i) m ++ xs ++ drop (w * i + w) m
unfolding put_row
put_room w m i xs h = rw (le-leb _ _ h)

-- rows of w numbers each, as flat numbers
pub length_flat : {A : Type 0} (numbers : A → List ℕ) (w : ℕ) → ((r : A) → length (numbers r) ≡ w) → (rs : List A) → length (flat numbers rs) ≡ w * length rs
unfolding flat
length_flat numbers w long [] = omega arith
length_flat numbers w long (r ∷ t) =
    let h = length_flat numbers w long t in
    let z : w * suc (length t) ≡ w + w * length t = omega arith in
    omega (arith, long r, length-append (numbers r) (flat numbers t))

-- ---- rows written as numbers are read back
module _ {A : Type 0} (w : ℕ) (of : List ℕ → A) (numbers : A → List ℕ) (long : (r : A) → length (numbers r) ≡ w) (back : (r : A) → of (numbers r) ≡ r) where
  -- the reading of row i
  abbrev reads : List ℕ → ℕ → A
  reads m i = of (row w m i)

  first_row : (r : A) (m : List ℕ) → reads (numbers r ++ m) 0 ≡ r
  unfolding row
  first_row r m =
      let z : w * 0 ≡ 0 = omega arith in
      let g : 0 + w ≤ length (numbers r ++ m) = omega (arith, length-append (numbers r) m, long r) in
      rw (z, le-leb _ _ g, take_at (numbers r) m w (long r)) (back r)

  later_row : (r : A) (m : List ℕ) (i : ℕ) → reads (numbers r ++ m) (suc i) ≡ reads m i
  unfolding row
  later_row r m i =
      let z : w * suc i ≡ w + w * i = omega arith in
      let d : drop (w + w * i) (numbers r ++ m) ≡ drop (w * i) m = sym (drop-drop (w * i) w (numbers r ++ m)) ∙ ap (drop (w * i)) (drop_at (numbers r) m w (long r)) in
      let t : leb (w + w * i + w) (length (numbers r ++ m)) ≡ leb (w * i + w) (length m)
      = leb_same (w + w * i + w) (length (numbers r ++ m)) (w * i + w) (length m) (λ h. omega (arith, length-append (numbers r) m, long r)) (λ h. omega (arith, length-append (numbers r) m, long r)) in
      rw (z, d, t)

  later_rows : (r : A) (m : List ℕ) (k i : ℕ) → rows_from (reads (numbers r ++ m)) k (suc i) ≡ rows_from (reads m) k i
  unfolding rows_from
  later_rows r m zero i = refl
  later_rows r m (suc k) i = rw (later_row r m i, later_rows r m k (suc i))

  pub rows_back : (rs : List A) (m : List ℕ) → rows_from (reads (flat numbers rs ++ m)) (length rs) 0 ≡ rs
  unfolding rows_from flat
  rows_back [] m = refl
  rows_back (r ∷ t) m =
      let a : flat numbers (r ∷ t) ++ m ≡ numbers r ++ (flat numbers t ++ m) = append_assoc (numbers r) (flat numbers t) m in
      subst (λ (x : List ℕ). rows_from (reads x) (suc (length t)) 0 ≡ r ∷ t) (sym a) (rw (first_row r (flat numbers t ++ m), later_rows r (flat numbers t ++ m) (length t) 0, rows_back t m))

pub captures_back : (rs : List Capture) (m : List ℕ) → captures (flat capture_numbers rs ++ m) (length rs) ≡ rs
unfolding capture_at
captures_back rs m =
    let e : length rs - 0 ≡ length rs = omega arith in
    rw e (rows_back capture_width capture_of capture_numbers (λ r. refl) (λ r. refl) rs m)

pub annotations_back : (rs : List Annotation) (m : List ℕ) → annotations (flat annotation_numbers rs ++ m) (length rs) ≡ rs
unfolding annotation_at
annotations_back rs m =
    let e : length rs - 0 ≡ length rs = omega arith in
    rw e (rows_back annotation_width annotation_of annotation_numbers (λ r. refl) (λ r. refl) rs m)
