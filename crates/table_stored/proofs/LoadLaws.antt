-- Laws of loading, as the code divides it.
use Prim.Native.Nat.{ℕ, ◌+◌, ◌-◌, ◌*◌, ◌/◌, ◌≤◌, ◌<◌}
use mathlib.Core.Path.{◌≡◌, refl, sym, ap, subst, ◌∙◌}
use mathlib.Core.Bool.{Bool, true, false, cond, ◌&&◌, false≢true}
use mathlib.Core.List.{List}
use native.Mathlib.Omega.{arith}
use lib.ListN.{length, take, drop, length-drop}
use lib.Seq.{take_all}
use lib.Dec.{leb, eqb}
use borrow.Author.Tests.{le-leb, lt-leb, eq-eqb, ne_eqb, eqb-true}
use Rattle.little_endian.specs.LittleEndian.{number_width, numbers_of}
use Rattle.little_endian.proofs.NumberLaws.{numbers_length}
use Rattle.table.specs.declared.Summary.{Summary}
use Rattle.table.specs.Memory.{written}
use Rattle.table.specs.Rows.{capture_width, annotation_width, Table, table}
use Rattle.table.specs.Table.{well_formed, no_table}
use Rattle.table.proofs.Bools.{and_right, and_false}
use Rattle.table.proofs.TableLaws.{formed}
use Rattle.output.specs.Put.{put_front}
use Rattle.table_stored.specs.Form.{head_size, summary_in, capture_bytes, annotation_bytes, table_in}
use Rattle.table_stored.specs.Load.{opens, length_ok, load_answer, captures_loaded, annotations_loaded}
use Rattle.table_stored.specs.LoadParts.{rows_refusal}

-- ---- a table whose rows stand in bytes
module _ (t : Table) (m k : List ℕ) (b : Bool) (e : b ≡ well_formed t) where
  pub rows_18 : b ≡ false → 18 ≡ rows_refusal t (length m) (length k)
  unfolding rows_refusal
  rows_18 f = rw (sym e ∙ f)

  module _ (f : b ≡ true) where
    pub rows_captures : length m / capture_width < t.summary.captures → 20 ≡ rows_refusal t (length m) (length k)
    unfolding rows_refusal
    rows_captures h =
        let z : length m < capture_width * t.summary.captures = omega arith in
        rw (sym e ∙ f, lt-leb _ _ z)

    pub rows_annotations : length k / annotation_width < t.summary.annotations → 20 ≡ rows_refusal t (length m) (length k)
    unfolding rows_refusal
    rows_annotations h =
        let z : length k < annotation_width * t.summary.annotations = omega arith in
        rw (sym e ∙ f, lt-leb _ _ z, and_false (leb (capture_width * t.summary.captures) (length m)))

    pub rows_fit : t.summary.captures ≤ length m / capture_width → t.summary.annotations ≤ length k / annotation_width → 0 ≡ rows_refusal t (length m) (length k)
    unfolding rows_refusal
    rows_fit g h =
        let y : capture_width * t.summary.captures ≤ length m = omega arith in
        let z : annotation_width * t.summary.annotations ≤ length k = omega arith in
        rw (sym e ∙ f, le-leb _ _ y, le-leb _ _ z)

-- the numbers of n rows of w numbers, put where there is room
pub rows_put : (w n : ℕ) (l m out : List ℕ) → length l ≡ number_width * (w * n) → w * n ≤ length m → out ≡ put_front (numbers_of l) m → out ≡ written (numbers_of l) m
unfolding put_front
rows_put w n l m out z h e =
    let g : length (numbers_of l) ≤ length m = omega (arith, numbers_length (length l / number_width) l) in
    e ∙ rw (le-leb _ _ g)

-- what the rows' part leaves: r is its answer, m and k are the memories before it
abbrev pub RowsLoaded : Table → ℕ → List ℕ → List ℕ → List ℕ → List ℕ → Type 0
RowsLoaded t r m m' k k' = (r ≡ rows_refusal t (length m) (length k)) × ((m' ≡ cond (eqb r 0) (written t.captures m) m) × (k' ≡ cond (eqb r 0) (written t.annotations k) k))

pub rows_same : (t u : Table) → t ≡ u → (r : ℕ) (m m' k k' : List ℕ) → RowsLoaded t r m m' k k' → RowsLoaded u r m m' k k'
rows_same t u e r m m' k k' R = subst (λ (v : Table). RowsLoaded v r m m' k k') e R

-- ---- the parts of a file
module _ (f : List ℕ) (t : Summary) (e : t ≡ summary_in f) (l : length_ok f ≡ true) where
  pub file_length : length f ≡ 101 + 32 * t.captures + 32 * t.annotations
  unfolding length_ok
  file_length = rw e (omega (arith, eqb-true (length f) (head_size + capture_bytes (summary_in f).captures + annotation_bytes (summary_in f).annotations) (and_right (leb head_size (length f)) _ l)))

  pub file_table : (from end : ℕ) → from ≡ 101 + 32 * t.captures → end ≡ from + 32 * t.annotations
      → table t (numbers_of (take (from - 101) (drop 101 f))) (numbers_of (take (end - from) (drop from f))) ≡ table_in f
  unfolding table_in
  file_table from end g h =
      let c : from - 101 ≡ capture_bytes t.captures = omega arith in
      let d : from ≡ head_size + capture_bytes t.captures = omega arith in
      let w : take (end - from) (drop from f) ≡ drop from f = take_all (end - from) (drop from f) (omega (arith, length-drop from f, file_length)) in
      rw (c, w, d, e)

-- its length is right, or not
module _ (f : List ℕ) (h : 101 ≤ length f) (t : Summary) (e : t ≡ summary_in f) (b : Bool) (z : b ≡ eqb (length f - 101) (capture_bytes t.captures + annotation_bytes t.annotations)) where
  abbrev rows : ℕ
  rows = capture_bytes (summary_in f).captures + annotation_bytes (summary_in f).annotations

  judged : b ≡ eqb (length f - 101) rows
  judged = z ∙ ap (λ (s : Summary). eqb (length f - 101) (capture_bytes s.captures + annotation_bytes s.annotations)) e

  pub length_good : b ≡ true → length_ok f ≡ true
  unfolding length_ok
  length_good y =
      let g : length f ≡ head_size + capture_bytes (summary_in f).captures + annotation_bytes (summary_in f).annotations = omega (arith, eqb-true (length f - 101) rows (sym judged ∙ y)) in
      rw (le-leb head_size (length f) h, eq-eqb _ _ g)

  length_bad : b ≡ false → length_ok f ≡ false
  unfolding length_ok
  length_bad y =
      let g : length f ≡ head_size + capture_bytes (summary_in f).captures + annotation_bytes (summary_in f).annotations → ⊥
      = λ q. false≢true (sym y ∙ judged ∙ eq-eqb (length f - 101) rows (omega (arith, q))) in
      rw (le-leb head_size (length f) h, ne_eqb (length f) (head_size + capture_bytes (summary_in f).captures + annotation_bytes (summary_in f).annotations) g)

-- ---- the answer s, and the memories m and k after it
abbrev pub Loaded : List ℕ → Summary → List ℕ → List ℕ → List ℕ → List ℕ → Type 0
Loaded f s m m' k k' = (s ≡ load_answer f (length m) (length k)) × ((m' ≡ captures_loaded f m k) × (k' ≡ annotations_loaded f m k))

module _ (f m k : List ℕ) (s : Summary) where
  -- a refusal keeps both memories
  alone : (n : ℕ) → s ≡ no_table n → load_answer f (length m) (length k) ≡ no_table n → eqb n 0 ≡ false → Loaded f s m m k k
  alone n z a q = (z ∙ sym a, (rw (a, q), rw (a, q)))

  pub loaded_21 : s ≡ no_table 21 → (b : Bool) → b ≡ opens f → b ≡ false → Loaded f s m m k k
  unfolding load_answer
  loaded_21 z b e y = alone 21 z (rw (sym e ∙ y)) refl

  module _ (b : Bool) (e : b ≡ opens f) (y : b ≡ true) where
    wrong : s ≡ no_table 22 → length_ok f ≡ false → Loaded f s m m k k
    unfolding load_answer
    wrong z h = alone 22 z (rw (sym e ∙ y, h)) refl

    pub loaded_short : s ≡ no_table 22 → length f < 101 → Loaded f s m m k k
    loaded_short z h = wrong z (unfold length_ok in rw (lt-leb head_size (length f) h))

    pub loaded_22 : s ≡ no_table 22 → 101 ≤ length f → (t : Summary) → t ≡ summary_in f → (c : Bool) → c ≡ eqb (length f - 101) (capture_bytes t.captures + annotation_bytes t.annotations) → c ≡ false → Loaded f s m m k k
    loaded_22 z h t q c d x = wrong z (length_bad f h t q c d x)

    -- the length is right, and the rows' part answers r
    module _ (l : length_ok f ≡ true) (r : ℕ) (m' k' : List ℕ) (R : RowsLoaded (table_in f) r m m' k k') where
      by_rows : load_answer f (length m) (length k) ≡ cond (eqb r 0) (summary_in f) (no_table r)
      unfolding load_answer rows_refusal table_in
      by_rows = rw (sym e ∙ y, l, R.0) (go (well_formed (table_in f)) (leb (capture_width * (summary_in f).captures) (length m) && leb (annotation_width * (summary_in f).annotations) (length k)))
        where
          go : (p q : Bool) → cond p (cond q (summary_in f) (no_table 20)) (no_table 18) ≡ cond (eqb (cond p (cond q 0 20) 18) 0) (summary_in f) (no_table (cond p (cond q 0 20) 18))
          go true true = refl
          go true false = refl
          go false q = refl

      formed_file : r ≡ 0 → well_formed (table_in f) ≡ true
      unfolding rows_refusal
      formed_file z = go (well_formed (table_in f)) (sym z ∙ R.0)
        where
          go : (p : Bool) → ◌≡◌ {A = ℕ} 0 (cond p (cond (leb (capture_width * (table_in f).summary.captures) (length m) && leb (annotation_width * (table_in f).summary.annotations) (length k)) 0 20) 18) → p ≡ true
          go true q = refl
          go false q = absurd (omega (arith, q))

      said : r ≡ 0 → (summary_in f).refusal ≡ 0
      unfolding table_in
      said z = (formed (table_in f).summary (table_in f).captures (table_in f).annotations (formed_file z)).nums.said

      number : (load_answer f (length m) (length k)).refusal ≡ r
      number = go (eqb r 0) refl
        where
          go : (p : Bool) → eqb r 0 ≡ p → (load_answer f (length m) (length k)).refusal ≡ r
          go true q =
              let z : load_answer f (length m) (length k) ≡ summary_in f = by_rows ∙ rw q in
              ap (λ (x : Summary). x.refusal) z ∙ said (eqb-true r 0 q) ∙ sym (eqb-true r 0 q)
          go false q =
              let z : load_answer f (length m) (length k) ≡ no_table r = by_rows ∙ rw q in
              ap (λ (x : Summary). x.refusal) z

      memories : (m' ≡ captures_loaded f m k) × (k' ≡ annotations_loaded f m k)
      memories = (R.1.0 ∙ rw number, R.1.1 ∙ rw number)

      pub loaded_no : (r ≡ 0 → ⊥) → s ≡ no_table r → Loaded f s m m' k k'
      loaded_no z q = (q ∙ sym (by_rows ∙ rw (ne_eqb r 0 z)), memories)

      pub loaded_all : r ≡ 0 → s ≡ summary_in f → Loaded f s m m' k k'
      loaded_all z q = (q ∙ sym (by_rows ∙ rw (eq-eqb r 0 z)), memories)
