-- Row k of a layout, by what entry k says.
use Prim.Native.Nat.{ℕ, zero, suc, ◌+◌, ◌-◌, ◌<◌}
use mathlib.Core.Path.{◌≡◌, sym, ap, ◌∙◌}
use native.Mathlib.Omega.{arith}
use lib.ListN.{get_or, get_or-map}
use Rattle.table.specs.declared.Capture.{Capture}
use Rattle.table.specs.Rows.{rows_from, rest}
use Rattle.table.specs.declared.AnnotationEntry.{AnnotationEntry}
use Rattle.reader_layout.specs.Layout.{Contents, end_index, annotations_in}
use Rattle.table.specs.Samples.{annotation_row}

-- row k of n rows read from row i on
rows_at : {A : Type 0} (at : ℕ → A) (z : A) (n i k : ℕ) → k < n → get_or (rows_from at n i) k z ≡ at (i + k)
unfolding rows_from
rows_at at z zero i k h = absurd (omega arith)
rows_at at z (suc n) i zero h = ap at (omega arith)
rows_at at z (suc n) i (suc k) h = rows_at at z n (suc i) k (omega arith) ∙ ap at (omega arith)

pub rest_row : {A : Type 0} (at : ℕ → A) (z : A) (n k : ℕ) → k < n → at k ≡ get_or (rest at n 0) k z
rest_row at z n k h =
    let e : n - 0 ≡ n = omega arith in
    let f : 0 + k ≡ k = omega arith in
    rw e (sym (rows_at at z n 0 k h ∙ ap at f))

-- past the end of a list
abbrev pub no_row : Capture
no_row = record { start = 0; end = 0; first = 0; header = 0 }

module _ (c : Contents) (d k : ℕ) where
  pub annotation_row_lem : (z : AnnotationEntry) → get_or (annotations_in c d) k (annotation_row (end_index c d) z) ≡ annotation_row (end_index c d) (get_or c.annotations k z)
  annotation_row_lem z = get_or-map (annotation_row (end_index c d)) c.annotations k z
