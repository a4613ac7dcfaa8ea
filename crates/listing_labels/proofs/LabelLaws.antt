-- Laws of the labels of all rows from row k on.
use Prim.Native.Nat.{ℕ, ◌+◌, ◌≤◌, ◌<◌}
use mathlib.Core.Path.{◌≡◌}
use mathlib.Core.Bool.{true, ◌&&◌}
use mathlib.Core.List.{List}
use Rattle.table.specs.Rows.{annotation_at, rest}
use Rattle.table.proofs.RowLaws.{rest_more, rest_none}
use Rattle.listing_labels.specs.Label.{label_ok, labels_ok}

module _ (s l : List ℕ) (n k : ℕ) where
  pub labels_more : k < n → labels_ok s (rest (annotation_at l) n k) ≡ label_ok s (annotation_at l k) && labels_ok s (rest (annotation_at l) n (k + 1))
  unfolding labels_ok
  labels_more h = rw (rest_more (annotation_at l) n k h)

  pub labels_none : n ≤ k → labels_ok s (rest (annotation_at l) n k) ≡ true
  unfolding labels_ok
  labels_none h = rw (rest_none (annotation_at l) n k h)
