use mathlib.Core.Path.{◌≡◌}
use Rattle.listing_labels.specs.Label.{labels_ok}
use Rattle.table.specs.Rows.{annotation_at, rest}
use Rattle.listing_labels.proofs.labels_ok.Given as goal

abbrev pub invariant-loop-k : goal.invariant-loop-k
invariant-loop-k l = labels_ok l.s (rest (annotation_at l.notes) l.n l.k) ≡ labels_ok l.s (rest (annotation_at l.notes) l.n 0)
