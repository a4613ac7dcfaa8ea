use Rattle.table.specs.Rows.{annotation_at}
use Rattle.table_cuts.specs.Cut.{shares_annotation}
use Rattle.table_cuts.proofs.KeepLaws.{Counting}
use Rattle.table_cuts.proofs.count_annotations.Given as goal

abbrev pub invariant-loop-k : goal.invariant-loop-k
invariant-loop-k l = Counting (annotation_at l.notes) (shares_annotation l.a l.b) l.n l.c l.k
