use Rattle.table.specs.Rows.{annotation_width, annotation_at, annotation_numbers}
use Rattle.table_cuts.specs.Cut.{shares_annotation, clip_annotation}
use Rattle.table_cuts.proofs.KeepLaws.{Keeping}
use Rattle.table_cuts.proofs.write_annotations.Given as goal

abbrev pub invariant-loop-k : goal.invariant-loop-k
invariant-loop-k l = Keeping (annotation_at l.notes) (shares_annotation l.a l.b) (clip_annotation l.a l.b) annotation_numbers annotation_width l.initial.out l.n l.out l.c l.k
