use Rattle.reader_layout.proofs.WriteLaws.{Noting}
use Rattle.reader_layout.proofs.write_annotations.Given as goal

abbrev pub invariant-loop-i : goal.invariant-loop-i
invariant-loop-i l = Noting l.notes l.fn.t.annotations l.fn.t.offset l.e l.initial.out l.out l.i
