use Rattle.sigmf_names.proofs.DecodedLaws.{Put}
use Rattle.sigmf_names.proofs.decoded.put_decoded.Given as goal

abbrev pub invariant-loop-n : goal.invariant-loop-n
invariant-loop-n l = Put l.raw l.initial.out l.p l.n l.out
