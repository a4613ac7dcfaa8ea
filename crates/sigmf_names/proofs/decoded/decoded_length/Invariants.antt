use Rattle.sigmf_names.proofs.DecodedLaws.{Counted}
use Rattle.sigmf_names.proofs.decoded.decoded_length.Given as goal

abbrev pub invariant-loop-n : goal.invariant-loop-n
invariant-loop-n l = Counted l.raw l.limit l.p l.n
