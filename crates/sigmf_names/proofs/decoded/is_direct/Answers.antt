use Rattle.std.proofs.Common.{arith}
use borrow.Author.Tests.{eq-eqb, lt-ltb}
use Rattle.std.proofs.lemmas.Bool.Decides.{nat_tests}
use Rattle.sigmf_names.specs.DecodedCode.{direct_at}
use Rattle.sigmf_names.proofs.decoded.is_direct.Goals as goal

pub returns-then-p-raw : goal.returns-then-p-raw
unfolding direct_at
returns-then-p-raw c = rw (eq-eqb _ _ c.if-p-raw.true.0, lt-ltb _ _ c.if-p-raw.true.1) c.is_ordinary.ensures

pub returns-else-p-raw : goal.returns-else-p-raw
unfolding direct_at
returns-else-p-raw c = grind (arith, nat_tests)
