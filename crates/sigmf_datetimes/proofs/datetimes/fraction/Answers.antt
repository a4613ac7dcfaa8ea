use native.Mathlib.Omega.{arith}
use Rattle.json_strings.proofs.DecodeLaws.{streamed_next}
use Rattle.std.proofs.lemmas.Grind.{common_steps}
use Rattle.sigmf_datetimes.specs.Datetimes.{fraction_of}
use Rattle.sigmf_datetimes.proofs.datetimes.fraction.Goals as goal

pub returns-in_default-4 : goal.returns-in_default-4
unfolding fraction_of
returns-in_default-4 c = rw (streamed_next _ _ _ c.next.ensures _ _ c.in_ok-b.was) (grind (arith, common_steps))
