use borrow.Author.Tests.{eq-eqb, ne_eqb}
use Rattle.json_strings.proofs.DecodeLaws.{streamed_next}
use Rattle.sigmf_datetimes.specs.Datetimes.{zoned}
use Rattle.sigmf_datetimes.proofs.datetimes.is_zoned.Goals as goal

pub returns-then-b-eq90 : goal.returns-then-b-eq90
unfolding zoned
returns-then-b-eq90 c = rw (← c.loop-b.invariant, streamed_next _ _ _ c.next.ensures _ _ c.in-Some.is, eq-eqb _ _ c.if-b-eq90.true) c.is_end.ensures

pub returns-then-not-is_within : goal.returns-then-not-is_within
unfolding zoned
returns-then-not-is_within c = rw (← c.loop-b.invariant, streamed_next _ _ _ c.next.ensures _ _ c.in-Some.is, ne_eqb _ _ c.if-b-eq90.false, ← c.is_within.ensures, c.if-not-is_within.true)
