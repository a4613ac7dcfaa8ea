use borrow.Author.Tests.{ne_eqb}
use Rattle.json_strings.proofs.DecodeLaws.{streamed_next}
use Rattle.sigmf_datetimes.specs.Datetimes.{pair_then, mark_after}
use Rattle.sigmf_datetimes.proofs.datetimes.pair_then.Goals as goal

pub returns-then-b-mark-clause-read : goal.returns-then-b-mark-clause-read
unfolding pair_then mark_after
returns-then-b-mark-clause-read c = rw (← c.pair.ensures.read, c.in_ok-v.was, streamed_next _ _ _ c.next.ensures _ _ c.in_ok-b.was, ne_eqb _ _ c.if-b-mark.true)
