use Rattle.json_strings.proofs.DecodeLaws.{streamed_next}
use Rattle.sigmf_datetimes.proofs.datetimes.begins_digit.Goals as goal

pub returns : goal.returns
returns c = rw (streamed_next _ _ _ c.next.ensures _ _ c.in-Some.is) c.is_within.ensures
