use Rattle.sigmf_datetimes.proofs.DatetimeLaws.{end_is}
use Rattle.sigmf_datetimes.proofs.datetimes.is_end.Goals as goal

pub returns : goal.returns
returns c = end_is _ _ _ _ c.next.ensures c.is_none.ensures
