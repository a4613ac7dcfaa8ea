use mathlib.Core.Path.{sym, ◌∙◌}
use Rattle.sigmf_datetimes.proofs.DirectLaws.{date_self}
use Rattle.sigmf_datetimes.proofs.datetimes.date.Goals as goal

pub returns-then-has_date : goal.returns-then-has_date
returns-then-has_date c = date_self c.args.s.now c.args.at (sym c.has_date.ensures ∙ c.if-has_date.true) _ _ _ _ c.pair_at.ensures.digits c.pair_at-then-has_date.ensures.digits c.pair_at-then-has_date-2.ensures.digits c.pair_at-then-has_date-3.ensures.digits
