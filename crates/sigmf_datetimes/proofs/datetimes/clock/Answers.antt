use mathlib.Core.Path.{sym, ◌∙◌}
use Rattle.sigmf_datetimes.proofs.DirectLaws.{clock_self}
use Rattle.sigmf_datetimes.proofs.datetimes.clock.Goals as goal

pub returns-then-has_clock : goal.returns-then-has_clock
returns-then-has_clock c = clock_self c.args.s.now c.args.p (sym c.has_clock.ensures ∙ c.if-has_clock.true) c.if-p-eq0.true _ _ _ c.pair_at.ensures.digits c.pair_at-then-has_clock.ensures.digits c.pair_at-then-has_clock-2.ensures.digits
