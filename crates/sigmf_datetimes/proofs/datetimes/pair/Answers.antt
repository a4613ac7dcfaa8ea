use mathlib.Core.Path.{sym, ◌∙◌}
use Rattle.json_strings.proofs.DecodeLaws.{streamed_next, streamed_end}
use Rattle.sigmf_datetimes.specs.Datetimes.{pair_of}
use Rattle.sigmf_datetimes.proofs.DatetimeLaws.{pair_first}
use Rattle.sigmf_datetimes.proofs.datetimes.pair.Goals as goal

pub returns-then-not-is_within-clause-read : goal.returns-then-not-is_within-clause-read
returns-then-not-is_within-clause-read c = rw (streamed_next _ _ _ c.next.ensures _ _ c.in_ok-a.was) (pair_first _ _ (sym c.is_within.ensures ∙ c.if-not-is_within.true))

pub returns-in_err-b-clause-read : goal.returns-in_err-b-clause-read
unfolding pair_of
returns-in_err-b-clause-read c = rw (c.from_residual-in_err-b.ensures, streamed_next _ _ _ c.next.ensures _ _ c.in_ok-a.was, streamed_end _ _ _ c.next-2.ensures c.in_err-b.was)

pub returns-then-not-is_within-2-clause-read : goal.returns-then-not-is_within-2-clause-read
unfolding pair_of
returns-then-not-is_within-2-clause-read c =
    rw (streamed_next _ _ _ c.next.ensures _ _ c.in_ok-a.was, streamed_next _ _ _ c.next-2.ensures _ _ c.in_ok-b.was, ← c.is_within.ensures, c.if-not-is_within.false, ← c.is_within-2.ensures, c.if-not-is_within-2.true)

pub returns-clause-read : goal.returns-clause-read
unfolding pair_of
returns-clause-read c =
    rw (streamed_next _ _ _ c.next.ensures _ _ c.in_ok-a.was, streamed_next _ _ _ c.next-2.ensures _ _ c.in_ok-b.was, ← c.is_within.ensures, c.if-not-is_within.false, ← c.is_within-2.ensures, c.if-not-is_within-2.false)
