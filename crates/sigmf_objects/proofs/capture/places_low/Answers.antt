use mathlib.Core.Path.{sym, ◌∙◌}
use Rattle.sigmf_objects.proofs.ValueLaws.{low_absent, low_undated, low_broken, low_dated, part_sized}
use Rattle.sigmf_objects.proofs.capture.places_low.Goals as goal

pub returns-then-start-eq0 : goal.returns-then-start-eq0
returns-then-start-eq0 c = low_absent c.args.s.now c.args.start c.args.moment c.if-start-eq0.true

pub returns-then-moment-eq0 : goal.returns-then-moment-eq0
returns-then-moment-eq0 c = low_undated c.args.s.now c.args.start c.args.moment c.if-start-eq0.false c.if-moment-eq0.true

pub returns-then-is_some : goal.returns-then-is_some
returns-then-is_some c =
    let part = c.sized_part.ensures ∙ part_sized c.args.s.now c.args.moment c.args.n c.if-moment-eq0.false c.requires in
    low_dated c.args.s.now c.args.start c.args.moment c.if-start-eq0.false c.if-moment-eq0.false _ part _ c.datetime.ensures (sym c.is_some.ensures ∙ c.if-is_some.true)

pub returns-else-is_some : goal.returns-else-is_some
returns-else-is_some c =
    let part = c.sized_part.ensures ∙ part_sized c.args.s.now c.args.moment c.args.n c.if-moment-eq0.false c.requires in
    low_broken c.args.s.now c.args.start c.args.moment c.if-start-eq0.false c.if-moment-eq0.false _ part _ c.datetime.ensures (sym c.is_some.ensures ∙ c.if-is_some.false)
