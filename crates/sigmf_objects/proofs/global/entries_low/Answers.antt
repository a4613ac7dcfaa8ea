use Rattle.sigmf_objects.proofs.GlobalLaws.{entries_absent, entries_given}
use Rattle.sigmf_objects.proofs.global.entries_low.Goals as goal

pub returns-then-place-eq0 : goal.returns-then-place-eq0
returns-then-place-eq0 c = entries_absent c.args.s.now c.args.place c.if-place-eq0.true

pub returns-else-place-eq0 : goal.returns-else-place-eq0
returns-else-place-eq0 c = entries_given c.args.s.now c.args.place c.if-place-eq0.false _ c.entries_refusal.ensures
