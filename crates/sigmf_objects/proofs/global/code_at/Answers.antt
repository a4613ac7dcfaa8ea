use mathlib.Core.Path.{◌∙◌}
use Rattle.sigmf_datatypes.proofs.Laws.{counted}
use Rattle.sigmf_objects.proofs.GlobalLaws.{code_absent, code_is}
use Rattle.sigmf_objects.proofs.ValueLaws.{part_sized}
use Rattle.sigmf_objects.proofs.global.code_at.Goals as goal

pub returns-then-place-eq0 : goal.returns-then-place-eq0
returns-then-place-eq0 c = counted ∙ code_absent c.args.s.now c.args.place c.if-place-eq0.true

pub returns : goal.returns
returns c =
    let part = c.sized_part.ensures ∙ part_sized c.args.s.now c.args.place c.args.n c.if-place-eq0.false c.requires in
    code_is c.args.s.now c.args.place c.if-place-eq0.false _ part _ c.datatype.ensures
