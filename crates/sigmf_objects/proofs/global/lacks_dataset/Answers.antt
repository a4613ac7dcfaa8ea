use mathlib.Core.Path.{sym, ◌∙◌}
use Rattle.sigmf_objects.proofs.GlobalLaws.{lacks_none, lacks_true, lacks_other}
use Rattle.sigmf_objects.proofs.ValueLaws.{part_sized}
use Rattle.sigmf_objects.proofs.global.lacks_dataset.Goals as goal

pub returns-then-is_true : goal.returns-then-is_true
returns-then-is_true c =
    let part = c.sized_part.ensures ∙ part_sized c.args.s.now c.args.only c.args.n c.if-only-ne0.true c.requires in
    c.if-is_true.true ∙ lacks_true c.args.s.now c.args.only c.args.dataset c.if-only-ne0.true _ part (sym c.is_true.ensures ∙ c.if-is_true.true)

pub returns-else-is_true : goal.returns-else-is_true
returns-else-is_true c =
    let part = c.sized_part.ensures ∙ part_sized c.args.s.now c.args.only c.args.n c.if-only-ne0.true c.requires in
    lacks_other c.args.s.now c.args.only c.args.dataset c.if-only-ne0.true _ part (sym c.is_true.ensures ∙ c.if-is_true.false)

pub returns-else-only-ne0 : goal.returns-else-only-ne0
returns-else-only-ne0 c = lacks_none c.args.s.now c.args.only c.args.dataset c.if-only-ne0.false
