use mathlib.Core.Path.{sym, ◌∙◌}
use Rattle.sigmf_objects.proofs.WalkLaws.{member_bad, member_unknown, member_known}
use Rattle.sigmf_objects.proofs.walk.member_sized.Goals as goal

pub returns-then-is_some-clause-low : goal.returns-then-is_some-clause-low
returns-then-is_some-clause-low c =
    member_unknown c.args.kind c.args.s.now c.args.m c.args.i c.args.known c.requires.i_value c.requires.known_value _ c.part_of.ensures.part _ c.name_form-form.ensures (sym c.is_some.ensures ∙ c.if-is_some.true) c.if-known-i.true

pub returns-else-is_some-clause-low : goal.returns-else-is_some-clause-low
returns-else-is_some-clause-low c =
    member_bad c.args.kind c.args.s.now c.args.m c.args.i c.args.known c.requires.i_value c.requires.known_value _ c.part_of.ensures.part _ c.name_form-form.ensures (sym c.is_some.ensures ∙ c.if-is_some.false)

pub returns-clause-low : goal.returns-clause-low
returns-clause-low c =
    member_known c.args.kind c.args.s.now c.args.m c.args.i c.args.known c.requires.i_value c.requires.known_value c.if-known-i.false _ c.field_type.ensures _ c.part_of-2.ensures.part _ c.value_sized.ensures.low
