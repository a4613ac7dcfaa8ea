use mathlib.Core.Path.{◌∙◌}
use Rattle.sigmf_extensions.proofs.ExtensionLaws.{bounded_on, step_on, tally_on}
use Rattle.sigmf_extensions.proofs.entry.tally.Goals as goal

pub loop-m-preserved : goal.loop-m-preserved
loop-m-preserved c = (bounded_on c.loop-m.t _ c.entry_member.result c.loop-m.at _ c.count-t.ensures c.loop-m.invariant.0 (step_on c.args.part.now c.loop-m.t c.loop-m.at _ c.next_member.ensures _ _ c.in-Some.is).0, tally_on c.args.part.now c.loop-m.t c.loop-m.at _ c.next_member.ensures _ _ c.in-Some.is _ _ c.entry_member.ensures c.count-t.ensures ∙ c.loop-m.invariant.1)
