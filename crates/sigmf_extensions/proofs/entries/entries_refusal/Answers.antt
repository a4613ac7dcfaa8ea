use Rattle.sigmf_extensions.proofs.ExtensionLaws.{extension_is}
use mathlib.Core.Path.{sym, ◌∙◌}
use Rattle.sigmf_extensions.proofs.EntriesLaws.{entries_on}
use Rattle.sigmf_extensions.proofs.entries.entries_refusal.Goals as goal

pub loop-e-preserved : goal.loop-e-preserved
loop-e-preserved c = entries_on c.args.s.now c.loop-e.i c.loop-e.low _ _ (sym c.next_element.ensures ∙ c.in-Some.is) _ _ _ _ c.part_of.ensures.part (extension_is _ c.extension-x.result c.extension-x.ensures) c.entry_low.ensures c.least-low.ensures ∙ c.loop-e.invariant
