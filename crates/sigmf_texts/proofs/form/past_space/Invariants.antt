use lib.ListN.{length}
use mathlib.Core.Path.{◌≡◌}
use Rattle.sigmf_texts.specs.Texts.{name_text}
use Rattle.sigmf_texts.specs.FormCode.{past_space}
use Rattle.json_strings.specs.Stream.{stream}
use Rattle.sigmf_texts.proofs.form.past_space.Given as goal

abbrev pub invariant-loop-b : goal.invariant-loop-b
invariant-loop-b l = past_space (stream l.raw l.p) ≡ past_space (name_text l.raw)

abbrev pub decreases-loop-b : goal.decreases-loop-b
decreases-loop-b l = length (stream l.raw l.p)
