use lib.ListN.{length}
use mathlib.Core.Path.{◌≡◌}
use Rattle.json_blocks.specs.Lists.{all}
use Rattle.sigmf_texts.specs.Form.{name_byte}
use Rattle.json_strings.specs.Stream.{stream}
use Rattle.sigmf_texts.proofs.form.has_name_bytes.Given as goal

abbrev pub invariant-loop-b : goal.invariant-loop-b
invariant-loop-b l = all name_byte (stream l.raw l.p) ≡ all name_byte (stream l.raw l.initial.p)

abbrev pub decreases-loop-b : goal.decreases-loop-b
decreases-loop-b l = length (stream l.raw l.p)
