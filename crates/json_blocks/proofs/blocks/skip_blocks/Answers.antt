use mathlib.Core.Path.{sym, ◌∙◌}
use Rattle.json_blocks.proofs.BlockLaws.{good_more}
use Rattle.json_blocks.proofs.blocks.skip_blocks.Goals as goal

pub loop-i-preserved : goal.loop-i-preserved
loop-i-preserved g c = good_more _ _ _ _ c.loop-i.invariant (sym c.is_block.ensures ∙ c.loop-i-test.true)
