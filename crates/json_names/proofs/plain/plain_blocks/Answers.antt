use mathlib.Core.Path.{sym, ◌∙◌}
use Rattle.std.proofs.Common.{rules, tests}
use Rattle.json_names.proofs.PlainLaws.{run_block}
use Rattle.json_names.proofs.plain.plain_blocks.Goals as goal

pub loop-h-preserved : goal.loop-h-preserved
loop-h-preserved c =
    run_block c.args.s.now c.args.at 8 c.loop-h.i c.loop-h.h c.loop-h.invariant (search (tests, rules)) _
    (sym c.mix_block.ensures ∙ c.in-Some.is)
