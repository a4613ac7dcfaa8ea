use native.Mathlib.Omega.{arith}
use mathlib.Core.Path.{refl, sym, ◌∙◌}
use Rattle.json_names.proofs.PlainLaws.{run_more}
use Rattle.json_names.proofs.plain.plain_run.Goals as goal

pub loop-i-preserved : goal.loop-i-preserved
loop-i-preserved c =
    run_more c.args.s.now c.loop-i.i _ refl (sym c.is_plain.ensures ∙ c.if-is_plain.true) _ _ c.loop-i.invariant _ c.mix-h.ensures (omega (arith, c.mix-h.ensures))
