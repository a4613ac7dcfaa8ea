use native.Mathlib.Omega.{arith}
use mathlib.Core.Path.{refl, sym, ◌∙◌}
use Rattle.json_automaton.proofs.Accept.{run_past}
use Rattle.json_transitions.proofs.Laws.{run_on}
use Rattle.json_transitions.proofs.run.Goals as goal

pub loop-i-init : goal.loop-i-init
loop-i-init c = refl

pub loop-i-smaller : goal.loop-i-smaller
loop-i-smaller c = omega (arith, c.skip_kept-i.ensures.onward)

pub loop-i-preserved : goal.loop-i-preserved
loop-i-preserved c = run_on _ _ _ _ _ c.loop-i-test.true c.step-d.ensures c.skip_kept-i.ensures ∙ c.loop-i.invariant

pub returns : goal.returns
returns c = sym (run_past c.args.s.now c.loop-i.d c.loop-i.i c.loop-i-test.false) ∙ c.loop-i.invariant
