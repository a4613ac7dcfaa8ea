use Rattle.std.proofs.Common.{sym, ap, ◌∙◌, arith}
use Rattle.json_walk.specs.Members.{element_found}
use Rattle.json_walk.proofs.StepLaws.{element_steps}
use Rattle.vectors.proofs.json_cases.elements_sum.Goals as goal

pub overflow_add-n : goal.overflow_add-n
overflow_add-n c = let p = element_steps c.args.s.now c.loop-e.at _ _ (ap element_found (sym c.next_element.ensures ∙ c.in-Some.is)) in omega (arith, p)

pub loop-e-smaller : goal.loop-e-smaller
loop-e-smaller c = let p = element_steps c.args.s.now c.loop-e.at _ _ (ap element_found (sym c.next_element.ensures ∙ c.in-Some.is)) in omega (arith, p)

pub loop-e-preserved : goal.loop-e-preserved
loop-e-preserved c = let p = element_steps c.args.s.now c.loop-e.at _ _ (ap element_found (sym c.next_element.ensures ∙ c.in-Some.is)) in omega (arith, p)
