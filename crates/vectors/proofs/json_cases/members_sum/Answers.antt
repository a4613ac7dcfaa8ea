use Rattle.std.proofs.Common.{sym, ap, ◌∙◌, arith}
use Rattle.json_walk.specs.Members.{member_found}
use Rattle.json_walk.proofs.StepLaws.{member_steps}
use Rattle.vectors.proofs.json_cases.members_sum.Goals as goal

pub overflow_add-n : goal.overflow_add-n
overflow_add-n c = let p = member_steps c.args.s.now c.loop-m.at _ _ (ap member_found (sym c.next_member.ensures ∙ c.in-Some.is)) in omega (arith, p)

pub loop-m-smaller : goal.loop-m-smaller
loop-m-smaller c = let p = member_steps c.args.s.now c.loop-m.at _ _ (ap member_found (sym c.next_member.ensures ∙ c.in-Some.is)) in omega (arith, p)

pub loop-m-preserved : goal.loop-m-preserved
loop-m-preserved c = let p = member_steps c.args.s.now c.loop-m.at _ _ (ap member_found (sym c.next_member.ensures ∙ c.in-Some.is)) in omega (arith, p)
