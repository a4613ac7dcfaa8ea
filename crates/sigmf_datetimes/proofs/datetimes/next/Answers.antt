use native.Mathlib.Omega.{arith}
use mathlib.Core.Path.{refl, sym, ◌∙◌}
use Rattle.json_blocks.proofs.ByteLaws.{within_is}
use Rattle.sigmf_datetimes.proofs.DirectLaws.{self_inside, self_next}
use Rattle.sigmf_datetimes.proofs.datetimes.next.Goals as goal

pub overflow_add-result : goal.overflow_add-result
overflow_add-result c = omega (arith, self_inside c.args.s.now _ _ c.peek-b.ensures (within_is _ _ _ (sym c.is_within.ensures ∙ c.if-is_within.true)))

pub returns-then-is_within : goal.returns-then-is_within
returns-then-is_within c = self_next c.args.s.now c.args.p _ c.peek-b.ensures (within_is _ _ _ (sym c.is_within.ensures ∙ c.if-is_within.true)) c.if-p-eq0.true _ refl
