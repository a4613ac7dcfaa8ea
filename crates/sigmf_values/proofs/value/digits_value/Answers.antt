use native.Mathlib.Omega.{arith}
use mathlib.Core.Path.{sym, ◌∙◌}
use Rattle.json_blocks.proofs.ByteLaws.{within_is}
use Rattle.sigmf_values.proofs.ValueLaws.{digits_end, digits_not, digits_on, digits_over}
use Rattle.sigmf_values.proofs.value.digits_value.Goals as goal

pub returns-then-not-is_within : goal.returns-then-not-is_within
returns-then-not-is_within c = digits_not _ c.loop-b.n c.loop-b.b-index c.loop-b-test.true (sym c.is_within.ensures ∙ c.if-not-is_within.true) ∙ c.loop-b.invariant.1

pub returns-in_err-checked_mul : goal.returns-in_err-checked_mul
returns-in_err-checked_mul c =
    c.from_residual.ensures
    ∙ digits_over _ c.loop-b.n c.loop-b.b-index c.loop-b-test.true (omega (arith, c.in_err-checked_mul.ensures)) (sym c.is_within.ensures ∙ c.if-not-is_within.false)
    ∙ c.loop-b.invariant.1

pub overflow_sub-b : goal.overflow_sub-b
overflow_sub-b c = (within_is _ _ _ (sym c.is_within.ensures ∙ c.if-not-is_within.false)).0

pub returns-in_err-n : goal.returns-in_err-n
returns-in_err-n c =
    c.from_residual-in_err-n.ensures
    ∙ digits_over _ c.loop-b.n c.loop-b.b-index c.loop-b-test.true (omega (arith, c.in_ok-checked_mul.ensures, c.in_err-n.ensures)) (sym c.is_within.ensures ∙ c.if-not-is_within.false)
    ∙ c.loop-b.invariant.1

pub loop-b-preserved : goal.loop-b-preserved
loop-b-preserved c = (
  omega (arith, c.in_ok-checked_mul.ensures, c.in_ok-n.ensures),
  digits_on _ c.loop-b.n c.loop-b.b-index c.loop-b-test.true _ (omega (arith, c.in_ok-checked_mul.ensures, c.in_ok-n.ensures)) (sym c.is_within.ensures ∙ c.if-not-is_within.false) ∙ c.loop-b.invariant.1,
)

pub returns : goal.returns
returns c = digits_end _ c.loop-b.n c.loop-b.b-index (omega arith) c.loop-b.invariant.0 ∙ c.loop-b.invariant.1
