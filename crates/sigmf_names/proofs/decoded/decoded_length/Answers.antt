use borrow.Author.Rules.{rules}
use mathlib.Core.Path.{refl, sym, ◌∙◌}
use Rattle.sigmf_names.proofs.DecodedLaws.{direct_inside, direct_next, count_start, count_on, count_end, count_full}
use Rattle.sigmf_names.proofs.decoded.decoded_length.Goals as goal

pub loop-n-init : goal.loop-n-init
loop-n-init c = count_start c.args.raw.now c.args.limit

pub overflow_add-p : goal.overflow_add-p
overflow_add-p c = let h = direct_inside c.args.raw.now c.loop-n.p (sym c.is_direct.ensures ∙ c.if-is_direct.true) in search rules

pub loop-n-preserved-then-is_direct : goal.loop-n-preserved-then-is_direct
loop-n-preserved-then-is_direct c =
    let next = direct_next c.args.raw.now c.loop-n.p (sym c.is_direct.ensures ∙ c.if-is_direct.true) in
    count_on _ _ _ _ c.loop-n.invariant _ next _ _ c.loop-n-test.true refl

pub loop-n-preserved : goal.loop-n-preserved
loop-n-preserved c = count_on _ _ _ _ c.loop-n.invariant _ c.next_byte.ensures _ _ c.loop-n-test.true c.in-Some.is

pub returns-in_default : goal.returns-in_default
returns-in_default c = count_end _ _ _ _ c.loop-n.invariant _ c.next_byte.ensures c.in_default.is

pub returns : goal.returns
returns c = count_full _ _ _ _ c.loop-n.invariant c.loop-n-test.false
