use borrow.Author.Rules.{rules}
use mathlib.Core.Path.{refl, sym, ◌∙◌}
use Rattle.sigmf_names.proofs.DecodedLaws.{direct_inside, direct_next, put_start, put_on, put_end, put_full}
use Rattle.sigmf_names.proofs.decoded.put_decoded.Goals as goal

pub loop-n-init : goal.loop-n-init
loop-n-init c = put_start c.args.raw.now c.args.out.now

pub bounds-raw-p : goal.bounds-raw-p
bounds-raw-p c = direct_inside c.args.raw.now c.loop-n.p (sym c.is_direct.ensures ∙ c.if-is_direct.true)

pub overflow_add-p : goal.overflow_add-p
overflow_add-p c = let h = direct_inside c.args.raw.now c.loop-n.p (sym c.is_direct.ensures ∙ c.if-is_direct.true) in search rules

pub loop-n-preserved-then-is_direct : goal.loop-n-preserved-then-is_direct
loop-n-preserved-then-is_direct c =
    let next = direct_next c.args.raw.now c.loop-n.p (sym c.is_direct.ensures ∙ c.if-is_direct.true) in
    put_on _ _ _ _ _ c.loop-n.invariant _ next c.loop-n-test.true _ _ refl

pub loop-n-preserved : goal.loop-n-preserved
loop-n-preserved c = put_on _ _ _ _ _ c.loop-n.invariant _ c.next_byte.ensures c.loop-n-test.true _ _ c.in-Some.is

pub returns-in_default : goal.returns-in_default
returns-in_default c =
    let put = c.loop-n.invariant in
    record { count = put.room; room = put.long; text = put_end _ _ _ _ _ put _ c.next_byte.ensures c.loop-n-test.true c.in_default.is }

pub returns : goal.returns
returns c = record { count = search rules; room = c.loop-n.invariant.long; text = put_full _ _ _ _ _ c.loop-n.invariant c.loop-n-test.false }
