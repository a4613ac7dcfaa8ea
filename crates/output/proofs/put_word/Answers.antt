use mathlib.Core.Path.{refl}
use Rattle.output.proofs.Writing.{copy_begin, copy_inside, copy_on, copy_long, copy_end, put_none}
use Rattle.output.proofs.put_word.Goals as goal

pub returns-then-n-out : goal.returns-then-n-out
returns-then-n-out c =
    let p = put_none c.args.word.now c.args.out.now _ refl c.if-n-out.true in
    record { count = p.0; memory = p.1 }

pub loop-i-init : goal.loop-i-init
loop-i-init c = search copy_begin

pub bounds-out-i : goal.bounds-out-i
bounds-out-i c = search copy_inside

pub loop-i-preserved : goal.loop-i-preserved
loop-i-preserved c = search copy_on

pub shape_of-out : goal.shape_of-out
shape_of-out c = search copy_long

pub returns : goal.returns
returns c =
    let p = copy_end _ _ _ _ _ c.loop-i.invariant c.loop-i-test.false in
    record { count = p.0; memory = p.1 }
