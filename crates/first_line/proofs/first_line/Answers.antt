use native.Mathlib.Omega.{arith}
use lib.ListN.{get_or-eq_default}
use mathlib.Core.Path.{refl, ap, ◌∙◌}
use Rattle.json_blocks.specs.TextBytes.{byte}
use Rattle.first_line.specs.FirstLine.{line_says}
use Rattle.first_line.proofs.Laws.{digit_is, digit_below, digit_above, read_begin, read_many, read_over, read_on, read_none, read_other, read_feed}
use Rattle.first_line.proofs.first_line.Goals as goal

pub loop-i-init : goal.loop-i-init
loop-i-init c = read_begin _

pub returns-in_err-n-in-48-to-57 : goal.returns-in_err-n-in-48-to-57
returns-in_err-n-in-48-to-57 c =
    let b = byte c.args.input.now c.loop-i.i in
    ap line_says c.from_residual.ensures ∙ read_over _ _ _ c.loop-i.invariant b refl (digit_is b (omega arith) (omega arith)) (omega (arith, c.in_err-n-in-48-to-57.ensures))

pub loop-i-preserved : goal.loop-i-preserved
loop-i-preserved c =
    let b = byte c.args.input.now c.loop-i.i in
    let e = c.in_ok-n-in-48-to-57.ensures in
    rw e.1 (read_on _ _ _ c.loop-i.invariant b refl (digit_is b (omega arith) (omega arith)) e.0 (omega arith))

pub returns-in-10 : goal.returns-in-10
returns-in-10 c =
    let b = byte c.args.input.now c.loop-i.i in
    read_feed _ _ _ c.loop-i.invariant b refl (digit_below b (omega arith)) (omega arith) (omega arith)

-- a line feed and no digit
pub returns-in_default : goal.returns-in_default
returns-in_default c =
    let b = byte c.args.input.now c.loop-i.i in
    read_none _ _ _ c.loop-i.invariant b refl (digit_below b (omega arith)) (omega arith)

-- a byte below the digits
pub returns-in_default-2 : goal.returns-in_default-2
returns-in_default-2 c =
    let b = byte c.args.input.now c.loop-i.i in
    read_other _ _ _ c.loop-i.invariant b refl (digit_below b (omega arith)) (omega arith)

-- a digit too many
pub returns-in_default-3 : goal.returns-in_default-3
returns-in_default-3 c =
    let b = byte c.args.input.now c.loop-i.i in
    read_many _ _ _ c.loop-i.invariant b refl (digit_is b (omega arith) (omega arith)) (omega arith)

-- a byte above the digits
pub returns-in_default-4 : goal.returns-in_default-4
returns-in_default-4 c =
    let b = byte c.args.input.now c.loop-i.i in
    read_other _ _ _ c.loop-i.invariant b refl (digit_above b (omega arith)) (omega arith)

pub returns : goal.returns
returns c =
    let e = get_or-eq_default c.args.input.now 0 {n = c.loop-i.i} c.loop-i-test.false in
    read_other _ _ _ c.loop-i.invariant _ refl (digit_below _ (omega arith)) (omega arith)
