use native.Mathlib.Omega.{arith}
use mathlib.Core.Path.{◌∙◌}
use Rattle.json_characters.proofs.StringLaws.{string_close, string_bad, string_less, string_on, plain_strings}
use Rattle.json_characters.proofs.string.Goals as goal

pub returns-then-peek-eq34 : goal.returns-then-peek-eq34
returns-then-peek-eq34 c = string_close _ _ _ c.peek.ensures c.if-peek-eq34.true ∙ c.loop-i.invariant ∙ plain_strings _ _ _ c.skip_blocks-i.ensures

pub returns-in_default : goal.returns-in_default
returns-in_default c = string_bad _ _ _ c.peek.ensures c.if-peek-eq34.false _ c.character.ensures c.in_default.is ∙ c.loop-i.invariant ∙ plain_strings _ _ _ c.skip_blocks-i.ensures

pub loop-i-smaller : goal.loop-i-smaller
loop-i-smaller c =
    let m = string_less _ _ _ c.peek.ensures c.if-peek-eq34.false _ c.character.ensures _ c.in-Some.is in
    omega (arith, m.0, m.1)

pub loop-i-preserved : goal.loop-i-preserved
loop-i-preserved c = string_on _ _ _ c.peek.ensures c.if-peek-eq34.false _ c.character.ensures _ c.in-Some.is ∙ c.loop-i.invariant
