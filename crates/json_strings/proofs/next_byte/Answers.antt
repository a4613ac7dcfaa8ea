use native.Mathlib.Omega.{arith}
use mathlib.Core.Path.{◌∙◌}
use Rattle.json_strings.proofs.DecodeLaws.{next_own, next_over, next_quote}
use Rattle.json_strings.proofs.next_byte.Goals as goal

pub returns-then-s-p : goal.returns-then-s-p
returns-then-s-p c = next_over _ _ c.if-s-p.true

pub returns-in-34 : goal.returns-in-34
returns-in-34 c = next_quote _ _ c.if-s-p.false c.in-34.is

pub returns-in_default : goal.returns-in_default
returns-in_default c = c.own_byte.ensures ∙ next_own _ _ c.if-s-p.false (λ z. omega arith) (λ z. omega arith)
