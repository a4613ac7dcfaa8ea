use native.Mathlib.Omega.{arith}
use mathlib.Core.Path.{◌∙◌}
use Rattle.std.specs.Prelude.{None, Some}
use Rattle.json_strings.proofs.DecodeLaws.{ends_quote, ends_over}
use Rattle.json_strings.proofs.StepLaws.{step_end, step_raw_lem, raw_inside}
use Rattle.json_strings.proofs.characters.next_character.Goals as goal

pub returns-then-s-at : goal.returns-then-s-at
returns-then-s-at c = c.no_step.ensures ∙ step_end c.args.s.now c.args.at (ends_over c.args.s.now c.args.at c.if-s-at.true)

pub raw_step-requires : goal.raw_step-requires
raw_step-requires c =
    let p = raw_inside c.args.s.now c.args.at c.if-s-at.false (λ z. omega arith) (λ z. omega arith) _ c.character.ensures _ c.in-Some.is in
    record { at_lt_end = p.0; end_in_bounds = p.1 }

pub returns-in-34 : goal.returns-in-34
returns-in-34 c = c.no_step-in-34.ensures ∙ step_end c.args.s.now c.args.at (ends_quote c.args.s.now c.args.at c.if-s-at.false c.in-34.is)

pub returns-in-Some : goal.returns-in-Some
returns-in-Some c =
    c.raw_step.ensures ∙
    step_raw_lem c.args.s.now c.args.at c.if-s-at.false (λ z. omega arith) (λ z. omega arith) _ c.character.ensures (Some _) c.in-Some.is

pub returns-in-None : goal.returns-in-None
returns-in-None c =
    c.byte_step.ensures ∙
    step_raw_lem c.args.s.now c.args.at c.if-s-at.false (λ z. omega arith) (λ z. omega arith) _ c.character.ensures None c.in-None.is
