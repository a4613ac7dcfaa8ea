use Rattle.std.specs.Prelude.{None, Some}
use mathlib.Core.List.{[], ◌∷◌}
use mathlib.Core.Path.{sym, ap, ◌∙◌}
use Prim.Native.Nat.{ℕ, ◌+◌}
use Rattle.json_strings.specs.Characters.{step_of}
use Rattle.json_strings.proofs.DecodeLaws.{unit_escape}
use Rattle.json_strings.proofs.LengthLaws.{unit_point}
use Rattle.json_strings.proofs.StepLaws.{step_unit}
use Rattle.json_strings.proofs.characters.escaped_step.Goals as goal

pub code_step-requires : goal.code_step-requires
code_step-requires c =
    unit_point _ _ _ _ (unit_escape _ _ c.requires.at_in_bounds c.requires.at_value _ c.escape_unit.ensures ∙ c.in-Some.is)

pub returns-in-Some : goal.returns-in-Some
returns-in-Some c =
    c.code_step.ensures ∙
    step_unit c.args.s.now c.args.at c.requires.at_in_bounds c.requires.at_value _ c.escape_unit.ensures (Some (_, _)) c.in-Some.is

pub returns-in-None : goal.returns-in-None
returns-in-None c =
    c.byte_step.ensures ∙ ap (λ (b : ℕ). step_of (b ∷ []) (c.args.at + 1)) (sym c.requires.at_value) ∙
    step_unit c.args.s.now c.args.at c.requires.at_in_bounds c.requires.at_value _ c.escape_unit.ensures None c.in-None.is
