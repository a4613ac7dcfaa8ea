use Rattle.sigmf_values.proofs.ValueLaws.{uint_of_lem}
use lib.ListN.{length}
use Prim.Native.Nat.{ℕ}
use mathlib.Core.Path.{◌≡◌, refl, sym, ap, ◌∙◌}
use mathlib.Core.Bool.{cond}
use mathlib.Core.List.{List}
use Rattle.sigmf_values.specs.declared.FieldType.{FieldType}
use Rattle.sigmf_values.specs.declared.FieldType.TheVariants as T
use Rattle.sigmf_values.specs.ValueCode.{is_value}
use Rattle.sigmf_objects.specs.Fields.{uint_number}
use Rattle.sigmf_objects.specs.Places.{size_as}
use Rattle.sigmf_objects.proofs.WalkLaws.{part_typed, part_mistyped, uint_low, uint_size}
use Rattle.sigmf_objects.proofs.walk.value_sized.Goals as goal

-- every type but Uint
other_size : (t : FieldType) (p : List ℕ) → (t ≡ T.Uint → ⊥) → length p ≡ size_as t p
unfolding size_as
other_size T.Text p h = refl
other_size T.Uint p h = absurd (h refl)
other_size T.Double p h = refl
other_size T.Boolean p h = refl
other_size T.Object p h = refl
other_size T.Array p h = refl
other_size T.Any p h = refl

pub returns-then-has_type : goal.returns-then-has_type
returns-then-has_type c = record { low = part_typed _ _ _ c.has_type.ensures c.if-has_type.true; size = other_size c.args.wanted c.args.part.now c.in_default.not-Uint }

pub returns-else-has_type : goal.returns-else-has_type
returns-else-has_type c = record { low = part_mistyped _ _ _ c.has_type.ensures c.if-has_type.false; size = other_size c.args.wanted c.args.part.now c.in_default.not-Uint }

pub returns-in-Some : goal.returns-in-Some
returns-in-Some c =
    let p = c.args.part.now in
    let u = uint_of_lem p c.uint.result c.uint.ensures in
    record {
      low = ap (λ x. cond (is_value x) 0 7) (sym c.in-Some.is) ∙ uint_low c.args.wanted p c.in-Uint.is _ u;
      size = ap uint_number (sym c.in-Some.is) ∙ uint_size c.args.wanted p c.in-Uint.is _ u;
    }

pub returns-in-None : goal.returns-in-None
returns-in-None c =
    let p = c.args.part.now in
    let u = uint_of_lem p c.uint.result c.uint.ensures in
    record {
      low = ap (λ x. cond (is_value x) 0 7) (sym c.in-None.is) ∙ uint_low c.args.wanted p c.in-Uint.is _ u;
      size = ap uint_number (sym c.in-None.is) ∙ uint_size c.args.wanted p c.in-Uint.is _ u;
    }
