-- For the code: the values of an object's known fields, kept by their places in the text and their sizes. The value at a place
-- ends where its brackets and quotes say, so that its place tells the value.
use Rattle.std.specs.Prelude.{◌≡◌, List, [], ◌∷◌, ℕ, zero, suc, ◌≤◌, ◌<◌, length, get_or}
use Rattle.std.proofs.Math.Option.{Option, none, some}
use Rattle.refusals.specs.Refusals.{rule, lowest}
use Rattle.json_grammar.specs.Skip.{skip_value}
use Rattle.sigmf_values.specs.declared.FieldType.{FieldType}
use Rattle.sigmf_values.specs.declared.FieldType.TheVariants as T
use Rattle.sigmf_values.specs.Values.{part_of, uint_of}
use Rattle.sigmf_names.specs.Names.{Core, type_at}
use Rattle.sigmf_objects.specs.Fields.{Value, Field, value_in, given, uint_number, misnamed, mistyped}

-- the value at a place; none at 0, where no member's value stands
unfoldable pub noted : List ℕ → ℕ → Option Value
noted s zero = none
noted s (suc p) = some (record { at = suc p; part = part_of s (suc p) (skip_value s (suc p)) })

-- place i is that of field i
unfoldable pub Noted : List ℕ → List Core → List Field → List ℕ → Type 0
Noted s cs fs places = (i : ℕ) → i < length cs → value_in cs i fs ≡ noted s (get_or places i 0)

-- the size of a value of a type: the number of a uint, of any other how many bytes its part has
unfoldable pub size_as : FieldType → List ℕ → ℕ
size_as T.Uint p = uint_number (uint_of p)
size_as T.Text p = length p
size_as T.Double p = length p
size_as T.Boolean p = length p
size_as T.Object p = length p
size_as T.Array p = length p
size_as T.Any p = length p

-- how many bytes a value has, 0 without one
abbrev pub length_of : Option Value → ℕ
length_of v = given 0 (λ v. length v.part) v

-- what stands for field i's size: 0 without a value
abbrev pub size_of : FieldType → Option Value → ℕ
size_of t v = given 0 (λ v. size_as t v.part) v

-- size i is that of field i's value
unfoldable pub Measured : List Core → List Field → List ℕ → Type 0
Measured cs fs sizes = (i : ℕ) → i < length cs → get_or sizes i 0 ≡ size_of (type_at cs i) (value_in cs i fs)

-- size i is that of the value at place i
unfoldable pub Fitting : List ℕ → List Core → List ℕ → List ℕ → Type 0
Fitting s cs places sizes = (i : ℕ) → i < length cs → get_or sizes i 0 ≡ size_of (type_at cs i) (noted s (get_or places i 0))

-- no place is past the text's end
unfoldable pub Within : List ℕ → List ℕ → Type 0
Within s places = (i : ℕ) → get_or places i 0 ≤ length s

-- no place or size is noted
unfoldable pub Clear : List ℕ → Type 0
Clear noted = (i : ℕ) → get_or noted i 0 ≡ 0

-- what a walk over the members tells of 5 and 7
abbrev pub walk_low : List Core → List Field → ℕ
walk_low cs fs = lowest (rule 5 (misnamed fs) ∷ rule 7 (mistyped cs fs) ∷ [])
