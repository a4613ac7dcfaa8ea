-- Document 01, "Fields": an annotation, and refusals 5, 6 and 7 as it gives cause for them. a is its members.
use Rattle.std.specs.Prelude.{cond, List, [], ◌∷◌, ℕ, ◌+◌, ◌-◌, length, eqb, None, Some, Option}
use Rattle.std.proofs.Math.Option.{Option as Maybe}
use Prim.Native.String.{String}
use Rattle.refusals.specs.Refusals.{Rule, rule, lowest}
use Rattle.sigmf_values.specs.Values.{uint_of}
use Rattle.sigmf_names.specs.Names.{annotation_fields, field_number}
use Rattle.table.specs.declared.Place.{Place}
use Rattle.table.specs.declared.AnnotationEntry.{AnnotationEntry}
use Rattle.table.specs.Place.{nowhere}
use Rattle.sigmf_objects.specs.declared.AnnotationFound.{AnnotationFound}
use Rattle.sigmf_objects.specs.Fields.{Value, Field, fields_at, close_at, value_in, given, uint_number, uint_or, misnamed, missing, mistyped}

abbrev pub in_annotation : String → List Field → Maybe Value
in_annotation n a = value_in annotation_fields (field_number annotation_fields n) a

abbrev pub annotation_rules : List Field → List Rule
annotation_rules a = rule 5 (misnamed a) ∷ rule 6 (missing annotation_fields a) ∷ rule 7 (mistyped annotation_fields a) ∷ []

abbrev pub count_in : Maybe Value → Option ℕ
count_in v = given None (λ v. Some (uint_number (uint_of v.part))) v

-- "place and length of the raw label between its quotes; 0, 0 if absent"
abbrev pub raw_text_place : Maybe Value → Place
raw_text_place v = given nowhere (λ v. record { at = v.at + 1; len = length v.part - 2 }) v

abbrev pub annotation_in : List Field → AnnotationEntry
annotation_in a = record {
  start = uint_or 0 (in_annotation "core:sample_start" a);
  count = count_in (in_annotation "core:sample_count" a);
  texts = record { label = raw_text_place (in_annotation "core:label" a) };
}

-- the object at a place: the lowest number that it gives cause for, what it says, and where its closing brace stands
unfoldable pub read_annotation : List ℕ → ℕ → AnnotationFound
read_annotation s at = record { low = lowest (annotation_rules (fields_at s at)); entry = annotation_in (fields_at s at); close = close_at s at }

-- ---- for the code: the same by a field's place and its value's size
abbrev pub count_by : ℕ → ℕ → Option ℕ
count_by place n = cond (eqb place 0) None (Some n)

abbrev pub place_by : ℕ → ℕ → Place
place_by place n = cond (eqb place 0) nowhere (record { at = place + 1; len = n - 2 })
