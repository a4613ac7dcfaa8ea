-- For the code: the global object by the noted places of its fields, and the order in which its rules are judged.
use Rattle.std.specs.Prelude.{Bool, not, ◌||◌, List, [], ◌∷◌, ◌++◌, ℕ, get_or}
use Rattle.std.proofs.Math.Option.{Option}
use Prim.Native.String.{String}
use Rattle.limits.specs.Limits.{channels}
use Rattle.json_blocks.specs.TextBytes.{within}
use Rattle.json_blocks.specs.Lists.{any}
use Rattle.refusals.specs.Refusals.{Rule, rule}
use Rattle.sigmf_extensions.specs.declared.Extension.{Extension}
use Rattle.sigmf_extensions.specs.Extensions.{is_malformed, is_needed}
use Rattle.sigmf_names.specs.Names.{global_fields, field_number}
use Rattle.sigmf_objects.specs.Fields.{Value, is_absent}
use Rattle.sigmf_objects.specs.Places.{noted}
use Rattle.sigmf_objects.specs.Global.{is_other_version, is_other_datatype, channels_of, entries_of, lacks_dataset}

-- the value of a field by the noted places
abbrev pub placed : List ℕ → List ℕ → String → Option Value
placed s places n = noted s (get_or places (field_number global_fields n) 0)

-- what datatype and version tell of 6, 8 and 9
abbrev pub first_rules : Option Value → Option Value → List Rule
first_rules datatype version =
    rule 6 (is_absent datatype || is_absent version) ∷ rule 8 (is_other_version version) ∷ rule 9 (is_other_datatype datatype) ∷ []

-- what the number of channels, the entries and the lack of a dataset tell of 10 and of 12 to 14
abbrev pub later_rules : ℕ → List Extension → Bool → List Rule
later_rules n es lacking =
    rule 10 (not (within 1 channels n)) ∷ rule 12 (any is_malformed es) ∷ rule 13 (any is_needed es) ∷ rule 14 lacking ∷ []

-- what all places tell
abbrev pub placed_rules : List ℕ → (String → Option Value) → List Rule
placed_rules s value =
    first_rules (value "core:datatype") (value "core:version")
    ++ later_rules (channels_of (value "core:num_channels")) (entries_of s (value "core:extensions")) (lacks_dataset (value "core:metadata_only") (value "core:dataset"))
