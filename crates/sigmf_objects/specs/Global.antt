-- Document 01, "Fields": the global object, and refusals 5 to 10 and 12 to 14 as it gives cause for them. g is its members.
use Rattle.std.specs.Prelude.{Bool, false, not, ◌||◌, List, [], ◌∷◌, ℕ, length}
use Rattle.std.proofs.Math.Option.{Option}
use Prim.Native.String.{String}
use Rattle.limits.specs.Limits.{channels}
use Rattle.json_blocks.specs.TextBytes.{within}
use Rattle.json_blocks.specs.Lists.{any}
use Rattle.refusals.specs.Refusals.{Rule, rule, lowest}
use Rattle.sigmf_datatypes.specs.Datatypes.{datatypes, is_listed}
use Rattle.sigmf_texts.specs.Texts.{value_text, version_ok, code_of}
use Rattle.sigmf_extensions.specs.declared.Extension.{Extension}
use Rattle.sigmf_values.specs.Values.{is_true}
use Rattle.sigmf_names.specs.Names.{global_fields, field_number}
use Rattle.sigmf_extensions.specs.Extensions.{entries_at, is_malformed, is_needed}
use Rattle.table.specs.declared.Place.{Place}
use Rattle.table.specs.declared.Globals.{Globals}
use Rattle.table.specs.Place.{nowhere}
use Rattle.sigmf_objects.specs.declared.GlobalFound.{GlobalFound}
use Rattle.sigmf_objects.specs.Fields.{Value, Field, fields_at, close_at, value_in, given, is_absent, uint_or, misnamed, missing, mistyped}

abbrev pub in_global : String → List Field → Option Value
in_global n g = value_in global_fields (field_number global_fields n) g

-- 8: "`core:version` is not `1.0.0`"
abbrev pub is_other_version : Option Value → Bool
is_other_version v = not (given false (λ v. version_ok v.part) v)

unfoldable pub other_version : List Field → Bool
other_version g = is_other_version (in_global "core:version" g)

-- the datatype's code; past the list's end if it is absent
abbrev pub datatype_code : Option Value → ℕ
datatype_code v = given (length datatypes) (λ v. code_of (value_text v.part)) v

-- 9: "`core:datatype` is not in the list"
abbrev pub is_other_datatype : Option Value → Bool
is_other_datatype v = not (is_listed (datatype_code v))

unfoldable pub other_datatype : List Field → Bool
other_datatype g = is_other_datatype (in_global "core:datatype" g)

-- "num_channels (default 1)"
abbrev pub channels_of : Option Value → ℕ
channels_of v = uint_or 1 v

-- 10: "`core:num_channels` is 0 or above 1,024"
abbrev pub are_bad_channels : Option Value → Bool
are_bad_channels v = not (within 1 channels (channels_of v))

unfoldable pub bad_channels : List Field → Bool
bad_channels g = are_bad_channels (in_global "core:num_channels" g)

-- the entries of core:extensions
abbrev pub entries_of : List ℕ → Option Value → List Extension
entries_of s v = given [] (λ v. entries_at s v.at) v

-- 12: "an extension entry is malformed"
unfoldable pub bad_extension : List ℕ → List Field → Bool
bad_extension s g = any is_malformed (entries_of s (in_global "core:extensions" g))

-- 13: "an extension is needed (none is known yet)"
unfoldable pub needs_extension : List ℕ → List Field → Bool
needs_extension s g = any is_needed (entries_of s (in_global "core:extensions" g))

-- 14: "`core:metadata_only` is true, or present beside `core:dataset`"
abbrev pub lacks_dataset : Option Value → Option Value → Bool
lacks_dataset only dataset = given false (λ v. is_true v.part || not (is_absent dataset)) only

unfoldable pub no_dataset : List Field → Bool
no_dataset g = lacks_dataset (in_global "core:metadata_only" g) (in_global "core:dataset" g)

abbrev pub global_rules : List ℕ → List Field → List Rule
global_rules s g =
    rule 5 (misnamed g) ∷ rule 6 (missing global_fields g) ∷ rule 7 (mistyped global_fields g) ∷ rule 8 (other_version g) ∷ rule 9 (other_datatype g)
    ∷ rule 10 (bad_channels g) ∷ rule 12 (bad_extension s g) ∷ rule 13 (needs_extension s g) ∷ rule 14 (no_dataset g) ∷ []

-- "A double is any JSON number, kept as a place in the text"; "place and length of sample_rate (0, 0 if absent)"
abbrev pub rate_place : Option Value → Place
rate_place v = given nowhere (λ v. record { at = v.at; len = length v.part }) v

-- "offset (0), trailing_bytes (0)"
abbrev pub globals_of : (String → Option Value) → Globals
globals_of value = record {
  datatype = datatype_code (value "core:datatype");
  channels = channels_of (value "core:num_channels");
  offset = uint_or 0 (value "core:offset");
  trailing = uint_or 0 (value "core:trailing_bytes");
  rate = rate_place (value "core:sample_rate");
}

abbrev pub globals_in : List Field → Globals
globals_in g = globals_of (λ n. in_global n g)

-- the object at a place: the lowest number that it gives cause for, what it says, and where its closing brace stands
unfoldable pub read_global : List ℕ → ℕ → GlobalFound
read_global s at = record { low = lowest (global_rules s (fields_at s at)); globals = globals_in (fields_at s at); close = close_at s at }
