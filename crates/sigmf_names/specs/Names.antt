-- The core names (document 01, "Fields"): a list for each kind of object, each field with its type, the required ones marked.
use Rattle.std.specs.Prelude.{Bool, true, false, List, [], ◌∷◌, get_or, ℕ}
use Prim.Native.String.{String}
use Rattle.json_blocks.specs.TextBytes.{ascii}
use Rattle.sigmf_texts.specs.Lookup.{index_in}
use Rattle.sigmf_names.specs.declared.Object.{Object}
use Rattle.sigmf_names.specs.declared.Object.TheVariants as O
use Rattle.sigmf_values.specs.declared.FieldType.{FieldType}
use Rattle.sigmf_values.specs.declared.FieldType.TheVariants as T

pub record Core : Type 0 where
  pub name : String
  pub type : FieldType
  pub required : Bool

abbrev pub must : String → FieldType → Core
must n t = record { name = n; type = t; required = true }

abbrev pub may : String → FieldType → Core
may n t = record { name = n; type = t; required = false }

unfoldable pub global_fields : List Core
global_fields =
    must "core:datatype" T.Text ∷ must "core:version" T.Text ∷ may "core:sha512" T.Text ∷
    may "core:description" T.Text ∷ may "core:author" T.Text ∷ may "core:meta_doi" T.Text ∷
    may "core:data_doi" T.Text ∷ may "core:recorder" T.Text ∷ may "core:license" T.Text ∷ may "core:hw" T.Text ∷
    may "core:dataset" T.Text ∷ may "core:collection" T.Text ∷ may "core:num_channels" T.Uint ∷
    may "core:offset" T.Uint ∷ may "core:trailing_bytes" T.Uint ∷ may "core:sample_rate" T.Double ∷
    may "core:hagl" T.Double ∷ may "core:metadata_only" T.Boolean ∷ may "core:geolocation" T.Object ∷
    may "core:extensions" T.Array ∷ []

unfoldable pub capture_fields : List Core
capture_fields =
    must "core:sample_start" T.Uint ∷ may "core:global_index" T.Uint ∷ may "core:header_bytes" T.Uint ∷
    may "core:frequency" T.Double ∷ may "core:datetime" T.Text ∷ may "core:geolocation" T.Object ∷ []

unfoldable pub annotation_fields : List Core
annotation_fields =
    must "core:sample_start" T.Uint ∷ may "core:sample_count" T.Uint ∷ may "core:generator" T.Text ∷
    may "core:label" T.Text ∷ may "core:comment" T.Text ∷ may "core:uuid" T.Text ∷
    may "core:freq_lower_edge" T.Double ∷ may "core:freq_upper_edge" T.Double ∷ may "core:latitude" T.Any ∷
    may "core:longitude" T.Any ∷ []

abbrev pub core_of : Object → List Core
core_of O.Global = global_fields
core_of O.Capture = capture_fields
core_of O.Annotation = annotation_fields

-- a field's name, compared with a decoded one: "equal, byte for byte, to one of the core names"
abbrev pub core_name : Core → List ℕ
core_name c = ascii c.name

-- "all others are ignored": past a list's end, any type
abbrev pub other_field : Core
other_field = may "" T.Any

unfoldable pub core_at : List Core → ℕ → Core
core_at cs i = get_or cs i other_field

unfoldable pub type_at : List Core → ℕ → FieldType
type_at cs i = (core_at cs i).type

-- a field's number in a list, by its name
abbrev pub field_number : List Core → String → ℕ
field_number cs n = index_in core_name cs (ascii n)
