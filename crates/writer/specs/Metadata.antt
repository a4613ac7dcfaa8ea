-- Request P1: the metadata that is written from a table and the metadata text s that its texts stand in.
use Rattle.std.specs.Prelude.{ℕ, ◌-◌, cond, List, [], ◌∷◌, ◌++◌, map}
use Prim.Native.String.{String}
use Rattle.json_blocks.specs.TextBytes.{ascii}
use Rattle.sigmf_datatypes.specs.Datatypes.{datatype_name}
use Rattle.table.specs.declared.Annotation.{Annotation}
use Rattle.table.specs.declared.Capture.{Capture}
use Rattle.table.specs.declared.Summary.{Summary}
use Rattle.table.specs.Place.{absent}
use Rattle.table.specs.Rows.{Table, captures_of, annotations_of}
use Rattle.decimal.specs.Decimal.{digits_of}
use Rattle.listing_labels.specs.Text.{part}

-- ---- "nothing between or after tokens"
-- items with a comma between two of them, and nothing else
unfoldable pub commas : List (List ℕ) → List ℕ
commas [] = []
commas (x ∷ []) = x
commas (x ∷ (y ∷ l)) = x ++ (0x2C ∷ commas (y ∷ l))

-- an object of members, an array of elements
abbrev pub object_text : List (List ℕ) → List ℕ
object_text ms = 0x7B ∷ (commas ms ++ (0x7D ∷ []))

abbrev pub array_text : List (List ℕ) → List ℕ
array_text xs = 0x5B ∷ (commas xs ++ (0x5D ∷ []))

abbrev pub in_quotes : List ℕ → List ℕ
in_quotes x = 0x22 ∷ (x ++ (0x22 ∷ []))

-- a member: its name, a colon and its value; a number, a text as its value
abbrev pub member_text : String → List ℕ → List ℕ
member_text n v = in_quotes (ascii n) ++ (0x3A ∷ v)

abbrev pub number_member : String → ℕ → List ℕ
number_member n k = member_text n (digits_of k)

abbrev pub string_member : String → List ℕ → List ℕ
string_member n x = member_text n (in_quotes x)

-- ---- global
-- "Sample rate text, if present, is copied as the last member of global"
unfoldable pub rate_member : List ℕ → Summary → List (List ℕ)
rate_member s t = cond (absent t.rate) [] (member_text "core:sample_rate" (part s t.rate) ∷ [])

-- "global with datatype, version, num_channels, offset and trailing_bytes"; "defaults written too"
unfoldable pub global_text : List ℕ → Summary → List ℕ
global_text s t =
    object_text (string_member "core:datatype" (datatype_name t.datatype)
    ∷ string_member "core:version" (ascii "1.0.0")
    ∷ number_member "core:num_channels" t.channels
    ∷ number_member "core:offset" t.offset
    ∷ number_member "core:trailing_bytes" t.trailing ∷ rate_member s t)

-- ---- rows
-- "each capture with its start and header_bytes"
unfoldable pub capture_text : Capture → List ℕ
capture_text r = object_text (number_member "core:sample_start" r.start ∷ number_member "core:header_bytes" r.header ∷ [])

-- "its raw label .. an absent label left out"
unfoldable pub label_member : List ℕ → Annotation → List (List ℕ)
label_member s r = cond (absent r.texts.label) [] (string_member "core:label" (part s r.texts.label) ∷ [])

-- "each annotation with start, count and its raw label"
unfoldable pub annotation_text : List ℕ → Annotation → List ℕ
annotation_text s r =
    object_text (number_member "core:sample_start" r.start ∷ number_member "core:sample_count" (r.end - r.start) ∷ label_member s r)

-- ---- the whole
unfoldable pub metadata_of : Table → List ℕ → List ℕ
metadata_of t s =
    object_text (member_text "global" (global_text s t.summary)
    ∷ member_text "captures" (array_text (map capture_text (captures_of t)))
    ∷ member_text "annotations" (array_text (map (annotation_text s) (annotations_of t)))
    ∷ [])
