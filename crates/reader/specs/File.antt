-- Document 01, "Fields": the parts of a metadata file, from its text s.
use Rattle.std.specs.Prelude.{Bool, true, false, ◌&&◌, List, [], ◌∷◌, map, ℕ, eqb}
use Rattle.std.proofs.Math.Option.{Option, none}
use Prim.Native.String.{String}
use Rattle.json_blocks.specs.TextBytes.{byte, ascii, skip_blanks}
use Rattle.json_names.specs.Same.{same}
use Rattle.json_walk.specs.declared.Element.{Element}
use Rattle.json_walk.specs.Members.{elements_at}
use Rattle.reader_layout.specs.Layout.{Contents}
use Rattle.sigmf_objects.specs.Fields.{Value, Field, fields_at, last_where, given}
use Rattle.sigmf_objects.specs.Global.{globals_in}
use Rattle.sigmf_objects.specs.Capture.{capture_in}
use Rattle.sigmf_objects.specs.Annotation.{annotation_in}

-- where the value that is the text begins
abbrev pub top_at : List ℕ → ℕ
top_at s = skip_blanks s 0

-- the members of the top level
abbrev pub top_fields : List ℕ → List Field
top_fields s = fields_at s (top_at s)

-- the member with a name, decoded
abbrev pub named_from : List ℕ → Option Value → List Field → Option Value
named_from n = last_where (λ f. same f.name n)

abbrev pub top_member : String → List ℕ → Option Value
top_member n s = named_from (ascii n) none (top_fields s)

abbrev pub elements_in : List ℕ → Option Value → List Element
elements_in s v = given [] (λ v. elements_at s v.at) v

-- the members of each element
abbrev pub objects_in : List ℕ → Option Value → List (List Field)
objects_in s v = map (λ e. fields_at s e.at) (elements_in s v)

-- a value begins as an object, as an array
abbrev pub is_object : List ℕ → ℕ → Bool
is_object s at = eqb (byte s at) 0x7B

abbrev pub is_array : List ℕ → ℕ → Bool
is_array s at = eqb (byte s at) 0x5B

unfoldable pub all_objects : List ℕ → List Element → Bool
all_objects s [] = true
all_objects s (e ∷ es) = is_object s e.at && all_objects s es

-- an array of objects
abbrev pub is_listing : List ℕ → Option Value → Bool
is_listing s v = given false (λ v. is_array s v.at) v && all_objects s (elements_in s v)

-- what the rules speak of: the members of global, of each capture, of each annotation
pub record File : Type 0 where
  pub global : List Field
  pub captures : List (List Field)
  pub annotations : List (List Field)

unfoldable pub file_of : List ℕ → File
file_of s = record {
  global = given [] (λ v. fields_at s v.at) (top_member "global" s);
  captures = objects_in s (top_member "captures" s);
  annotations = objects_in s (top_member "annotations" s);
}

-- what they say of samples
unfoldable pub contents_of : File → Contents
contents_of f = record {
  globals = globals_in f.global;
  captures = map capture_in f.captures;
  annotations = map annotation_in f.annotations;
}
