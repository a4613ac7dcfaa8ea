-- Document 01, "Fields", the line on datatypes, with request P4's; and the first sentence of "Where samples lie".
use Rattle.std.specs.Prelude.{ℕ, ◌*◌, ◌-◌, Bool, true, false, ◌&&◌, cond, List, [], ◌∷◌, ◌++◌, length, get_or, replicate, leb, ltb}
use Prim.Native.String.{String}
use Rattle.limits.specs.Limits.{channels}
use Rattle.json_blocks.specs.TextBytes.{ascii}

-- a row of the table: the name's bytes, the bytes of a component, complex or not
pub record Datatype : Type 0 where
  pub name : List ℕ
  pub bytes : ℕ
  pub complex : Bool

abbrev pub datatype : Bool → String → ℕ → Datatype
datatype c n b = record { name = cond c (ascii "c") (ascii "r") ++ ascii n; bytes = b; complex = c }

-- "f32_le, f32_be, i32_le, i32_be, i16_le, i16_be, u32_le, u32_be, u16_le, u16_be, i8, u8"; "Bytes per component 4,4,4,4,2,2,4,4,2,2,1,1"
unfoldable pub twelve : Bool → List Datatype
twelve c =
    datatype c "f32_le" 4
    ∷ datatype c "f32_be" 4
    ∷ datatype c "i32_le" 4
    ∷ datatype c "i32_be" 4
    ∷ datatype c "i16_le" 2
    ∷ datatype c "i16_be" 2
    ∷ datatype c "u32_le" 4
    ∷ datatype c "u32_be" 4
    ∷ datatype c "u16_le" 2
    ∷ datatype c "u16_be" 2
    ∷ datatype c "i8" 1
    ∷ datatype c "u8" 1
    ∷ []

-- "codes 0 to 11 with `r` before"; "Codes 12 to 23 the same with `c`"; request P4: "Add `rf64_le`, `rf64_be`, `cf64_le`, `cf64_be` as codes 24 to 27,
-- eight bytes a component". A code is a place in this list
unfoldable pub datatypes : List Datatype
datatypes =
    twelve false ++ twelve true
    ++ (datatype false "f64_le" 8 ∷ datatype false "f64_be" 8 ∷ datatype true "f64_le" 8 ∷ datatype true "f64_be" 8 ∷ [])

unfoldable pub is_listed : ℕ → Bool
is_listed c = ltb c (length datatypes)

-- the row of a code; an unlisted code has no name and no bytes
abbrev pub no_datatype : Datatype
no_datatype = record { name = []; bytes = 0; complex = false }

unfoldable pub datatype_of : ℕ → Datatype
datatype_of c = get_or datatypes c no_datatype

abbrev pub datatype_name : ℕ → List ℕ
datatype_name c = (datatype_of c).name

-- a name of at most 8 bytes, filled up with zeros
abbrev pub zero_filled : List ℕ → List ℕ
zero_filled n = n ++ replicate (8 - length n) 0

-- "component bytes × (2 if complex)"
abbrev pub channel_bytes : Datatype → ℕ
channel_bytes d = d.bytes * cond d.complex 2 1

-- "W = component bytes × (2 if complex) × channels"
unfoldable pub width_of : ℕ → ℕ → ℕ
width_of c n = channel_bytes (datatype_of c) * n

-- W of a listed code and 1 to 1,024 channels; 0 for any other numbers
unfoldable pub sample_bytes : ℕ → ℕ → ℕ
sample_bytes c n = cond (is_listed c && (leb 1 n && leb n channels)) (width_of c n) 0
