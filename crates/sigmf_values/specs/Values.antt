-- The type of one value, "judged on the part of the text that holds it, and on no other byte" (document 01, "The JSON text"):
-- p is that part, from the value's first byte to its last.
use Rattle.std.specs.Prelude.{Bool, true, cond, not, ◌&&◌, ◌||◌, List, ℕ, ◌-◌, ◌^◌, min, length, eqb, ltb, None, Option, Some}
use Rattle.json_blocks.specs.TextBytes.{byte, slice}
use Rattle.json_blocks.specs.Lists.{all, number_from}
use Rattle.json_tokens.specs.Number.{digit}
use Rattle.refusals.specs.Answer.{Answer, accepted, refused}
use Rattle.sigmf_values.specs.declared.FieldType.{FieldType}
use Rattle.sigmf_values.specs.declared.FieldType.TheVariants as T

-- the bytes of s from a place up to another, as far as s goes
abbrev pub part_of : List ℕ → ℕ → ℕ → List ℕ
part_of s at end = slice s at (end - at)

-- where that part begins in s; one without a byte, from no place before the other or from beyond s, is the empty part at the end of s
abbrev pub part_from : List ℕ → ℕ → ℕ → ℕ
part_from s at end = cond (ltb at end) (min at (length s)) (length s)

-- "A uint is digits only, as JSON writes them, at most 2^64 − 1": one digit at least, and no 0 before another
unfoldable pub is_uint : List ℕ → Bool
is_uint p = not (eqb (length p) 0) && not (eqb (byte p 0) 0x30 && ltb 1 (length p)) && all digit p && ltb (number_from 0 p) (2 ^ 64)

-- its number
unfoldable pub uint_of : List ℕ → Option ℕ
uint_of p = cond (is_uint p) (Some (number_from 0 p)) None

-- what an answer says; 7: "a core field of the wrong type"
abbrev pub uint_says : Option ℕ → Answer ℕ
uint_says (Some n) = accepted n
uint_says None = refused 7

abbrev pub uint_answer : List ℕ → Answer ℕ
uint_answer p = cond (is_uint p) (accepted (number_from 0 p)) (refused 7)

-- the first byte of a number, and that of true or false
abbrev pub number_byte : ℕ → Bool
number_byte b = eqb b 0x2D || digit b

abbrev pub boolean_byte : ℕ → Bool
boolean_byte b = eqb b 0x74 || eqb b 0x66

-- The types of 01, "Fields". What a value of a JSON text is shows by its first byte: a quote, a minus or a digit, the t of true
-- or the f of false, a brace, a bracket. "`null` is never a match for a typed core field": no type but `Any` takes an n.
unfoldable pub has_type : FieldType → List ℕ → Bool
has_type T.Text p = eqb (byte p 0) 0x22
has_type T.Uint p = is_uint p
has_type T.Double p = number_byte (byte p 0)
has_type T.Boolean p = boolean_byte (byte p 0)
has_type T.Object p = eqb (byte p 0) 0x7B
has_type T.Array p = eqb (byte p 0) 0x5B
has_type T.Any p = true

-- of a boolean's part
abbrev pub is_true : List ℕ → Bool
is_true p = eqb (byte p 0) 0x74
