-- The form of a field name (document 01, "Fields"). d is the decoded name.
use Rattle.json_strings.specs.declared.Position.{Position}
use Rattle.std.specs.Prelude.{Bool, false, cond, not, ◌&&◌, ◌||◌, List, [], ◌∷◌, ℕ, eqb, None, Option, Some}
use Rattle.json_blocks.specs.TextBytes.{within}
use Rattle.json_blocks.specs.Lists.{all}
use Rattle.json_tokens.specs.Number.{digit}
use Rattle.json_strings.specs.Stream.{stream}
use Rattle.refusals.specs.Answer.{Answer, accepted, refused}

-- "of ASCII letters, digits and `_`"
unfoldable pub name_byte : ℕ → Bool
name_byte b = within 0x41 0x5A b || within 0x61 0x7A b || digit b || eqb b 0x5F

-- "the namespace may also hold `-`"
unfoldable pub namespace_byte : ℕ → Bool
namespace_byte b = eqb b 0x2D || name_byte b

-- "each not empty and not starting with a digit"
abbrev pub begun : List ℕ → Bool
begun [] = false
begun (b ∷ l) = not (digit b)

-- "a part on each side": up to the first colon, and from past it
unfoldable pub namespace_of : List ℕ → List ℕ
namespace_of [] = []
namespace_of (b ∷ l) = cond (eqb b 0x3A) [] (b ∷ namespace_of l)

unfoldable pub after_colon : List ℕ → List ℕ
after_colon [] = []
after_colon (b ∷ l) = cond (eqb b 0x3A) l (after_colon l)

-- "one colon": without one the second part is empty, and another one is no byte of it
unfoldable pub form_ok : List ℕ → Bool
form_ok d = begun (namespace_of d) && all namespace_byte (namespace_of d) && begun (after_colon d) && all name_byte (after_colon d)

-- the part after the colon of a name of the form; 5: "a field name .. has the wrong form"
unfoldable pub form_of : List ℕ → Answer (List ℕ)
form_of d = cond (form_ok d) (accepted (after_colon d)) (refused 5)

-- what an answer says of a raw name: the decoded text from its position on is the part
abbrev pub part_after : List ℕ → Option Position → Answer (List ℕ)
part_after raw (Some p) = accepted (stream raw p)
part_after raw None = refused 5
