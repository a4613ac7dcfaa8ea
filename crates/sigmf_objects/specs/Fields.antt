-- Document 01, "The JSON text" and "Fields": the members of one global, capture or annotation object, and the conditions 5, 6 and 7
-- as they speak of one object.
use Rattle.std.specs.Prelude.{Bool, true, false, cond, not, ◌&&◌, ◌||◌, List, [], ◌∷◌, map, ℕ, suc, length, eqb, ltb, None, Some, Option}
use Rattle.std.proofs.Math.Option.{Option as Maybe, none, some}
use Rattle.json_walk.specs.declared.Member.{Member}
use Rattle.json_walk.specs.Members.{members_at, members_end}
use Rattle.sigmf_texts.specs.Lookup.{index_in}
use Rattle.sigmf_texts.specs.Form.{form_ok}
use Rattle.sigmf_values.specs.Values.{uint_of, has_type}
use Rattle.sigmf_names.specs.Names.{Core, core_name, type_at}
use Rattle.sigmf_extensions.specs.Extensions.{member_name, member_value}

-- a value: the place of its first byte, and "the part of the text that holds it"
pub record Value : Type 0 where
  pub at : ℕ
  pub part : List ℕ

-- a member: its name, decoded, and its value
pub record Field : Type 0 where
  pub name : List ℕ
  pub value : Value

abbrev pub field_of : List ℕ → Member → Field
field_of s m = record { name = member_name s m; value = record { at = m.value; part = member_value s m } }

-- the members of the object at a place
abbrev pub fields_at : List ℕ → ℕ → List Field
fields_at s at = map (field_of s) (members_at s at)

-- where they end: in an object that was read, its closing brace; a place past the text's end stays
unfoldable pub close_at : List ℕ → ℕ → ℕ
close_at s at = cond (ltb at (length s)) (members_end s at) at

-- "A name is known when it is equal, byte for byte, to one of the core names below for its kind of object": its number in the list
-- of that kind's fields, or one past it
abbrev pub number_in : List Core → Field → ℕ
number_in cs f = index_in core_name cs f.name

-- the value of the field that is sought, z if there is none; no name stands twice (3), and if one did the later would count
unfoldable pub last_where : (Field → Bool) → Maybe Value → List Field → Maybe Value
last_where sought z [] = z
last_where sought z (f ∷ fs) = last_where sought (cond (sought f) (some f.value) z) fs

-- the known field i
abbrev pub value_from : List Core → ℕ → Maybe Value → List Field → Maybe Value
value_from cs i = last_where (λ f. eqb (number_in cs f) i)

abbrev pub value_in : List Core → ℕ → List Field → Maybe Value
value_in cs i fs = value_from cs i none fs

-- what f says of a value that is there, or z
abbrev pub given : {A : Type 0} → A → (Value → A) → Maybe Value → A
given z f none = z
given z f (some v) = f v

abbrev pub is_absent : Maybe Value → Bool
is_absent v = given true (λ _. false) v

-- the number of a uint, or z where it is absent
abbrev pub uint_number : Option ℕ → ℕ
uint_number (Some n) = n
uint_number None = 0

abbrev pub uint_or : ℕ → Maybe Value → ℕ
uint_or z v = given z (λ v. uint_number (uint_of v.part)) v

-- 5: "a field name in global, a capture or an annotation has the wrong form"
unfoldable pub misnamed : List Field → Bool
misnamed [] = false
misnamed (f ∷ fs) = not (form_ok f.name) || misnamed fs

-- 6: "a required core field missing"; field i is the first of the fields l
unfoldable pub missing_from : List Core → ℕ → List Core → List Field → Bool
missing_from cs i [] fs = false
missing_from cs i (c ∷ l) fs = (c.required && is_absent (value_in cs i fs)) || missing_from cs (suc i) l fs

abbrev pub missing : List Core → List Field → Bool
missing cs fs = missing_from cs 0 cs fs

-- 7: "a core field of the wrong type"; an unknown name takes any type
unfoldable pub mistyped : List Core → List Field → Bool
mistyped cs [] = false
mistyped cs (f ∷ fs) = not (has_type (type_at cs (number_in cs f)) f.value.part) || mistyped cs fs
