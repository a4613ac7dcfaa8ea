-- The members of the object, and the elements of the array, whose opening byte stands at a place. Values are passed by their
-- brackets and quotes; in a text that is JSON these are the members and elements of its derivation (`members_derived`, claims_derived/proofs/Nodes.antt).
use Rattle.json_walk.specs.declared.MemberName.{MemberName}
use Rattle.json_blocks.specs.declared.Cursor.{Cursor}
use Rattle.std.specs.Prelude.{cond, List, ℕ, ◌+◌, ◌-◌, eqb, ltb, None, Option, Some}
use Rattle.json_blocks.specs.TextBytes.{byte, skip_blanks}
use Rattle.json_blocks.specs.Group.{colon_at}
use Rattle.json_grammar.specs.Skip.{skip_string, skip_value}
use Rattle.json_walk.specs.declared.Member.{Member}
use Rattle.json_walk.specs.declared.Element.{Element}
use Rattle.json_walk.specs.Gather.{GatherStep, found, stop, gather, gather_end}

-- after an item: past a comma and blanks, or at the close
unfoldable pub next_item : List ℕ → ℕ → ℕ
next_item s at = cond (eqb (byte s (skip_blanks s at)) 0x2C) (skip_blanks s (skip_blanks s at + 1)) (skip_blanks s at)

-- a name that begins at a place and ends before e, with the place that a colon leads to
abbrev pub name_to : ℕ → ℕ → Option Cursor → Option MemberName
name_to at e (Some v) = Some (record { name = at + 1; quote = e - 1; value = v.at })
name_to at e None = None

unfoldable pub name_step : List ℕ → ℕ → Option MemberName
name_step s at = cond (eqb (byte s at) 0x22) (name_to at (skip_string s (at + 1)) (colon_at s (skip_string s (at + 1)))) None

-- and with the value there
abbrev pub member_to : List ℕ → ℕ → ℕ → Option Cursor → Option (Member × ℕ)
member_to s at e (Some v) = Some ((record { name = at + 1; quote = e - 1; value = v.at; end = skip_value s v.at }), (next_item s (skip_value s v.at)))
member_to s at e None = None

unfoldable pub member_step : List ℕ → ℕ → Option (Member × ℕ)
member_step s at = cond (eqb (byte s at) 0x22) (member_to s at (skip_string s (at + 1)) (colon_at s (skip_string s (at + 1)))) None

unfoldable pub element_step : List ℕ → ℕ → Option (Element × ℕ)
element_step s at = cond (ltb at (skip_value s at)) (Some ((record { at = at; end = skip_value s at }), (next_item s (skip_value s at)))) None

abbrev pub member_found : Option (Member × ℕ) → GatherStep Member
member_found (Some (m, j)) = found m j
member_found None = stop

abbrev pub element_found : Option (Element × ℕ) → GatherStep Element
element_found (Some (e, j)) = found e j
element_found None = stop

-- from the first one, or the close, on
abbrev pub members_from : List ℕ → ℕ → List Member
members_from s at = gather s (λ i. member_found (member_step s i)) at

abbrev pub elements_from : List ℕ → ℕ → List Element
elements_from s at = gather s (λ i. element_found (element_step s i)) at

-- where the walk over members stops: in an object that was read, at its closing brace (proofs/ReadLaws.antt)
abbrev pub members_end_from : List ℕ → ℕ → ℕ
members_end_from s at = gather_end s (λ i. member_found (member_step s i)) at

-- of the object and of the array at a place
abbrev pub members_at : List ℕ → ℕ → List Member
members_at s at = members_from s (skip_blanks s (at + 1))

abbrev pub members_end : List ℕ → ℕ → ℕ
members_end s at = members_end_from s (skip_blanks s (at + 1))

abbrev pub elements_at : List ℕ → ℕ → List Element
elements_at s at = elements_from s (skip_blanks s (at + 1))
