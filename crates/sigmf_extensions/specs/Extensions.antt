-- Extension entries (document 01, "Fields", as request P3 amends it). p is the part of the text that holds the entry.
use Rattle.std.specs.Prelude.{Bool, true, false, cond, not, ◌&&◌, List, [], ◌∷◌, map, ℕ, ◌+◌, eqb}
use Rattle.json_blocks.specs.TextBytes.{ascii}
use Rattle.json_blocks.specs.Lists.{any}
use Rattle.json_names.specs.Same.{same}
use Rattle.json_walk.specs.declared.Member.{Member}
use Rattle.json_walk.specs.Members.{members_at, elements_at}
use Rattle.sigmf_texts.specs.Texts.{name_text}
use Rattle.refusals.specs.Refusals.{Rule, rule}
use Rattle.sigmf_values.specs.declared.FieldType.TheVariants as T
use Rattle.sigmf_extensions.specs.declared.EntryMember.{EntryMember}
use Rattle.sigmf_extensions.specs.declared.EntryMember.TheVariants as M
use Rattle.sigmf_extensions.specs.declared.Tally.{Tally}
use Rattle.sigmf_extensions.specs.declared.Extension.{Extension}
use Rattle.sigmf_extensions.specs.declared.Extension.TheVariants as E
use Rattle.sigmf_values.specs.Values.{part_of, has_type, is_true}

abbrev pub member_name : List ℕ → Member → List ℕ
member_name s m = name_text (part_of s m.name m.quote)

abbrev pub member_value : List ℕ → Member → List ℕ
member_value s m = part_of s m.value m.end

-- "`name` (string), `version` (string), `optional` (boolean)", or any other member
unfoldable pub class_of : List ℕ → Member → EntryMember
class_of p m =
    cond (same (member_name p m) (ascii "name")) (cond (has_type T.Text (member_value p m)) M.Name M.Other)
    (cond (same (member_name p m) (ascii "version")) (cond (has_type T.Text (member_value p m)) M.Version M.Other)
    (cond (same (member_name p m) (ascii "optional"))
    (cond (has_type T.Boolean (member_value p m)) (cond (is_true (member_value p m)) M.OptionalTrue M.OptionalFalse) M.Other) M.Other))

-- how many members of each class there are
abbrev pub counted : Tally → EntryMember → Tally
counted t M.Name = record { names = t.names + 1; versions = t.versions; optionals = t.optionals; trues = t.trues; others = t.others }
counted t M.Version = record { names = t.names; versions = t.versions + 1; optionals = t.optionals; trues = t.trues; others = t.others }
counted t M.OptionalTrue = record { names = t.names; versions = t.versions; optionals = t.optionals + 1; trues = t.trues + 1; others = t.others }
counted t M.OptionalFalse = record { names = t.names; versions = t.versions; optionals = t.optionals + 1; trues = t.trues; others = t.others }
counted t M.Other = record { names = t.names; versions = t.versions; optionals = t.optionals; trues = t.trues; others = t.others + 1 }

unfoldable pub tally_from : List ℕ → Tally → List Member → Tally
tally_from p t [] = t
tally_from p t (m ∷ ms) = tally_from p (counted t (class_of p m)) ms

abbrev pub no_members : Tally
no_members = record { names = 0; versions = 0; optionals = 0; trues = 0; others = 0 }

abbrev pub tally_of : List ℕ → Tally
tally_of p = tally_from p no_members (members_at p 0)

-- request P3: "false means needed, true means it may be ignored"
abbrev pub needed_if : Bool → Bool
needed_if optional = not optional

-- "an object with exactly" one of each, and no other member
abbrev pub exactly : Tally → Bool
exactly t = eqb t.names 1 && eqb t.versions 1 && eqb t.optionals 1 && eqb t.others 0

-- of an entry with one `optional`
abbrev pub needed : Tally → Bool
needed t = needed_if (eqb t.trues 1)

unfoldable pub judged : Tally → Extension
judged t = cond (exactly t) (cond (needed t) E.Needed E.Ignored) E.Malformed

unfoldable pub extension_of : List ℕ → Extension
extension_of p = cond (has_type T.Object p) (judged (tally_of p)) E.Malformed

-- the refusal that an entry gives cause for, 0 for none
abbrev pub extension_refusal : Extension → ℕ
extension_refusal E.Malformed = 12
extension_refusal E.Needed = 13
extension_refusal E.Ignored = 0

-- 12: "an extension entry is malformed"; 13: "an extension is needed (none is known yet)". Of a malformed entry both may hold:
-- 12 is told.
abbrev pub extension_rules : List ℕ → List Rule
extension_rules p = rule 12 (not (has_type T.Object p && exactly (tally_of p))) ∷ rule 13 (needed (tally_of p)) ∷ []

-- the entries of the array at a place
abbrev pub entries_at : List ℕ → ℕ → List Extension
entries_at s at = map (λ e. extension_of (part_of s e.at e.end)) (elements_at s at)

abbrev pub is_malformed : Extension → Bool
is_malformed E.Malformed = true
is_malformed E.Needed = false
is_malformed E.Ignored = false

abbrev pub is_needed : Extension → Bool
is_needed E.Needed = true
is_needed E.Malformed = false
is_needed E.Ignored = false

-- the same rules of all entries
abbrev pub entries_rules : List Extension → List Rule
entries_rules es = rule 12 (any is_malformed es) ∷ rule 13 (any is_needed es) ∷ []
