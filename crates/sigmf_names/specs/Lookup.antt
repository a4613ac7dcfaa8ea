-- Looking up a name (request P2): its field's place in the list of its kind of object, and "how many core names it compared byte for byte".
use Rattle.std.specs.Prelude.{cond, List, [], ◌∷◌, ℕ, suc, length, eqb}
use Rattle.sigmf_texts.specs.Lookup.{index_in}
use Rattle.sigmf_texts.specs.Texts.{name_text}
use Rattle.sigmf_names.specs.declared.Object.{Object}
use Rattle.sigmf_names.specs.declared.NameLookup.{NameLookup}
use Rattle.sigmf_names.specs.Names.{Core, core_of, core_name}

-- "exactly those of its kind of object with the name's decoded length": how many names of a list have n bytes
unfoldable pub names_of_length : List Core → ℕ → ℕ
names_of_length [] n = 0
names_of_length (c ∷ cs) n = cond (eqb (length (core_name c)) n) (suc (names_of_length cs n)) (names_of_length cs n)

-- of a decoded name d
abbrev pub lookup_in : List Core → List ℕ → NameLookup
lookup_in cs d = record { number = index_in core_name cs d; compared = names_of_length cs (length d) }

-- of a raw name
abbrev pub lookup_answer : Object → List ℕ → NameLookup
lookup_answer kind raw = lookup_in (core_of kind) (name_text raw)
