-- Request P2: what the lookup of a name among the core names of its kind of object answers. raw is the name between its quotes, as the
-- grammar derives it, and d the text that its characters mean.
use Rattle.std.specs.Prelude.{◌≡◌, List, [], ◌∷◌, ℕ, ◌<◌, length}
use Rattle.json_grammar.specs.Grammar.{Characters}
use Rattle.json_strings.specs.Meaning.{Means}
use Rattle.sigmf_texts.specs.Texts.{name_text}
use Rattle.sigmf_names.specs.declared.Object.{Object}
use Rattle.sigmf_names.specs.declared.NameLookup.{NameLookup}
use Rattle.sigmf_names.specs.Names.{core_of, core_name, core_at}
use Rattle.sigmf_names.specs.Lookup.{names_of_length, lookup_in, lookup_answer}

unfoldable pub NoBackslash : List ℕ → Type 0
NoBackslash [] = Unit {0}
NoBackslash (b ∷ s) = (b ≡ 0x5C → ⊥) × NoBackslash s

-- the text is the name of field i
abbrev pub Names : Object → ℕ → List ℕ → Type 0
Names kind i d = (i < length (core_of kind)) × (d ≡ core_name (core_at (core_of kind) i))

pub record LookedUp (kind : Object) (raw d : List ℕ) (r : NameLookup) : Type 0 where
  -- document 01: "A name is known when it is equal, byte for byte, to one of the core names below for its kind of object": its number, and
  -- how many there are if it is none's
  pub known : (i : ℕ) → Names kind i d → r.number ≡ i
  pub unknown : ((i : ℕ) → Names kind i d → ⊥) → r.number ≡ length (core_of kind)
  -- "how many core names it compared byte for byte: exactly those of its kind of object with the name's decoded length"
  pub compared : r.compared ≡ names_of_length (core_of kind) (length d)
  -- "a name without a backslash is its own decoded text": comparing it raw is comparing it decoded
  pub itself : NoBackslash raw → d ≡ raw
  pub alike : NoBackslash raw → r ≡ lookup_in (core_of kind) raw

-- of every name that the grammar derives: its characters mean a text, and whatever text they mean, the answer goes by it
abbrev pub NamesLookedUp : Type 0
NamesLookedUp =
    (kind : Object) (raw : List ℕ) → Characters raw →
    Means raw (name_text raw) × ((d : List ℕ) → Means raw d → LookedUp kind raw d (lookup_answer kind raw))
