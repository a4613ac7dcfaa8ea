-- A text looked up among the datatypes.
use mathlib.Core.Path.{◌≡◌, sym, ap, ◌∙◌}
use mathlib.Core.Bool.{Bool, true, false}
use mathlib.Core.List.{List}
use Prim.Native.Nat.{ℕ, ◌+◌}
use lib.ListN.{length, drop}
use borrow.Author.Tests.{ltb-false}
use Rattle.json_names.specs.Same.{same}
use Rattle.sigmf_datatypes.specs.Datatypes.{Datatype, datatypes, is_listed, datatype_of, datatype_name}
use Rattle.sigmf_datatypes.proofs.Laws.{listed_below}
use Rattle.sigmf_texts.specs.Lookup.{index_in}
use Rattle.sigmf_texts.proofs.LookupLaws.{index_here, index_later, index_over}

abbrev pub named : Datatype → List ℕ
named r = r.name

-- t says that the text is the name of the code i
module _ (i : ℕ) (w d : List ℕ) (t : Bool) (ew : w ≡ datatype_name i) (e : t ≡ same d w) (l : is_listed i ≡ true) where
  pub datatype_here : t ≡ true → i ≡ i + index_in named (drop i datatypes) d
  unfolding datatype_of
  datatype_here h = index_here named _ datatypes i d (listed_below i l) (sym (e ∙ ap (same d) ew) ∙ h)

  pub datatype_later : t ≡ false → i + 1 + index_in named (drop (i + 1) datatypes) d ≡ i + index_in named (drop i datatypes) d
  unfolding datatype_of
  datatype_later h = index_later named _ datatypes i d (listed_below i l) (sym (e ∙ ap (same d) ew) ∙ h)

pub datatype_over : (i : ℕ) (d : List ℕ) → is_listed i ≡ false → i ≡ i + index_in named (drop i datatypes) d
unfolding is_listed
datatype_over i d l = index_over named datatypes i d (ltb-false i (length datatypes) l)
