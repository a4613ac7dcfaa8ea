use native.Mathlib.Omega.{arith}
use mathlib.Core.Path.{refl, sym, ◌∙◌}
use Rattle.sigmf_names.specs.Names.{annotation_fields}
use Rattle.sigmf_names.specs.Lookup.{names_of_length}
use Rattle.sigmf_names.specs.LookupCode.{one_more}
use Rattle.sigmf_names.proofs.NameLaws.{then, place_from, by_length, one_of, NoneOf, none_compared}
use Rattle.json_blocks.specs.Lists.{all}
use mathlib.Core.List.{[], ◌∷◌}
use Rattle.json_blocks.specs.TextBytes.{ascii}
use Rattle.json_names.specs.Same.{same}
use Rattle.sigmf_names.proofs.lookup.compare_annotation.Goals as goal

pub returns-in-9 : goal.returns-in-9
unfolding annotation_fields one_more place_from names_of_length
returns-in-9 c =
    let text = c.args.text.now in
    c.compare.ensures
    ∙ by_length annotation_fields 9 text (sym c.in-9.is)

pub returns-in-10 : goal.returns-in-10
unfolding annotation_fields one_more place_from names_of_length
returns-in-10 c =
    let text = c.args.text.now in
    c.compare-in-10.ensures
    ∙ by_length annotation_fields 10 text (sym c.in-10.is)

pub returns-in-12 : goal.returns-in-12
unfolding annotation_fields one_more place_from names_of_length
returns-in-12 c =
    let text = c.args.text.now in
    c.compare-in-12.ensures
    ∙ by_length annotation_fields 12 text (sym c.in-12.is)

pub returns-in-13 : goal.returns-in-13
unfolding annotation_fields one_more place_from names_of_length
returns-in-13 c =
    let text = c.args.text.now in
    c.compare-in-13.ensures
    ∙ by_length annotation_fields 13 text (sym c.in-13.is)

pub returns-in-14 : goal.returns-in-14
unfolding annotation_fields one_more place_from names_of_length
returns-in-14 c =
    let text = c.args.text.now in
    then (same text (ascii "core:generator")) 2 c.compare-in-14.ensures c.compare-r.ensures
    ∙ by_length annotation_fields 14 text (sym c.in-14.is)

pub returns-in-17 : goal.returns-in-17
unfolding annotation_fields one_more place_from names_of_length
returns-in-17 c =
    let text = c.args.text.now in
    then (same text (ascii "core:sample_start")) 0 c.compare-in-17.ensures c.compare-r-in-17.ensures
    ∙ by_length annotation_fields 17 text (sym c.in-17.is)

pub returns-in-20 : goal.returns-in-20
unfolding annotation_fields one_more place_from names_of_length
returns-in-20 c =
    let text = c.args.text.now in
    then (same text (ascii "core:freq_lower_edge")) 6 c.compare-in-20.ensures c.compare-r-in-20.ensures
    ∙ by_length annotation_fields 20 text (sym c.in-20.is)

pub returns-in_default : goal.returns-in_default
unfolding annotation_fields all one_of NoneOf
returns-in_default c = none_compared annotation_fields (20 ∷ 17 ∷ 14 ∷ 13 ∷ 12 ∷ 10 ∷ 9 ∷ []) c.args.text.now refl (((((((tt, λ e. omega (arith, e)), λ e. omega (arith, e)), λ e. omega (arith, e)), λ e. omega (arith, e)), λ e. omega (arith, e)), λ e. omega (arith, e)), λ e. omega (arith, e))
