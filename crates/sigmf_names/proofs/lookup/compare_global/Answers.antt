use native.Mathlib.Omega.{arith}
use mathlib.Core.Path.{refl, sym, ◌∙◌}
use Rattle.sigmf_names.specs.Names.{global_fields}
use Rattle.sigmf_names.specs.Lookup.{names_of_length}
use Rattle.sigmf_names.specs.LookupCode.{one_more}
use Rattle.sigmf_names.proofs.NameLaws.{then, place_from, by_length, one_of, NoneOf, none_compared}
use Rattle.json_blocks.specs.Lists.{all}
use mathlib.Core.List.{[], ◌∷◌}
use Rattle.json_blocks.specs.TextBytes.{ascii}
use Rattle.json_names.specs.Same.{same}
use Rattle.sigmf_names.proofs.lookup.compare_global.Goals as goal

pub returns-in-7 : goal.returns-in-7
unfolding global_fields one_more place_from names_of_length
returns-in-7 c =
    let text = c.args.text.now in
    c.compare.ensures
    ∙ by_length global_fields 7 text (sym c.in-7.is)

pub returns-in-9 : goal.returns-in-9
unfolding global_fields one_more place_from names_of_length
returns-in-9 c =
    let text = c.args.text.now in
    c.compare-in-9.ensures
    ∙ by_length global_fields 9 text (sym c.in-9.is)

pub returns-in-11 : goal.returns-in-11
unfolding global_fields one_more place_from names_of_length
returns-in-11 c =
    let text = c.args.text.now in
    then (same text (ascii "core:sha512")) 2 c.compare-in-11.ensures
    (then (same text (ascii "core:author")) 4 c.compare-r-in-11.ensures c.compare-r.ensures)
    ∙ by_length global_fields 11 text (sym c.in-11.is)

pub returns-in-12 : goal.returns-in-12
unfolding global_fields one_more place_from names_of_length
returns-in-12 c =
    let text = c.args.text.now in
    then (same text (ascii "core:version")) 1 c.compare-in-12.ensures
    (then (same text (ascii "core:license")) 8 c.compare-r-in-12-2.ensures c.compare-r-in-12.ensures)
    ∙ by_length global_fields 12 text (sym c.in-12.is)

pub returns-in-13 : goal.returns-in-13
unfolding global_fields one_more place_from names_of_length
returns-in-13 c =
    let text = c.args.text.now in
    then (same text (ascii "core:datatype")) 0 c.compare-in-13.ensures
    (then (same text (ascii "core:meta_doi")) 5 c.compare-r-in-13-3.ensures
    (then (same text (ascii "core:data_doi")) 6 c.compare-r-in-13-2.ensures c.compare-r-in-13.ensures))
    ∙ by_length global_fields 13 text (sym c.in-13.is)

pub returns-in-15 : goal.returns-in-15
unfolding global_fields one_more place_from names_of_length
returns-in-15 c =
    let text = c.args.text.now in
    then (same text (ascii "core:collection")) 11 c.compare-in-15.ensures c.compare-r-in-15.ensures
    ∙ by_length global_fields 15 text (sym c.in-15.is)

pub returns-in-16 : goal.returns-in-16
unfolding global_fields one_more place_from names_of_length
returns-in-16 c =
    let text = c.args.text.now in
    then (same text (ascii "core:description")) 3 c.compare-in-16.ensures
    (then (same text (ascii "core:sample_rate")) 15 c.compare-r-in-16-2.ensures c.compare-r-in-16.ensures)
    ∙ by_length global_fields 16 text (sym c.in-16.is)

pub returns-in-17 : goal.returns-in-17
unfolding global_fields one_more place_from names_of_length
returns-in-17 c =
    let text = c.args.text.now in
    c.compare-in-17.ensures
    ∙ by_length global_fields 17 text (sym c.in-17.is)

pub returns-in-18 : goal.returns-in-18
unfolding global_fields one_more place_from names_of_length
returns-in-18 c =
    let text = c.args.text.now in
    c.compare-in-18.ensures
    ∙ by_length global_fields 18 text (sym c.in-18.is)

pub returns-in-19 : goal.returns-in-19
unfolding global_fields one_more place_from names_of_length
returns-in-19 c =
    let text = c.args.text.now in
    c.compare-in-19.ensures
    ∙ by_length global_fields 19 text (sym c.in-19.is)

pub returns-in_default : goal.returns-in_default
unfolding global_fields all one_of NoneOf
returns-in_default c = none_compared global_fields (19 ∷ 18 ∷ 17 ∷ 16 ∷ 15 ∷ 13 ∷ 12 ∷ 11 ∷ 9 ∷ 7 ∷ []) c.args.text.now refl ((((((((((tt, λ e. omega (arith, e)), λ e. omega (arith, e)), λ e. omega (arith, e)), λ e. omega (arith, e)), λ e. omega (arith, e)), λ e. omega (arith, e)), λ e. omega (arith, e)), λ e. omega (arith, e)), λ e. omega (arith, e)), λ e. omega (arith, e))
