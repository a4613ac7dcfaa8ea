use native.Mathlib.Omega.{arith}
use mathlib.Core.Path.{refl, sym, ◌∙◌}
use Rattle.sigmf_names.specs.Names.{capture_fields}
use Rattle.sigmf_names.specs.Lookup.{names_of_length}
use Rattle.sigmf_names.specs.LookupCode.{one_more}
use Rattle.sigmf_names.proofs.NameLaws.{then, place_from, by_length, one_of, NoneOf, none_compared}
use Rattle.json_blocks.specs.Lists.{all}
use mathlib.Core.List.{[], ◌∷◌}
use Rattle.json_blocks.specs.TextBytes.{ascii}
use Rattle.json_names.specs.Same.{same}
use Rattle.sigmf_names.proofs.lookup.compare_capture.Goals as goal

pub returns-in-13 : goal.returns-in-13
unfolding capture_fields one_more place_from names_of_length
returns-in-13 c =
    let text = c.args.text.now in
    c.compare.ensures
    ∙ by_length capture_fields 13 text (sym c.in-13.is)

pub returns-in-14 : goal.returns-in-14
unfolding capture_fields one_more place_from names_of_length
returns-in-14 c =
    let text = c.args.text.now in
    c.compare-in-14.ensures
    ∙ by_length capture_fields 14 text (sym c.in-14.is)

pub returns-in-16 : goal.returns-in-16
unfolding capture_fields one_more place_from names_of_length
returns-in-16 c =
    let text = c.args.text.now in
    c.compare-in-16.ensures
    ∙ by_length capture_fields 16 text (sym c.in-16.is)

pub returns-in-17 : goal.returns-in-17
unfolding capture_fields one_more place_from names_of_length
returns-in-17 c =
    let text = c.args.text.now in
    then (same text (ascii "core:sample_start")) 0 c.compare-in-17.ensures
    (then (same text (ascii "core:global_index")) 1 c.compare-r-in-17.ensures c.compare-r.ensures)
    ∙ by_length capture_fields 17 text (sym c.in-17.is)

pub returns-in_default : goal.returns-in_default
unfolding capture_fields all one_of NoneOf
returns-in_default c = none_compared capture_fields (17 ∷ 16 ∷ 14 ∷ 13 ∷ []) c.args.text.now refl ((((tt, λ e. omega (arith, e)), λ e. omega (arith, e)), λ e. omega (arith, e)), λ e. omega (arith, e))
