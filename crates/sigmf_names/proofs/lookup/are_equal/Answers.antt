use mathlib.Core.Path.{◌∙◌}
use Rattle.sigmf_names.proofs.NameLaws.{equal_end, equal_on}
use Rattle.sigmf_names.proofs.lookup.are_equal.Goals as goal

pub loop-i-preserved : goal.loop-i-preserved
loop-i-preserved c =
    let loop = c.loop-i in
    equal_on c.args.a.now c.args.b.now loop.i loop.ok c.requires c.loop-i-test.true ∙ loop.invariant

pub returns : goal.returns
returns c =
    let loop = c.loop-i in
    equal_end c.args.a.now c.args.b.now loop.i loop.ok c.requires c.loop-i-test.false ∙ loop.invariant
