use Rattle.std.proofs.Common.{rules, tests, ◌∙◌}
use Rattle.std.proofs.lemmas.Iterator.{YieldsList-from_slice}
use Rattle.std.proofs.lemmas.Iterator.Search.{all_from_yields_List}
use Rattle.json_blocks.specs.Blocks.{ordinary_byte}
use Rattle.sigmf_names.proofs.DecodedLaws.{listed}
use Rattle.sigmf_names.proofs.decoded.is_short_verbatim.Goals as goal

pub returns : goal.returns
returns c =
    let raw = c.args.raw.now in
    all_from_yields_List ordinary_byte _ _ _ c.all.ensures.ran (YieldsList-from_slice raw cc) (λ x b q k. search (rules, tests)) ∙ listed ordinary_byte raw
