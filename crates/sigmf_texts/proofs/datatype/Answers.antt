use mathlib.Core.Path.{◌≡◌, ◌∙◌}
use native.Mathlib.Omega.{arith}
use Rattle.sigmf_datatypes.proofs.Laws.{unlisted, is_listed_lem}
use Rattle.sigmf_texts.proofs.DatatypeLaws.{datatype_here, datatype_later, datatype_over}
use Rattle.sigmf_texts.proofs.datatype.Goals as goal

pub returns-then-text_is : goal.returns-then-text_is
returns-then-text_is c = datatype_here _ _ _ _ c.name_bytes.ensures c.text_is.ensures (is_listed_lem _ c.loop-code-test.true) c.if-text_is.true ∙ c.loop-code.invariant

pub loop-code-preserved : goal.loop-code-preserved
loop-code-preserved c = datatype_later _ _ _ _ c.name_bytes.ensures c.text_is.ensures (is_listed_lem _ c.loop-code-test.true) c.if-text_is.false ∙ c.loop-code.invariant

pub returns : goal.returns
returns c = let e : 28 ≡ c.loop-code.code = omega arith in e ∙ datatype_over c.loop-code.code _ (unlisted _ c.loop-code-test.false) ∙ c.loop-code.invariant
