use mathlib.Core.Path.{sym, ◌∙◌}
use Rattle.reader.proofs.StageLaws.{text_fits_lem, judge_text_lem}
use native.Mathlib.Omega.{arith}
use Rattle.reader.proofs.judge.Goals as goal

pub returns-then-n-ne0 : goal.returns-then-n-ne0
returns-then-n-ne0 c = c.no_table.ensures ∙ judge_text_lem c.args.s.now c.args.d _ c.text_refusal-n.ensures c.if-n-ne0.true

pub judge_in-requires-else-s-le-SHORT-clause-room : goal.judge_in-requires-else-s-le-SHORT-clause-room
judge_in-requires-else-s-le-SHORT-clause-room c =
    let l = text_fits_lem c.args.s.now c.args.d (sym c.text_refusal-n.ensures ∙ c.if-n-ne0.false) in
    (omega arith, omega arith)
