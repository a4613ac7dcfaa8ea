use mathlib.Core.Path.{sym, ◌∙◌}
use Rattle.reader.proofs.StageLaws.{text_fits_lem, read_text}
use native.Mathlib.Omega.{arith}
use Rattle.reader.proofs.read.Goals as goal

pub returns-then-n-ne0 : goal.returns-then-n-ne0
returns-then-n-ne0 c = let t = read_text c.args.s.now c.args.d _ _ _ c.text_refusal-n.ensures c.if-n-ne0.true in record { answer = c.no_table.ensures ∙ t.0; captures = t.1.0; annotations = t.1.1 }

pub read_in-requires-else-s-le-SHORT-clause-room : goal.read_in-requires-else-s-le-SHORT-clause-room
read_in-requires-else-s-le-SHORT-clause-room c =
    let l = text_fits_lem c.args.s.now c.args.d (sym c.text_refusal-n.ensures ∙ c.if-n-ne0.false) in
    (omega arith, omega arith)
