use mathlib.Core.Path.{sym, ap, ◌∙◌}
use Rattle.reader.proofs.StageLaws.{text_bad, text_judged}
use Rattle.json_judge.specs.Judged.{refusal_of}
use Rattle.reader.proofs.text_refusal.Goals as goal

pub returns-then-is_bad_length : goal.returns-then-is_bad_length
returns-then-is_bad_length c = search text_bad

pub returns-in-Ok : goal.returns-in-Ok
returns-in-Ok c = ap refusal_of (sym c.in-Ok.is) ∙ text_judged _ _ _ c.is_bad_length.ensures c.if-is_bad_length.false c.judge.result c.judge.ensures

pub returns-in-Err : goal.returns-in-Err
returns-in-Err c = c.refusal.ensures ∙ ap refusal_of (sym c.in-Err.is) ∙ text_judged _ _ _ c.is_bad_length.ensures c.if-is_bad_length.false c.judge.result c.judge.ensures
