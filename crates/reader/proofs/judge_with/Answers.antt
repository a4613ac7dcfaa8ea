use mathlib.Core.Path.{◌∙◌}
use Rattle.reader.proofs.StageLaws.{text_json, judge_parts, judge_samples}
use Rattle.reader.proofs.judge_with.Goals as goal

pub scan-x-requires : goal.scan-x-requires
scan-x-requires c = record { s_value = text_json c.args.s.now c.args.d c.requires.d_value; entries_room = c.requires.entries_room }

pub returns-then-x-ne0 : goal.returns-then-x-ne0
returns-then-x-ne0 c = c.no_table.ensures ∙ judge_parts c.args.s.now c.args.d c.requires.d_value _ c.scan-x.ensures.low c.if-x-ne0.true

pub returns : goal.returns
returns c = c.summary.ensures ∙ judge_samples c.args.s.now c.args.d c.requires.d_value _ (c.scan-x.ensures.contents c.if-x-ne0.false) _ c.scan-x.ensures.low c.if-x-ne0.false
