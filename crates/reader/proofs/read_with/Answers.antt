use mathlib.Core.Path.{◌∙◌}
use Rattle.reader.proofs.StageLaws.{text_json, read_parts, answer_samples, captures_samples, annotations_samples}
use Rattle.reader.proofs.read_with.Goals as goal

pub scan-x-requires : goal.scan-x-requires
scan-x-requires c = record { s_value = text_json c.args.s.now c.args.d c.requires.d_value; entries_room = c.requires.entries_room }

pub returns-then-x-ne0 : goal.returns-then-x-ne0
returns-then-x-ne0 c = let t = read_parts c.args.s.now c.args.d _ _ c.requires.d_value _ c.scan-x.ensures.low c.if-x-ne0.true in record { answer = c.no_table.ensures ∙ t.0; captures = t.1.0; annotations = t.1.1 }

pub returns : goal.returns
returns c = record { answer = c.lay.ensures.answer ∙ answer_samples c.args.s.now c.args.d _ _ c.requires.d_value _ (c.scan-x.ensures.contents c.if-x-ne0.false) _ c.scan-x.ensures.low c.if-x-ne0.false; captures = c.lay.ensures.captures ∙ captures_samples c.args.s.now c.args.d _ _ c.requires.d_value _ (c.scan-x.ensures.contents c.if-x-ne0.false) _ c.scan-x.ensures.low c.if-x-ne0.false; annotations = c.lay.ensures.annotations ∙ annotations_samples c.args.s.now c.args.d _ _ c.requires.d_value _ (c.scan-x.ensures.contents c.if-x-ne0.false) _ c.scan-x.ensures.low c.if-x-ne0.false }
