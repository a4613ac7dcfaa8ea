use Rattle.export_listing.proofs.LabelLaws.{label_here, label_none}
use Rattle.export_listing.proofs.table_label.Goals as goal

pub returns-then-present-eq1 : goal.returns-then-present-eq1
returns-then-present-eq1 c = label_here _ _ _ _ _ _ _ c.label-part.ensures.refusal c.label-part.ensures.present _ c.label-part.ensures.label c.if-present-eq1.true _ c.annotation_at-x.ensures

pub returns : goal.returns
returns c = label_none _ _ _ _ _ _ _ c.label-part.ensures.refusal c.label-part.ensures.present c.if-present-eq1.false
