use Rattle.reader_layout.proofs.JudgeLaws.{judged_format, judged_15, judged_16, judged_17, judged_0, format_small, width_some}
use Rattle.table.proofs.RowLaws.{rest_length}
use Rattle.reader_layout.specs.Entries.{stored_contents}
use Rattle.reader_layout.proofs.summary.Goals as goal

pub returns-then-early-ne0 : goal.returns-then-early-ne0
returns-then-early-ne0 c = search judged_format

pub returns-then-not-in_order : goal.returns-then-not-in_order
returns-then-not-in_order c = search judged_15

pub whole_samples-requires : goal.whole_samples-requires
whole_samples-requires c = (search width_some, search format_small)

pub returns-in_default : goal.returns-in_default
returns-in_default c =
    judged_16 (stored_contents c.args.g c.args.caps.now c.args.n c.args.notes.now c.args.m) c.args.d _ c.format_refusal-early.ensures c.if-early-ne0.false
    _ c.in_order.ensures c.if-not-in_order.false _ c.sample_bytes-w.ensures _ c.no_table-in_default.ensures c.in_default.ensures

pub returns-then-not-all_inside : goal.returns-then-not-all_inside
returns-then-not-all_inside c =
    judged_17 (stored_contents c.args.g c.args.caps.now c.args.n c.args.notes.now c.args.m) c.args.d _ c.format_refusal-early.ensures c.if-early-ne0.false
    _ c.in_order.ensures c.if-not-in_order.false _ c.sample_bytes-w.ensures _ c.in-Some.ensures
    _ c.all_inside.ensures _ c.no_table-then-not-all_inside.ensures c.if-not-all_inside.true

pub returns : goal.returns
returns c =
    judged_0 (stored_contents c.args.g c.args.caps.now c.args.n c.args.notes.now c.args.m) c.args.d _ c.format_refusal-early.ensures c.if-early-ne0.false
    _ c.in_order.ensures c.if-not-in_order.false _ c.sample_bytes-w.ensures _ c.in-Some.ensures
    _ c.all_inside.ensures _ _ _ c.a_table.ensures c.if-not-all_inside.false (rest_length _ _) (rest_length _ _)
