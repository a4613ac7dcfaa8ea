use native.Mathlib.Omega.{arith}
use Rattle.output.proofs.Writing.{writes_none, writes_end, writes_long, next_from, next_room, next_sum, writes_next, whole_part}
use Rattle.output.proofs.RowLines.{write_more, write_none}
use Rattle.listing.specs.Lines.{annotation_line}
use Rattle.table.specs.Rows.{annotation_at}
use Rattle.listing.proofs.write_annotations.Goals as goal

pub loop-k-init : goal.loop-k-init
loop-k-init c = writes_none c.args.out.now (whole_part _) c.requires

pub slice_bounds-put_annotation_line-count : goal.slice_bounds-put_annotation_line-count
slice_bounds-put_annotation_line-count c = next_from c.loop-k.invariant

pub slice_bounds-put_annotation_line-start : goal.slice_bounds-put_annotation_line-start
slice_bounds-put_annotation_line-start c = next_from c.loop-k.invariant

pub put_annotation_line-used-requires : goal.put_annotation_line-used-requires
put_annotation_line-used-requires c = next_room (write_more (annotation_line c.args.s.now) (annotation_at c.args.notes.now) _ _ _ c.annotation_at-x.ensures c.loop-k-test.true c.loop-k.invariant)

pub overflow_add-used : goal.overflow_add-used
overflow_add-used c =
    let g = c.well_formed in
    omega (arith, next_sum (write_more (annotation_line c.args.s.now) (annotation_at c.args.notes.now) _ _ _ c.annotation_at-x.ensures c.loop-k-test.true c.loop-k.invariant) (c.put_annotation_line-used.ensures.count, c.put_annotation_line-used.ensures.memory))

pub loop-k-preserved : goal.loop-k-preserved
loop-k-preserved c = writes_next (write_more (annotation_line c.args.s.now) (annotation_at c.args.notes.now) _ _ _ c.annotation_at-x.ensures c.loop-k-test.true c.loop-k.invariant) (c.put_annotation_line-used.ensures.count, c.put_annotation_line-used.ensures.memory)

pub shape_of-out : goal.shape_of-out
shape_of-out c = writes_long c.loop-k.invariant

pub returns : goal.returns
returns c =
    let p = writes_end (write_none (annotation_line c.args.s.now) (annotation_at c.args.notes.now) _ _ c.loop-k-test.false c.loop-k.invariant) in
    record { count = p.0; memory = p.1 }
