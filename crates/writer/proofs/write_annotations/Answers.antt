use native.Mathlib.Omega.{arith}
use mathlib.Core.Path.{ap}
use Rattle.output.proofs.Writing.{writes_none, writes_end, writes_long, next_from, next_room, next_sum, writes_next, whole_part}
use Rattle.output.proofs.RowLines.{write_more, write_none}
use Rattle.table.specs.Rows.{annotation_at}
use Rattle.writer.specs.TextParts.{comma_before, item}
use Rattle.writer.specs.Metadata.{annotation_text}
use mathlib.Core.List.{◌++◌}
use Rattle.table.specs.declared.Annotation.{Annotation}
use Rattle.writer.proofs.write_annotations.Goals as goal

pub loop-k-init : goal.loop-k-init
loop-k-init c = writes_none c.args.out.now (whole_part _) c.requires

pub slice_bounds-put_annotation-count : goal.slice_bounds-put_annotation-count
slice_bounds-put_annotation-count c = next_from c.loop-k.invariant

pub slice_bounds-put_annotation-start : goal.slice_bounds-put_annotation-start
slice_bounds-put_annotation-start c = next_from c.loop-k.invariant

pub put_annotation-used-requires : goal.put_annotation-used-requires
put_annotation-used-requires c =
    next_room (write_more (λ l. l) (item (annotation_text c.args.s.now) (annotation_at c.args.notes.now)) _ _ _ (ap (λ (x : Annotation). comma_before c.loop-k.k ++ annotation_text c.args.s.now x) c.annotation_at-x.ensures) c.loop-k-test.true c.loop-k.invariant)

pub overflow_add-used : goal.overflow_add-used
overflow_add-used c =
    let g = c.well_formed in
    omega (arith, next_sum (write_more (λ l. l) (item (annotation_text c.args.s.now) (annotation_at c.args.notes.now)) _ _ _ (ap (λ (x : Annotation). comma_before c.loop-k.k ++ annotation_text c.args.s.now x) c.annotation_at-x.ensures) c.loop-k-test.true c.loop-k.invariant) (c.put_annotation-used.ensures.count, c.put_annotation-used.ensures.memory))

pub loop-k-preserved : goal.loop-k-preserved
loop-k-preserved c =
    writes_next (write_more (λ l. l) (item (annotation_text c.args.s.now) (annotation_at c.args.notes.now)) _ _ _ (ap (λ (x : Annotation). comma_before c.loop-k.k ++ annotation_text c.args.s.now x) c.annotation_at-x.ensures) c.loop-k-test.true c.loop-k.invariant) (c.put_annotation-used.ensures.count, c.put_annotation-used.ensures.memory)

pub shape_of-out : goal.shape_of-out
shape_of-out c = writes_long c.loop-k.invariant

pub returns : goal.returns
returns c =
    let p = writes_end (write_none (λ l. l) (item (annotation_text c.args.s.now) (annotation_at c.args.notes.now)) _ _ c.loop-k-test.false c.loop-k.invariant) in
    record { count = p.0; memory = p.1 }
