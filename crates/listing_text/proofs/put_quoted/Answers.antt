use native.Mathlib.Omega.{arith}
use Rattle.listing_text.proofs.ShownLaws.{quoted_parts}
use Rattle.output.proofs.Writing.{writes_none, writes_end, writes_long, byte_inside, byte_sum, writes_byte, next_from, next_room, next_sum, writes_next}
use Rattle.listing_text.proofs.put_quoted.Goals as goal

pub bounds-out-0 : goal.bounds-out-0
bounds-out-0 c =
    let S1 = writes_none c.args.out.now (quoted_parts c.args.raw.now) c.requires in
    byte_inside S1

pub slice_bounds-put_shown-count : goal.slice_bounds-put_shown-count
slice_bounds-put_shown-count c =
    let S1 = writes_none c.args.out.now (quoted_parts c.args.raw.now) c.requires in
    let S2 = writes_byte S1 in
    next_from S2

pub slice_bounds-put_shown-start : goal.slice_bounds-put_shown-start
slice_bounds-put_shown-start c =
    let S1 = writes_none c.args.out.now (quoted_parts c.args.raw.now) c.requires in
    let S2 = writes_byte S1 in
    next_from S2

pub put_shown-n-requires : goal.put_shown-n-requires
put_shown-n-requires c =
    let S1 = writes_none c.args.out.now (quoted_parts c.args.raw.now) c.requires in
    let S2 = writes_byte S1 in
    next_room S2

pub overflow_add-n : goal.overflow_add-n
overflow_add-n c =
    let S1 = writes_none c.args.out.now (quoted_parts c.args.raw.now) c.requires in
    let S2 = writes_byte S1 in
    let g = c.well_formed in
    omega (arith, next_sum S2 (c.put_shown-n.ensures.count, c.put_shown-n.ensures.memory))

pub bounds-out-n : goal.bounds-out-n
bounds-out-n c =
    let S1 = writes_none c.args.out.now (quoted_parts c.args.raw.now) c.requires in
    let S2 = writes_byte S1 in
    let S3 = writes_next S2 (c.put_shown-n.ensures.count, c.put_shown-n.ensures.memory) in
    byte_inside S3

pub overflow_add-result : goal.overflow_add-result
overflow_add-result c =
    let S1 = writes_none c.args.out.now (quoted_parts c.args.raw.now) c.requires in
    let S2 = writes_byte S1 in
    let S3 = writes_next S2 (c.put_shown-n.ensures.count, c.put_shown-n.ensures.memory) in
    let g = c.well_formed in
    omega (arith, byte_sum S3)

pub shape_of-out : goal.shape_of-out
shape_of-out c =
    let S1 = writes_none c.args.out.now (quoted_parts c.args.raw.now) c.requires in
    let S2 = writes_byte S1 in
    let S3 = writes_next S2 (c.put_shown-n.ensures.count, c.put_shown-n.ensures.memory) in
    let S4 = writes_byte S3 in
    writes_long S4

pub returns : goal.returns
returns c =
    let S1 = writes_none c.args.out.now (quoted_parts c.args.raw.now) c.requires in
    let S2 = writes_byte S1 in
    let S3 = writes_next S2 (c.put_shown-n.ensures.count, c.put_shown-n.ensures.memory) in
    let S4 = writes_byte S3 in
    let p = writes_end S4 in
    record { count = p.0; memory = p.1 }
