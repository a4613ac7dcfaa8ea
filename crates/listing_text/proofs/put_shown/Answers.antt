use native.Mathlib.Omega.{arith}
use Rattle.listing_text.proofs.ShownLaws.{shown_parts, shown_on, shown_close}
use Rattle.output.proofs.Writing.{writes_none, writes_end, writes_long, next_from, next_room, next_sum, writes_next}
use Rattle.json_strings.proofs.DecodeLaws.{streamed_next, streamed_end, shorter}
use Rattle.listing_text.proofs.put_shown.Goals as goal

pub loop-b-init : goal.loop-b-init
loop-b-init c = writes_none c.args.out.now (shown_parts c.args.raw.now) c.requires

pub shape_of-out : goal.shape_of-out
shape_of-out c = writes_long c.loop-b.invariant

pub returns : goal.returns
returns c =
    let p = writes_end (shown_close _ c.loop-b.invariant (streamed_end _ _ _ c.next_byte.ensures c.in_default.is)) in
    record { count = p.0; memory = p.1 }

pub slice_bounds-put_byte-count : goal.slice_bounds-put_byte-count
slice_bounds-put_byte-count c = next_from c.loop-b.invariant

pub slice_bounds-put_byte-start : goal.slice_bounds-put_byte-start
slice_bounds-put_byte-start c = next_from c.loop-b.invariant

pub put_byte-n-requires : goal.put_byte-n-requires
put_byte-n-requires c = next_room (shown_on _ c.loop-b.invariant (streamed_next _ _ _ c.next_byte.ensures _ _ c.in-Some.is))

pub overflow_add-n : goal.overflow_add-n
overflow_add-n c =
    let g = c.well_formed in
    omega (arith, next_sum (shown_on _ c.loop-b.invariant (streamed_next _ _ _ c.next_byte.ensures _ _ c.in-Some.is)) (c.put_byte-n.ensures.count, c.put_byte-n.ensures.memory))

pub loop-b-smaller : goal.loop-b-smaller
loop-b-smaller c = shorter _ _ _ (streamed_next _ _ _ c.next_byte.ensures _ _ c.in-Some.is)

pub loop-b-preserved : goal.loop-b-preserved
loop-b-preserved c = writes_next (shown_on _ c.loop-b.invariant (streamed_next _ _ _ c.next_byte.ensures _ _ c.in-Some.is)) (c.put_byte-n.ensures.count, c.put_byte-n.ensures.memory)
