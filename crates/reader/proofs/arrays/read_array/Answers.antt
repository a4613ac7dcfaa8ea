use native.Mathlib.Omega.{arith}
use mathlib.Core.Path.{sym, ap, ◌∙◌}
use Rattle.reader.proofs.ArrayLaws.{walk_begin, walk_low_lem, walk_kept, walk_end, walk_read, walk_past, walk_on}
use Rattle.json_blocks.proofs.ByteLaws.{inside}
use Rattle.json_walk.specs.Members.{next_item}
use Rattle.refusals.specs.Refusals.{least}
use Rattle.reader.proofs.arrays.read_array.Goals as goal

pub overflow_add-at : goal.overflow_add-at
overflow_add-at g c = let l = inside c.args.s.now c.args.at 0x5B (sym c.requires.at_value) (omega arith) in omega arith

pub loop-out-init : goal.loop-out-init
loop-out-init g c = walk_begin g.E.Entry.kind c.args.s.now c.args.at _ _ c.skip_blanks-p.ensures c.requires.was_read c.requires.at_value

pub overflow_add-result : goal.overflow_add-result
overflow_add-result g c = let l = inside c.args.s.now c.loop-out.p 0x5D (sym c.loop-out-test.false ∙ c.peek.ensures) (omega arith) in omega arith

pub returns : goal.returns
returns g c =
    let over = sym c.peek.ensures ∙ c.loop-out-test.false in
    record { low = walk_low_lem g.E.Entry.kind c.args.s.now c.args.at _ c.loop-out.p c.loop-out.count c.loop-out.low c.loop-out.out c.loop-out.invariant over; kept = walk_kept g.E.Entry.kind c.args.s.now c.args.at _ c.loop-out.p c.loop-out.count c.loop-out.low c.loop-out.out c.loop-out.invariant over; end = walk_end g.E.Entry.kind c.args.s.now c.args.at _ c.loop-out.p c.loop-out.count c.loop-out.low c.loop-out.out c.loop-out.invariant over }

pub read_element-e-requires : goal.read_element-e-requires
read_element-e-requires g c = walk_read g.E.Entry.kind c.args.s.now _ c.loop-out.p c.loop-out.count c.loop-out.low _ c.loop-out.out c.loop-out.invariant (λ z. c.loop-out-test.true (c.peek.ensures ∙ z))

pub overflow_add-count : goal.overflow_add-count
overflow_add-count g c = let o = walk_past g.E.Entry.kind c.args.s.now _ c.loop-out.p c.loop-out.count c.loop-out.low _ c.loop-out.out c.loop-out.invariant (λ z. c.loop-out-test.true (c.peek.ensures ∙ z)) in omega (arith, c.loop-out.invariant.few)

pub loop-out-smaller : goal.loop-out-smaller
loop-out-smaller g c =
    let o = walk_past g.E.Entry.kind c.args.s.now _ c.loop-out.p c.loop-out.count c.loop-out.low _ c.loop-out.out c.loop-out.invariant (λ z. c.loop-out-test.true (c.peek.ensures ∙ z)) in
    omega (arith, (c.next_item-p.ensures ∙ ap (next_item c.args.s.now) c.read_element-e.ensures.end))

pub loop-out-preserved : goal.loop-out-preserved
loop-out-preserved g c =
    walk_on g.E.Entry.kind c.args.s.now _ c.loop-out.p c.loop-out.count c.loop-out.low _ c.loop-out.out c.loop-out.invariant (λ z. c.loop-out-test.true (c.peek.ensures ∙ z)) c.requires.s_bound
    _ (c.least-low.ensures ∙ ap (least c.loop-out.low) c.read_element-e.ensures.low)
    _ c.read_element-e.ensures.memory
    _ (c.next_item-p.ensures ∙ ap (next_item c.args.s.now) c.read_element-e.ensures.end)
