use native.Mathlib.Omega.{arith}
use mathlib.Core.Path.{refl, sym, ap, ◌∙◌}
use Rattle.sigmf_objects.proofs.WalkLaws.{core_most, walk_begin, walk_on, walk_low_lem, walk_close, walk_noted, walk_measured, step_past, number_inside, size_inside, number_is, close_past, low_past, noted_past, measured_past, within_clear}
use Rattle.sigmf_names.specs.declared.NameLookup.{NameLookup}
use Rattle.sigmf_names.specs.Names.{core_of}
use Rattle.refusals.specs.Refusals.{least}
use Rattle.sigmf_objects.proofs.walk.find_fields.Goals as goal

pub overflow_sub-known : goal.overflow_sub-known
overflow_sub-known c = omega (arith, c.requires.places_len)

pub returns-then-s-at : goal.returns-then-s-at
returns-then-s-at c = record { low = low_past c.args.s.now c.args.at c.if-s-at.true (core_of c.args.kind); close = close_past c.args.s.now c.args.at c.if-s-at.true; noted = noted_past c.args.s.now c.args.at c.if-s-at.true (core_of c.args.kind) _ c.requires.clear; measured = measured_past c.args.s.now c.args.at c.if-s-at.true (core_of c.args.kind) _ c.requires.clear_2; inside = within_clear c.args.s.now _ c.requires.clear; places = refl; sizes = refl }

pub loop-m-init : goal.loop-m-init
loop-m-init c = walk_begin c.args.s.now (core_of c.args.kind) _ _ _ c.requires.clear c.requires.clear_2 c.requires.places_len c.requires.sizes_len

pub returns : goal.returns
returns c = record { low = walk_low_lem c.args.s.now (core_of c.args.kind) _ c.loop-m.j c.loop-m.low c.loop-m.places c.loop-m.sizes c.loop-m.invariant (sym c.next_member.ensures ∙ c.in_default.is) c.args.at c.if-s-at.false c.skip_indent-j.ensures; close = walk_close c.args.s.now (core_of c.args.kind) _ c.loop-m.j c.loop-m.low c.loop-m.places c.loop-m.sizes c.loop-m.invariant (sym c.next_member.ensures ∙ c.in_default.is) c.args.at c.if-s-at.false c.skip_indent-j.ensures; noted = walk_noted c.args.s.now (core_of c.args.kind) _ c.loop-m.j c.loop-m.low c.loop-m.places c.loop-m.sizes c.loop-m.invariant (sym c.next_member.ensures ∙ c.in_default.is) c.args.at c.if-s-at.false c.skip_indent-j.ensures; measured = walk_measured c.args.s.now (core_of c.args.kind) _ c.loop-m.j c.loop-m.low c.loop-m.places c.loop-m.sizes c.loop-m.invariant (sym c.next_member.ensures ∙ c.in_default.is) c.args.at c.if-s-at.false c.skip_indent-j.ensures; inside = c.loop-m.invariant.within; places = c.loop-m.invariant.slots ∙ sym c.requires.places_len; sizes = c.loop-m.invariant.size_slots ∙ sym c.requires.sizes_len }

pub member_sized-sized-requires : goal.member_sized-sized-requires
member_sized-sized-requires c = record { i_value = number_is c.args.s.now (core_of c.args.kind) _ c.loop-m.j c.loop-m.low c.loop-m.places c.loop-m.sizes c.loop-m.invariant _ _ (sym c.next_member.ensures ∙ c.in-Some.is) _ _ c.part_of.ensures.part (ap (λ (r : NameLookup). r.number) c.look_up-i.ensures); known_value = omega (arith, c.requires.places_len) }

pub offset_bounds-places-i : goal.offset_bounds-places-i
offset_bounds-places-i c = omega (arith, c.loop-m.invariant.slots, core_most c.args.kind, number_inside c.args.s.now (core_of c.args.kind) _ c.loop-m.j c.loop-m.low c.loop-m.places c.loop-m.sizes c.loop-m.invariant _ _ (sym c.next_member.ensures ∙ c.in-Some.is) _ _ c.part_of.ensures.part (ap (λ (r : NameLookup). r.number) c.look_up-i.ensures))

pub bounds-places-i : goal.bounds-places-i
bounds-places-i c = number_inside c.args.s.now (core_of c.args.kind) _ c.loop-m.j c.loop-m.low c.loop-m.places c.loop-m.sizes c.loop-m.invariant _ _ (sym c.next_member.ensures ∙ c.in-Some.is) _ _ c.part_of.ensures.part (ap (λ (r : NameLookup). r.number) c.look_up-i.ensures)

pub offset_bounds-sizes-i : goal.offset_bounds-sizes-i
offset_bounds-sizes-i c = omega (arith, c.loop-m.invariant.size_slots, core_most c.args.kind, size_inside c.args.s.now (core_of c.args.kind) _ c.loop-m.j c.loop-m.low c.loop-m.places c.loop-m.sizes c.loop-m.invariant _ _ (sym c.next_member.ensures ∙ c.in-Some.is) _ _ c.part_of.ensures.part (ap (λ (r : NameLookup). r.number) c.look_up-i.ensures))

pub bounds-sizes-i : goal.bounds-sizes-i
bounds-sizes-i c = size_inside c.args.s.now (core_of c.args.kind) _ c.loop-m.j c.loop-m.low c.loop-m.places c.loop-m.sizes c.loop-m.invariant _ _ (sym c.next_member.ensures ∙ c.in-Some.is) _ _ c.part_of.ensures.part (ap (λ (r : NameLookup). r.number) c.look_up-i.ensures)

pub loop-m-smaller : goal.loop-m-smaller
loop-m-smaller c = let o = step_past c.args.s.now (core_of c.args.kind) _ c.loop-m.j c.loop-m.low c.loop-m.places c.loop-m.sizes c.loop-m.invariant _ _ (sym c.next_member.ensures ∙ c.in-Some.is) in omega arith

pub loop-m-preserved : goal.loop-m-preserved
loop-m-preserved c = walk_on c.args.s.now (core_of c.args.kind) _ c.loop-m.j c.loop-m.low c.loop-m.places c.loop-m.sizes c.loop-m.invariant _ _ (sym c.next_member.ensures ∙ c.in-Some.is) _ _ _ (number_is c.args.s.now (core_of c.args.kind) _ c.loop-m.j c.loop-m.low c.loop-m.places c.loop-m.sizes c.loop-m.invariant _ _ (sym c.next_member.ensures ∙ c.in-Some.is) _ _ c.part_of.ensures.part (ap (λ (r : NameLookup). r.number) c.look_up-i.ensures)) (c.least-low.ensures ∙ ap (least c.loop-m.low) c.member_sized-sized.ensures.low) (λ h. c.member_sized-sized.ensures.size (omega (arith, h, c.requires.places_len)))
