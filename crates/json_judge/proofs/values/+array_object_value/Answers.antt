-- Each goal is a fact of one call of the three.
use native.Mathlib.Omega.{arith}
use Prim.Native.Nat.{◌-◌}
use mathlib.Core.Path.{refl, ap, ◌∙◌}
use Rattle.std.specs.Prelude.{Some}
use Rattle.json_judge.proofs.PassLaws.{array_start, array_stop, array_bad, array_close, array_less, array_again, array_told, object_start, object_nameless, object_stop, object_bad, object_close, object_less, object_again, object_told, name_far, kept_then, kept_less, kept_most, kept_few, kept_places, kept_keys, passed}
use Rattle.json_judge.proofs.values.+array_object_value.Goals as goal

pub array-loop-d-init : goal.array-loop-d-init
array-loop-d-init t c =
    array_start _ _ _ _ _ _ _ c.skip_indent-i.ensures

pub array-returns-in_err-d : goal.array-returns-in_err-d
array-returns-in_err-d t c =
    passed (c.from_residual.ensures ∙ array_told _ _ _ _ _ c.if-depth-eq0.false c.skip_indent-i.ensures c.peek.ensures _ c.if-peek-eq93.false (array_stop (c.args.depth - 1) c.args.s.now c.args.at _ c.args.used _ _ c.loop-d.places c.loop-d.keys c.loop-d.bad c.loop-d.i c.loop-d.invariant _ c.value.ensures.told c.in_err-d.was)) (kept_then c.loop-d.invariant.places_kept c.value.ensures.places_kept) (kept_then c.loop-d.invariant.keys_kept c.value.ensures.keys_kept)

pub array-loop-d-smaller : goal.array-loop-d-smaller
array-loop-d-smaller t c =
    let m = array_less (c.args.depth - 1) c.args.s.now c.args.at _ c.args.used _ _ c.loop-d.places c.loop-d.keys c.loop-d.bad c.loop-d.i c.loop-d.invariant _ c.value.ensures.told _ _ c.in_ok-d.was _ refl _ c.after_element.ensures _ (c.in_ok-e.was ∙ ap Some c.in-Item.is) in omega (arith, m.0, m.1)

pub array-loop-d-preserved : goal.array-loop-d-preserved
array-loop-d-preserved t c =
    array_again (c.args.depth - 1) c.args.s.now c.args.at _ c.args.used _ _ c.loop-d.places c.loop-d.keys c.loop-d.bad c.loop-d.i c.loop-d.invariant _ c.value.ensures.told _ _ c.in_ok-d.was _ refl _ c.after_element.ensures _ (c.in_ok-e.was ∙ ap Some c.in-Item.is) _ _ c.value.ensures.places_kept c.value.ensures.keys_kept

pub array-returns-in-Close : goal.array-returns-in-Close
array-returns-in-Close t c =
    passed (array_told _ _ _ _ _ c.if-depth-eq0.false c.skip_indent-i.ensures c.peek.ensures _ c.if-peek-eq93.false (array_close (c.args.depth - 1) c.args.s.now c.args.at _ c.args.used _ _ c.loop-d.places c.loop-d.keys c.loop-d.bad c.loop-d.i c.loop-d.invariant _ c.value.ensures.told _ _ c.in_ok-d.was _ refl _ c.after_element.ensures _ (c.in_ok-e.was ∙ ap Some c.in-Close.is))) (kept_then c.loop-d.invariant.places_kept c.value.ensures.places_kept) (kept_then c.loop-d.invariant.keys_kept c.value.ensures.keys_kept)

pub array-returns-in_err-e : goal.array-returns-in_err-e
array-returns-in_err-e t c =
    passed (c.from_residual-in_err-e.ensures ∙ array_told _ _ _ _ _ c.if-depth-eq0.false c.skip_indent-i.ensures c.peek.ensures _ c.if-peek-eq93.false (array_bad (c.args.depth - 1) c.args.s.now c.args.at _ c.args.used _ _ c.loop-d.places c.loop-d.keys c.loop-d.bad c.loop-d.i c.loop-d.invariant _ c.value.ensures.told _ _ c.in_ok-d.was _ refl _ c.after_element.ensures c.in_err-e.was)) (kept_then c.loop-d.invariant.places_kept c.value.ensures.places_kept) (kept_then c.loop-d.invariant.keys_kept c.value.ensures.keys_kept)

pub object-loop-v-init : goal.object-loop-v-init
object-loop-v-init t c =
    object_start _ _ _ _ _ _ _ c.skip_indent-i.ensures

pub object-returns-in_err-v : goal.object-returns-in_err-v
object-returns-in_err-v t c =
    passed (c.from_residual.ensures ∙ object_told _ _ _ _ _ c.if-depth-eq0.false c.skip_indent-i.ensures c.peek.ensures _ c.if-peek-eq125.false (object_nameless (c.args.depth - 1) c.args.s.now c.args.at _ c.args.used _ _ c.loop-v.places c.loop-v.keys c.loop-v.names.bad c.loop-v.names.count c.loop-v.i c.loop-v.invariant _ c.name_key.ensures c.in_err-v.was)) c.loop-v.invariant.places_kept c.loop-v.invariant.keys_kept

pub object-overflow_add-i : goal.object-overflow_add-i
object-overflow_add-i t c =
    omega (arith, (name_far c.args.s.now c.loop-v.i _ c.name_key.ensures _ _ c.in_ok-v.was).0)

pub object-overflow_add-used : goal.object-overflow_add-used
object-overflow_add-used t c =
    let g = c.well_formed in omega (arith, c.requires.names_room, c.loop-v.invariant.places_kept.long, (kept_places _ _ _ _ _ _ c.keep_name-names.ensures).long, kept_most _ _ _ _ _ _ c.keep_name-names.ensures, kept_few _ _ _ _ _ _ c.keep_name-names.ensures c.loop-v.invariant.few, (name_far c.args.s.now c.loop-v.i _ c.name_key.ensures _ _ c.in_ok-v.was).0, (name_far c.args.s.now c.loop-v.i _ c.name_key.ensures _ _ c.in_ok-v.was).1, c.loop-v.invariant.forward, c.if-depth-eq0.false)

pub object-value-requires : goal.object-value-requires
object-value-requires t c =
    (omega (arith, c.requires.names_room, kept_most _ _ _ _ _ _ c.keep_name-names.ensures, kept_few _ _ _ _ _ _ c.keep_name-names.ensures c.loop-v.invariant.few, (name_far c.args.s.now c.loop-v.i _ c.name_key.ensures _ _ c.in_ok-v.was).0, (name_far c.args.s.now c.loop-v.i _ c.name_key.ensures _ _ c.in_ok-v.was).1, c.loop-v.invariant.forward, c.if-depth-eq0.false), (omega (arith, c.requires.names_room, c.loop-v.invariant.places_kept.long, (kept_places _ _ _ _ _ _ c.keep_name-names.ensures).long, kept_most _ _ _ _ _ _ c.keep_name-names.ensures, kept_few _ _ _ _ _ _ c.keep_name-names.ensures c.loop-v.invariant.few, (name_far c.args.s.now c.loop-v.i _ c.name_key.ensures _ _ c.in_ok-v.was).0, (name_far c.args.s.now c.loop-v.i _ c.name_key.ensures _ _ c.in_ok-v.was).1, c.loop-v.invariant.forward, c.if-depth-eq0.false), omega (arith, c.requires.names_room_2, c.loop-v.invariant.keys_kept.long, (kept_keys _ _ _ _ _ _ c.keep_name-names.ensures).long, kept_most _ _ _ _ _ _ c.keep_name-names.ensures, kept_few _ _ _ _ _ _ c.keep_name-names.ensures c.loop-v.invariant.few, (name_far c.args.s.now c.loop-v.i _ c.name_key.ensures _ _ c.in_ok-v.was).0, (name_far c.args.s.now c.loop-v.i _ c.name_key.ensures _ _ c.in_ok-v.was).1, c.loop-v.invariant.forward, c.if-depth-eq0.false)))

pub object-returns-in_err-d : goal.object-returns-in_err-d
object-returns-in_err-d t c =
    passed (c.from_residual-in_err-d.ensures ∙ object_told _ _ _ _ _ c.if-depth-eq0.false c.skip_indent-i.ensures c.peek.ensures _ c.if-peek-eq125.false (object_stop (c.args.depth - 1) c.args.s.now c.args.at _ c.args.used _ _ c.loop-v.places c.loop-v.keys c.loop-v.names.bad c.loop-v.names.count c.loop-v.i c.loop-v.invariant _ c.name_key.ensures _ _ c.in_ok-v.was _ _ _ c.keep_name-names.ensures (λ h. omega (arith, c.if-depth-eq0.false, c.loop-v.invariant.forward, c.requires.names_room, c.loop-v.invariant.places_kept.long, (name_far c.args.s.now c.loop-v.i _ c.name_key.ensures _ _ c.in_ok-v.was).0)) (λ h. omega (arith, c.if-depth-eq0.false, c.loop-v.invariant.forward, c.requires.names_room_2, c.loop-v.invariant.keys_kept.long, (name_far c.args.s.now c.loop-v.i _ c.name_key.ensures _ _ c.in_ok-v.was).0)) _ c.value.ensures.told c.in_err-d.was)) (kept_then c.loop-v.invariant.places_kept (kept_then (kept_places _ _ _ _ _ _ c.keep_name-names.ensures) (kept_less (omega arith) c.value.ensures.places_kept))) (kept_then c.loop-v.invariant.keys_kept (kept_then (kept_keys _ _ _ _ _ _ c.keep_name-names.ensures) (kept_less (omega arith) c.value.ensures.keys_kept)))

pub object-loop-v-smaller : goal.object-loop-v-smaller
object-loop-v-smaller t c =
    let m = object_less (c.args.depth - 1) c.args.s.now c.args.at _ c.args.used _ _ c.loop-v.places c.loop-v.keys c.loop-v.names.bad c.loop-v.names.count c.loop-v.i c.loop-v.invariant _ c.name_key.ensures _ _ c.in_ok-v.was _ _ _ c.keep_name-names.ensures (λ h. omega (arith, c.if-depth-eq0.false, c.loop-v.invariant.forward, c.requires.names_room, c.loop-v.invariant.places_kept.long, (name_far c.args.s.now c.loop-v.i _ c.name_key.ensures _ _ c.in_ok-v.was).0)) (λ h. omega (arith, c.if-depth-eq0.false, c.loop-v.invariant.forward, c.requires.names_room_2, c.loop-v.invariant.keys_kept.long, (name_far c.args.s.now c.loop-v.i _ c.name_key.ensures _ _ c.in_ok-v.was).0)) _ c.value.ensures.told _ _ c.in_ok-d.was _ refl _ c.after_member.ensures _ c.value.ensures.places_kept _ (c.in_ok-e.was ∙ ap Some c.in-Item.is) in omega (arith, m.0, m.1)

pub object-loop-v-preserved : goal.object-loop-v-preserved
object-loop-v-preserved t c =
    object_again (c.args.depth - 1) c.args.s.now c.args.at _ c.args.used _ _ c.loop-v.places c.loop-v.keys c.loop-v.names.bad c.loop-v.names.count c.loop-v.i c.loop-v.invariant _ c.name_key.ensures _ _ c.in_ok-v.was _ _ _ c.keep_name-names.ensures (λ h. omega (arith, c.if-depth-eq0.false, c.loop-v.invariant.forward, c.requires.names_room, c.loop-v.invariant.places_kept.long, (name_far c.args.s.now c.loop-v.i _ c.name_key.ensures _ _ c.in_ok-v.was).0)) (λ h. omega (arith, c.if-depth-eq0.false, c.loop-v.invariant.forward, c.requires.names_room_2, c.loop-v.invariant.keys_kept.long, (name_far c.args.s.now c.loop-v.i _ c.name_key.ensures _ _ c.in_ok-v.was).0)) _ c.value.ensures.told _ _ c.in_ok-d.was _ refl _ c.after_member.ensures _ c.value.ensures.places_kept _ (c.in_ok-e.was ∙ ap Some c.in-Item.is) _ c.value.ensures.keys_kept

pub object-returns-in-Close : goal.object-returns-in-Close
object-returns-in-Close t c =
    passed (object_told _ _ _ _ _ c.if-depth-eq0.false c.skip_indent-i.ensures c.peek.ensures _ c.if-peek-eq125.false (object_close (c.args.depth - 1) c.args.s.now c.args.at _ c.args.used _ _ c.loop-v.places c.loop-v.keys c.loop-v.names.bad c.loop-v.names.count c.loop-v.i c.loop-v.invariant _ c.name_key.ensures _ _ c.in_ok-v.was _ _ _ c.keep_name-names.ensures (λ h. omega (arith, c.if-depth-eq0.false, c.loop-v.invariant.forward, c.requires.names_room, c.loop-v.invariant.places_kept.long, (name_far c.args.s.now c.loop-v.i _ c.name_key.ensures _ _ c.in_ok-v.was).0)) (λ h. omega (arith, c.if-depth-eq0.false, c.loop-v.invariant.forward, c.requires.names_room_2, c.loop-v.invariant.keys_kept.long, (name_far c.args.s.now c.loop-v.i _ c.name_key.ensures _ _ c.in_ok-v.was).0)) _ c.value.ensures.told _ _ c.in_ok-d.was _ refl _ c.after_member.ensures _ c.value.ensures.places_kept _ (c.in_ok-e.was ∙ ap Some c.in-Close.is))) (kept_then c.loop-v.invariant.places_kept (kept_then (kept_places _ _ _ _ _ _ c.keep_name-names.ensures) (kept_less (omega arith) c.value.ensures.places_kept))) (kept_then c.loop-v.invariant.keys_kept (kept_then (kept_keys _ _ _ _ _ _ c.keep_name-names.ensures) (kept_less (omega arith) c.value.ensures.keys_kept)))

pub object-returns-in_err-e : goal.object-returns-in_err-e
object-returns-in_err-e t c =
    passed (c.from_residual-in_err-e.ensures ∙ object_told _ _ _ _ _ c.if-depth-eq0.false c.skip_indent-i.ensures c.peek.ensures _ c.if-peek-eq125.false (object_bad (c.args.depth - 1) c.args.s.now c.args.at _ c.args.used _ _ c.loop-v.places c.loop-v.keys c.loop-v.names.bad c.loop-v.names.count c.loop-v.i c.loop-v.invariant _ c.name_key.ensures _ _ c.in_ok-v.was _ _ _ c.keep_name-names.ensures (λ h. omega (arith, c.if-depth-eq0.false, c.loop-v.invariant.forward, c.requires.names_room, c.loop-v.invariant.places_kept.long, (name_far c.args.s.now c.loop-v.i _ c.name_key.ensures _ _ c.in_ok-v.was).0)) (λ h. omega (arith, c.if-depth-eq0.false, c.loop-v.invariant.forward, c.requires.names_room_2, c.loop-v.invariant.keys_kept.long, (name_far c.args.s.now c.loop-v.i _ c.name_key.ensures _ _ c.in_ok-v.was).0)) _ c.value.ensures.told _ _ c.in_ok-d.was _ refl _ c.after_member.ensures c.in_err-e.was)) (kept_then c.loop-v.invariant.places_kept (kept_then (kept_places _ _ _ _ _ _ c.keep_name-names.ensures) (kept_less (omega arith) c.value.ensures.places_kept))) (kept_then c.loop-v.invariant.keys_kept (kept_then (kept_keys _ _ _ _ _ _ c.keep_name-names.ensures) (kept_less (omega arith) c.value.ensures.keys_kept)))

pub object-keep_name-names-requires-clause-count_in_bounds : goal.object-keep_name-names-requires-clause-count_in_bounds
object-keep_name-names-requires-clause-count_in_bounds t c =
    λ h. omega (arith, c.if-depth-eq0.false, c.loop-v.invariant.forward, c.requires.names_room, c.loop-v.invariant.places_kept.long, (name_far c.args.s.now c.loop-v.i _ c.name_key.ensures _ _ c.in_ok-v.was).0)

pub object-keep_name-names-requires-clause-count_in_bounds_2 : goal.object-keep_name-names-requires-clause-count_in_bounds_2
object-keep_name-names-requires-clause-count_in_bounds_2 t c =
    λ h. omega (arith, c.if-depth-eq0.false, c.loop-v.invariant.forward, c.requires.names_room_2, c.loop-v.invariant.keys_kept.long, (name_far c.args.s.now c.loop-v.i _ c.name_key.ensures _ _ c.in_ok-v.was).0)
