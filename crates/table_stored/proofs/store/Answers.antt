use Rattle.table_stored.proofs.StoreLaws.{store_18, store_20, store_counts, store_room, store_0}
use Rattle.table_stored.proofs.store.Goals as goal

pub put_table-n-requires : goal.put_table-n-requires
put_table-n-requires c = record { notes_value = store_counts c.args.t c.args.caps.now c.args.notes.now c.args.out.now _ c.well_formed-2.ensures c.if-not-well_formed.false _ c.has_room.ensures c.if-not-has_room.false; notes_in_bounds = store_room c.args.t c.args.caps.now c.args.notes.now c.args.out.now _ c.well_formed-2.ensures c.if-not-well_formed.false _ c.has_room.ensures c.if-not-has_room.false }

pub returns : goal.returns
returns c =
    let p = store_0 c.args.t c.args.caps.now c.args.notes.now c.args.out.now _ c.well_formed-2.ensures c.if-not-well_formed.false _ c.has_room.ensures c.if-not-has_room.false _ _ (c.put_table-n.ensures.count, c.put_table-n.ensures.memory) in
    record { answer = p.0; memory = p.1 }

pub returns-then-not-has_room : goal.returns-then-not-has_room
returns-then-not-has_room c =
    let p = store_20 c.args.t c.args.caps.now c.args.notes.now c.args.out.now _ c.well_formed-2.ensures c.if-not-well_formed.false _ c.has_room.ensures c.if-not-has_room.true in
    record { answer = p.0; memory = p.1 }

pub returns-then-not-well_formed : goal.returns-then-not-well_formed
returns-then-not-well_formed c =
    let p = store_18 c.args.t c.args.caps.now c.args.notes.now c.args.out.now _ c.well_formed-2.ensures c.if-not-well_formed.true in
    record { answer = p.0; memory = p.1 }
