use Rattle.table_cuts.proofs.CutCode.{cut_18, caps_18, notes_18, cut_19, caps_19, notes_19, cut_up, cut_below, cut_20, caps_20, notes_20, cut_20', caps_20', notes_20', cut_0, caps_0, notes_0, captures_room, annotations_room}
use Rattle.table_cuts.proofs.cut.Goals as goal
use Rattle.table_cuts.proofs.cut.Goals.{then-c-capto-via-then-c-capto, then-c-capto-via-else-c-capto+then-d-noteto}

pub returns-then-not-well_formed : goal.returns-then-not-well_formed
returns-then-not-well_formed c = record { answer = search cut_18; captures = search caps_18; annotations = search notes_18 }

pub returns-then-not-is_inside : goal.returns-then-not-is_inside
returns-then-not-is_inside c = record { answer = search cut_19; captures = search caps_19; annotations = search notes_19 }

pub returns-then-c-capto : goal.returns-then-c-capto
returns-then-c-capto c =
    elim c.then-c-capto.branch [
      | then-c-capto-via-then-c-capto w ↦ record { answer = search cut_20; captures = search caps_20; annotations = search notes_20 }
      | then-c-capto-via-else-c-capto+then-d-noteto w ↦ record { answer = search cut_20'; captures = search caps_20'; annotations = search notes_20' }
    ]

pub write_cut-requires : goal.write_cut-requires
write_cut-requires c = record { a_le_b = (search cut_up, search cut_below); cut_fits = (search captures_room, search annotations_room) }

pub returns : goal.returns
returns c = record { answer = search cut_0; captures = search caps_0; annotations = search notes_0 }
