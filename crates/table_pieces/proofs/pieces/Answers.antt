use Rattle.table_pieces.proofs.PiecesLaws.{half_room, ans_18, out_18, ans_19, out_19, ans_20, out_20, ans_0, out_0}
use Rattle.table.proofs.TableLaws.{laid_of}
use Rattle.table.proofs.LocateLaws.{truly}
use Rattle.table_pieces.proofs.pieces.Goals as goal

pub returns-then-not-well_formed : goal.returns-then-not-well_formed
returns-then-not-well_formed c = record { answer = search ans_18; memory = search out_18 }

pub returns-then-not-is_inside : goal.returns-then-not-is_inside
returns-then-not-is_inside c = record { answer = search ans_19; memory = search out_19 }

pub count_pieces-c-requires : goal.count_pieces-c-requires
count_pieces-c-requires c = (search laid_of, search truly)

pub returns-then-c-out : goal.returns-then-c-out
returns-then-c-out c = record { answer = search ans_20; memory = search out_20 }

pub write_pieces-requires : goal.write_pieces-requires
write_pieces-requires c = (search laid_of, search truly, search half_room)

pub returns : goal.returns
returns c = record { answer = search ans_0; memory = search out_0 }
