use Rattle.reader_layout.proofs.JudgeLaws.{same_answer, same_rows, same_anns, lay_ends, lay_below, lay_captures, lay_notes, rows_room, anns_room, lay_20, lay_rows_20, lay_anns_20, lay_20', lay_rows_20', lay_anns_20', lay_0, lay_rows_0, lay_anns_0}
use Rattle.reader_layout.proofs.lay.Goals as goal

pub returns-then-t-ne0 : goal.returns-then-t-ne0
returns-then-t-ne0 c = record { answer = search same_answer; captures = search same_rows; annotations = search same_anns }

pub returns-then-n-rows : goal.returns-then-n-rows
returns-then-n-rows c = record { answer = search lay_20; captures = search lay_rows_20; annotations = search lay_anns_20 }

pub returns-then-m-anns : goal.returns-then-m-anns
returns-then-m-anns c = record { answer = search lay_20'; captures = search lay_rows_20'; annotations = search lay_anns_20' }

pub write_captures-requires : goal.write_captures-requires
write_captures-requires c = (search lay_ends, search lay_below, search lay_captures, search rows_room)

pub write_annotations-requires : goal.write_annotations-requires
write_annotations-requires c = (search lay_ends, search lay_notes, search anns_room)

pub returns : goal.returns
returns c = record { answer = search lay_0; captures = search lay_rows_0; annotations = search lay_anns_0 }
