use Rattle.reader_layout.proofs.WriteLaws.{notes_end, note_inside, note_on}
use Rattle.reader_layout.proofs.write_annotations.Goals as goal

pub note_end-requires : goal.note_end-requires
note_end-requires c = search note_inside

pub loop-i-preserved : goal.loop-i-preserved
loop-i-preserved c = search note_on

pub returns : goal.returns
returns c = search notes_end
