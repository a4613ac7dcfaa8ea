use Rattle.output.proofs.Writing.{writes_end, writes_byte, writes_first, writes_next, next_put}
use Rattle.listing.proofs.LineLaws.{recording_parts}
use Rattle.listing.proofs.lines.put_recording_line.Goals as goal

pub returns-clause-memory : goal.returns-clause-memory
returns-clause-memory c =
    let S1 = writes_first c.args.out.now (recording_parts c.args.t) c.requires (c.put_datatype-a.ensures.count, c.put_datatype-a.ensures.memory) in
    let S2 = writes_next S1 (c.put_two.ensures.count, c.put_two.ensures.memory) in
    let S3 = next_put S2 (c.put_field.ensures.count, c.put_field.ensures.memory) in
    let S4 = writes_byte S3 in
    (writes_end S4).1
