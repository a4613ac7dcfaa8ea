use Rattle.output.proofs.Writing.{writes_end, writes_byte, writes_first, writes_next}
use Rattle.listing.proofs.LineLaws.{capture_parts}
use Rattle.listing.proofs.lines.put_capture_line.Goals as goal

pub returns-clause-memory : goal.returns-clause-memory
returns-clause-memory c =
    let S1 = writes_first c.args.out.now (capture_parts c.args.x) c.requires (c.put_two-a.ensures.count, c.put_two-a.ensures.memory) in
    let S2 = writes_next S1 (c.put_two.ensures.count, c.put_two.ensures.memory) in
    let S3 = writes_byte S2 in
    (writes_end S3).1
