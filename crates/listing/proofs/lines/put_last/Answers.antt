use Rattle.output.proofs.Writing.{writes_none, writes_end, writes_byte, next_put}
use Rattle.listing.proofs.LineLaws.{last_parts}
use Rattle.listing.proofs.lines.put_last.Goals as goal

pub returns-clause-memory : goal.returns-clause-memory
returns-clause-memory c =
    let S0 = writes_none c.args.out.now (last_parts c.args.s.now c.args.p) c.requires in
    let S1 = writes_byte S0 in
    let S2 = next_put S1 (c.put_text-n.ensures.count, c.put_text-n.ensures.memory) in
    let S3 = writes_byte S2 in
    (writes_end S3).1
