use Rattle.output.proofs.Writing.{writes_end, writes_first, writes_next}
use Rattle.listing.proofs.LineLaws.{annotation_parts}
use Rattle.listing.proofs.lines.put_annotation_line.Goals as goal

pub returns-clause-memory : goal.returns-clause-memory
returns-clause-memory c =
    let S1 = writes_first c.args.out.now (annotation_parts c.args.s.now c.args.x) c.requires (c.put_two-a.ensures.count, c.put_two-a.ensures.memory) in
    let S2 = writes_next S1 (c.put_last-b.ensures.count, c.put_last-b.ensures.memory) in
    (writes_end S2).1
