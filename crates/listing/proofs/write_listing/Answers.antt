use Rattle.output.proofs.Writing.{writes_end, writes_first, writes_next}
use Rattle.listing.proofs.ListingLaws.{listing_parts}
use Rattle.listing.proofs.write_listing.Goals as goal

pub returns-clause-memory : goal.returns-clause-memory
returns-clause-memory c =
    let S1 = writes_first c.args.out.now (listing_parts c.args.t c.args.caps.now c.args.notes.now c.args.s.now) c.requires (c.put_recording_line-a.ensures.count, c.put_recording_line-a.ensures.memory) in
    let S2 = writes_next S1 (c.write_captures-c.ensures.count, c.write_captures-c.ensures.memory) in
    let S3 = writes_next S2 (c.write_annotations-d.ensures.count, c.write_annotations-d.ensures.memory) in
    (writes_end S3).1
