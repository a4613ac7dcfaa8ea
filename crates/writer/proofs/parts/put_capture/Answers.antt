use Rattle.output.proofs.Writing.{byte_inside, next_put, writes_byte, writes_end, writes_first}
use Rattle.writer.proofs.TextLaws.{item_parts, capture_parts}
use Rattle.writer.proofs.parts.put_capture.Goals as goal

pub bounds-out-c : goal.bounds-out-c
bounds-out-c c =
    let S1 = writes_first c.args.out.now (item_parts c.args.k (capture_parts c.args.x)) c.requires (c.put_comma-a.ensures.count, c.put_comma-a.ensures.memory) in
    let S2 = next_put S1 (c.put_field.ensures.count, c.put_field.ensures.memory) in
    let S3 = next_put S2 (c.put_field-2.ensures.count, c.put_field-2.ensures.memory) in
    byte_inside S3

pub returns : goal.returns
returns c =
    let S1 = writes_first c.args.out.now (item_parts c.args.k (capture_parts c.args.x)) c.requires (c.put_comma-a.ensures.count, c.put_comma-a.ensures.memory) in
    let S2 = next_put S1 (c.put_field.ensures.count, c.put_field.ensures.memory) in
    let S3 = next_put S2 (c.put_field-2.ensures.count, c.put_field-2.ensures.memory) in
    let S4 = writes_byte S3 in
    let p = writes_end S4 in
    record { count = p.0; memory = p.1 }
