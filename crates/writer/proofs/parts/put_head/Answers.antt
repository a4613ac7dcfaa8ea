use Rattle.output.proofs.Writing.{byte_inside, next_put, next_room, writes_byte, writes_end, writes_first, writes_next}
use Rattle.writer.proofs.TextLaws.{head_in_parts}
use Rattle.writer.proofs.parts.put_head.Goals as goal

pub put_raw-requires : goal.put_raw-requires
put_raw-requires c =
    let S1 = writes_first c.args.out.now (head_in_parts c.args.s.now c.args.t) c.requires (c.put_format-a.ensures.count, c.put_format-a.ensures.memory) in
    let S2 = next_put S1 (c.put_field.ensures.count, c.put_field.ensures.memory) in
    let S3 = next_put S2 (c.put_field-2.ensures.count, c.put_field-2.ensures.memory) in
    next_room S3

pub bounds-out-d : goal.bounds-out-d
bounds-out-d c =
    let S1 = writes_first c.args.out.now (head_in_parts c.args.s.now c.args.t) c.requires (c.put_format-a.ensures.count, c.put_format-a.ensures.memory) in
    let S2 = next_put S1 (c.put_field.ensures.count, c.put_field.ensures.memory) in
    let S3 = next_put S2 (c.put_field-2.ensures.count, c.put_field-2.ensures.memory) in
    let S4 = writes_next S3 (c.put_raw.ensures.count, c.put_raw.ensures.memory) in
    byte_inside S4

pub returns : goal.returns
returns c =
    let S1 = writes_first c.args.out.now (head_in_parts c.args.s.now c.args.t) c.requires (c.put_format-a.ensures.count, c.put_format-a.ensures.memory) in
    let S2 = next_put S1 (c.put_field.ensures.count, c.put_field.ensures.memory) in
    let S3 = next_put S2 (c.put_field-2.ensures.count, c.put_field-2.ensures.memory) in
    let S4 = writes_next S3 (c.put_raw.ensures.count, c.put_raw.ensures.memory) in
    let S5 = writes_byte S4 in
    let p = writes_end S5 in
    record { count = p.0; memory = p.1 }
