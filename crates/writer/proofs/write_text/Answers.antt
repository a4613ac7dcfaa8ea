use Rattle.output.proofs.Writing.{next_put, next_room, writes_end, writes_first, writes_next}
use Rattle.writer.proofs.TextLaws.{metadata_parts}
use Rattle.writer.proofs.write_text.Goals as goal

pub write_annotations-requires : goal.write_annotations-requires
write_annotations-requires c =
    let S1 = writes_first c.args.out.now (metadata_parts c.args.t c.args.caps.now c.args.notes.now c.args.s.now) c.requires (c.put_head-a.ensures.count, c.put_head-a.ensures.memory) in
    let S2 = next_put S1 (c.put_word.ensures.count, c.put_word.ensures.memory) in
    let S3 = writes_next S2 (c.write_captures.ensures.count, c.write_captures.ensures.memory) in
    let S4 = next_put S3 (c.put_word-2.ensures.count, c.put_word-2.ensures.memory) in
    next_room S4

pub returns : goal.returns
returns c =
    let S1 = writes_first c.args.out.now (metadata_parts c.args.t c.args.caps.now c.args.notes.now c.args.s.now) c.requires (c.put_head-a.ensures.count, c.put_head-a.ensures.memory) in
    let S2 = next_put S1 (c.put_word.ensures.count, c.put_word.ensures.memory) in
    let S3 = writes_next S2 (c.write_captures.ensures.count, c.write_captures.ensures.memory) in
    let S4 = next_put S3 (c.put_word-2.ensures.count, c.put_word-2.ensures.memory) in
    let S5 = writes_next S4 (c.write_annotations.ensures.count, c.write_annotations.ensures.memory) in
    let S6 = next_put S5 (c.put_word-f.ensures.count, c.put_word-f.ensures.memory) in
    let p = writes_end S6 in
    record { count = p.0; memory = p.1 }
