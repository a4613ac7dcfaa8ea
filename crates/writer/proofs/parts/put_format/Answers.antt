use Rattle.output.proofs.Writing.{first_put, next_put, writes_end}
use Rattle.writer.proofs.TextLaws.{format_parts}
use Rattle.writer.proofs.parts.put_format.Goals as goal

pub returns-clause-memory : goal.returns-clause-memory
returns-clause-memory c =
    let S1 = first_put c.args.out.now (format_parts c.args.t) c.requires (c.put_word-a.ensures.count, c.put_word-a.ensures.memory) in
    let S2 = next_put S1 (c.put_datatype_name.ensures.count, c.put_datatype_name.ensures.memory) in
    let S3 = next_put S2 (c.put_field-c.ensures.count, c.put_field-c.ensures.memory) in
    (writes_end S3).1
