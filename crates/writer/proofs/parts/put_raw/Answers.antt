use mathlib.Core.Path.{sym, ◌∙◌}
use Rattle.output.proofs.Writing.{first_put, next_put, writes_end}
use Rattle.writer.proofs.TextLaws.{raw_parts}
use Rattle.writer.proofs.parts.put_raw.Goals as goal

pub returns-clause-memory : goal.returns-clause-memory
returns-clause-memory c =
    let S1 = first_put c.args.out.now (raw_parts c.args.before.now c.args.s.now c.args.p c.args.after.now (sym c.is_absent.ensures ∙ c.if-is_absent.false) _ c.text_part-raw.ensures.part) c.requires (c.put_word-a.ensures.count, c.put_word-a.ensures.memory) in
    let S2 = next_put S1 (c.put_word.ensures.count, c.put_word.ensures.memory) in
    let S3 = next_put S2 (c.put_word-c.ensures.count, c.put_word-c.ensures.memory) in
    (writes_end S3).1
