use Rattle.json_blocks.specs.Lists.{all}
use Rattle.json_strings.proofs.DecodeLaws.{streamed_next}
use Rattle.sigmf_texts.proofs.form.has_name_bytes.Goals as goal

pub returns-then-not-is_name_byte : goal.returns-then-not-is_name_byte
unfolding all
returns-then-not-is_name_byte c = rw (← c.loop-b.invariant, streamed_next _ _ _ c.next_byte.ensures _ _ c.in-Some.is, ← c.is_name_byte.ensures, c.if-not-is_name_byte.true)
