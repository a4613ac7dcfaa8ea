use Rattle.json_strings.proofs.DecodeLaws.{streamed_next}
use Rattle.sigmf_texts.proofs.form.begins_part.Goals as goal

pub returns : goal.returns
returns c = rw (streamed_next _ _ _ c.next_byte.ensures _ _ c.in-Some.is, ← c.is_within.ensures)
