use borrow.Author.Tests.{ne_eqb}
use Rattle.json_strings.proofs.DecodeLaws.{streamed_next}
use Rattle.sigmf_texts.specs.FormCode.{past_space}
use Rattle.sigmf_texts.proofs.form.past_space.Goals as goal

pub returns-then-not-is_space_byte : goal.returns-then-not-is_space_byte
unfolding past_space
returns-then-not-is_space_byte c = rw (← c.loop-b.invariant, streamed_next _ _ _ c.next_byte.ensures _ _ c.in_ok-b.was, ne_eqb _ _ c.if-b-eq58.false, ← c.is_space_byte.ensures, c.if-not-is_space_byte.true)
