use borrow.Author.Tests.{eq-eqb, ne_eqb}
use Rattle.json_strings.proofs.DecodeLaws.{stream_start, streamed_next, streamed_end}
use Rattle.sigmf_texts.specs.Form.{namespace_of}
use Rattle.sigmf_texts.proofs.form.begins_space.Goals as goal

pub returns-in_default : goal.returns-in_default
unfolding namespace_of
returns-in_default c = rw (← stream_start c.args.raw.now 0, streamed_end _ _ _ c.next_byte.ensures c.in_default.is)

pub returns-then-b-ne58 : goal.returns-then-b-ne58
unfolding namespace_of
returns-then-b-ne58 c = rw (← stream_start c.args.raw.now 0, streamed_next _ _ _ c.next_byte.ensures _ _ c.in-Some.is, ne_eqb _ _ c.if-b-ne58.true, ← c.is_within.ensures)

pub returns-else-b-ne58 : goal.returns-else-b-ne58
unfolding namespace_of
returns-else-b-ne58 c = rw (← stream_start c.args.raw.now 0, streamed_next _ _ _ c.next_byte.ensures _ _ c.in-Some.is, eq-eqb _ _ c.if-b-ne58.false)
