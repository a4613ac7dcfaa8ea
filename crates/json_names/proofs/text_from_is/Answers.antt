use lib.ListN.{drop_of_length-le}
use mathlib.Core.Path.{◌∙◌}
use Rattle.json_strings.proofs.DecodeLaws.{streamed_next, streamed_end}
use Rattle.json_names.proofs.SameLaws.{is_short, is_not, is_on, end_right}
use Rattle.json_names.proofs.text_from_is.Goals as goal

pub returns-in_default : goal.returns-in_default
returns-in_default c =
    is_short _ _ _ (streamed_end _ _ _ c.next_byte.ensures c.in_default.is) c.loop-w-test.true ∙ c.loop-w.invariant

pub returns-then-b-w : goal.returns-then-b-w
returns-then-b-w c =
    is_not _ _ _ _ _ (streamed_next _ _ _ c.next_byte.ensures _ _ c.in-Some.is) c.loop-w-test.true c.if-b-w.true
    ∙ c.loop-w.invariant

pub loop-w-preserved : goal.loop-w-preserved
loop-w-preserved c =
    is_on _ _ _ _ _ (streamed_next _ _ _ c.next_byte.ensures _ _ c.in-Some.is) c.loop-w-test.true c.if-b-w.false
    ∙ c.loop-w.invariant

pub returns : goal.returns
returns c =
    end_right _ _ _ c.next_byte-2.ensures _ c.is_none.ensures _ (drop_of_length-le c.args.word.now c.loop-w-test.false)
    ∙ c.loop-w.invariant
