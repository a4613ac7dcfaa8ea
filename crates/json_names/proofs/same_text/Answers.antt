use mathlib.Core.Path.{◌∙◌}
use Rattle.json_strings.proofs.DecodeLaws.{streamed_next, streamed_end, shorter}
use Rattle.json_names.proofs.SameLaws.{both_end, left_end, right_end, both_not, both_on}
use Rattle.json_names.proofs.same_text.Goals as goal

pub loop-x-smaller : goal.loop-x-smaller
loop-x-smaller c = shorter _ _ _ (streamed_next _ _ _ c.next_byte.ensures _ _ c.in-Some-Some.is-0)

pub loop-x-preserved : goal.loop-x-preserved
loop-x-preserved c =
    both_on _ _ _ _ (streamed_next _ _ _ c.next_byte.ensures _ _ c.in-Some-Some.is-0)
    _ _ (streamed_next _ _ _ c.next_byte-in-loop-x.ensures _ _ c.in-Some-Some.is-1) c.if-x-y.true ∙ c.loop-x.invariant

pub returns-in-None-None : goal.returns-in-None-None
returns-in-None-None c =
    both_end _ _ (streamed_end _ _ _ c.next_byte.ensures c.in-None-None.is-0)
    (streamed_end _ _ _ c.next_byte-in-loop-x.ensures c.in-None-None.is-1) ∙ c.loop-x.invariant

pub returns-in_default : goal.returns-in_default
returns-in_default c =
    both_not _ _ _ _ (streamed_next _ _ _ c.next_byte.ensures _ _ c.in-Some-Some.is-0)
    _ _ (streamed_next _ _ _ c.next_byte-in-loop-x.ensures _ _ c.in-Some-Some.is-1) c.if-x-y.false ∙ c.loop-x.invariant

pub returns-in_default-2 : goal.returns-in_default-2
returns-in_default-2 c =
    right_end _ _ _ _ (streamed_next _ _ _ c.next_byte.ensures _ _ c.in_default.is-0)
    (streamed_end _ _ _ c.next_byte-in-loop-x.ensures c.in_default.is-1) ∙ c.loop-x.invariant

pub returns-in_default-3 : goal.returns-in_default-3
returns-in_default-3 c =
    left_end _ _ _ _ (streamed_end _ _ _ c.next_byte.ensures c.in_default.is-0)
    (streamed_next _ _ _ c.next_byte-in-loop-x.ensures _ _ c.in_default.is-1) ∙ c.loop-x.invariant
