use native.Mathlib.Omega.{arith}
use Rattle.std.proofs.lemmas.Bool.Decides.{nat_tests}
use Rattle.json_strings.proofs.DecodeLaws.{streamed_next, shorter}
use Rattle.output.specs.Left.{left_after}
use Rattle.listing_text.proofs.ShownLaws.{shown_more, shown_none}
use Rattle.listing_text.proofs.quoted_left.Goals as goal

pub loop-b-smaller : goal.loop-b-smaller
loop-b-smaller c = shorter _ _ _ (streamed_next _ _ _ c.next_byte.ensures _ _ c.in-Some.is)

pub returns-in_err-left-2 : goal.returns-in_err-left-2
unfolding left_after
returns-in_err-left-2 c =
    let e = shown_more _ _ _ c.next_byte.ensures _ _ c.in-Some.is in
    grind (arith, nat_tests)

pub loop-b-preserved : goal.loop-b-preserved
unfolding left_after
loop-b-preserved c =
    let e = shown_more _ _ _ c.next_byte.ensures _ _ c.in-Some.is in
    grind (arith, nat_tests)

pub returns : goal.returns
unfolding left_after
returns c =
    let e = shown_none _ _ _ c.next_byte.ensures c.in_default.is in
    grind (arith, nat_tests)
