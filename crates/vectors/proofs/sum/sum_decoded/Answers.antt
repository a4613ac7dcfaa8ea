use Rattle.json_strings.proofs.DecodeLaws.{shorter, streamed_next}
use Rattle.vectors.proofs.sum.sum_decoded.Goals as goal

pub loop-b-smaller : goal.loop-b-smaller
loop-b-smaller c = shorter _ _ _ (streamed_next _ _ _ c.next_byte.ensures _ _ c.in-Some.is)
