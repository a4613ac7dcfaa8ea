use native.Mathlib.Omega.{arith}
use mathlib.Core.Path.{sym, ◌∙◌}
use Rattle.sigmf_names.proofs.DecodedLaws.{blocks_on, blocks_not, blocks_end}
use Rattle.sigmf_names.proofs.decoded.is_verbatim.Goals as goal

pub loop-i-preserved : goal.loop-i-preserved
loop-i-preserved c =
    let loop = c.loop-i in
    blocks_on c.args.raw.now loop.i loop.invariant (sym c.is_ordinary_block.ensures ∙ c.if-not-is_ordinary_block.false)

pub returns-then-not-is_ordinary_block : goal.returns-then-not-is_ordinary_block
returns-then-not-is_ordinary_block c =
    blocks_not c.args.raw.now c.loop-i.i
    (omega (arith, c.loop-i-test.true, c.if-raw-lt-BLOCK.false))
    (sym c.is_ordinary_block.ensures ∙ c.if-not-is_ordinary_block.true)

pub returns : goal.returns
returns c =
    let loop = c.loop-i in
    blocks_end c.args.raw.now loop.i _ (omega (arith, c.if-raw-lt-BLOCK.false)) c.loop-i-test.false loop.invariant _
    c.is_ordinary_block-2.ensures
