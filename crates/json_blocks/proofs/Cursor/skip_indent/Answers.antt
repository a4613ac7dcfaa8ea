use mathlib.Core.Path.{◌∙◌}
use Rattle.json_blocks.proofs.BlockLaws.{feed_pass, spaces_pass}
use Rattle.json_blocks.proofs.Cursor.skip_indent.Goals as goal

pub returns-then-peek-eq10 : goal.returns-then-peek-eq10
returns-then-peek-eq10 c =
    c.skip_blanks.ensures ∙ spaces_pass _ _ _ c.skip_blocks-i.ensures ∙ feed_pass _ c.args.self.at _ c.peek.ensures c.if-peek-eq10.true
