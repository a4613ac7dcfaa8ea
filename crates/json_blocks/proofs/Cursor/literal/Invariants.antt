use lib.ListN.{drop}
use mathlib.Core.Path.{◌≡◌}
use Rattle.json_blocks.specs.TextBytes.{literal_at}
use Rattle.json_blocks.proofs.Cursor.literal.Given as goal

abbrev pub invariant-loop-b : goal.invariant-loop-b
invariant-loop-b l = literal_at l.s (drop l.b-index l.word) l.at ≡ literal_at l.s l.word l.initial.at
