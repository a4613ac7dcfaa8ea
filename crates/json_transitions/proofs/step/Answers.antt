use mathlib.Core.Path.{sym, ◌∙◌}
use borrow.Author.Tests.{eq-eqb, ne_eqb}
use Rattle.json_automaton.specs.Control.{move, moved}
use Rattle.json_transitions.proofs.step.Goals as goal

pub returns-then-n-ne-BAD : goal.returns-then-n-ne-BAD
unfolding move moved
returns-then-n-ne-BAD c = rw (← c.token_move-n.ensures, ne_eqb _ _ c.if-n-ne-BAD.true) c.at.ensures

pub returns-then-is_whole : goal.returns-then-is_whole
unfolding move moved
returns-then-is_whole c = rw (← c.token_move-n.ensures, eq-eqb _ _ c.if-n-ne-BAD.false, (sym c.is_whole.ensures ∙ c.if-is_whole.true)) c.place_move.ensures

pub returns-else-is_whole : goal.returns-else-is_whole
unfolding move moved
returns-else-is_whole c = rw (← c.token_move-n.ensures, eq-eqb _ _ c.if-n-ne-BAD.false, (sym c.is_whole.ensures ∙ c.if-is_whole.false)) c.lost.ensures
