use native.Mathlib.Omega.{arith}
use mathlib.Core.Path.{refl}
use Rattle.json_automaton.specs.Reachable.{cost, costs}
use Rattle.json_stream.proofs.Laws.{cost_none, cost_most}
use Rattle.json_stream.proofs.reach.cost_of.Goals as goal

pub returns-then-t-lt38 : goal.returns-then-t-lt38
unfolding cost costs
returns-then-t-lt38 c = (refl, cost_most c.args.t)

pub returns-else-t-lt38 : goal.returns-else-t-lt38
returns-else-t-lt38 c = (cost_none _ c.if-t-lt38.false, omega arith)
