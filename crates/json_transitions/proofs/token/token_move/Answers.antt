use native.Mathlib.Omega.{arith}
use Rattle.json_transitions.proofs.Laws.{token_none}
use Rattle.json_transitions.proofs.token.token_move.Goals as goal

pub returns-in_default : goal.returns-in_default
returns-in_default c = token_none _ _ (omega arith)
