use Rattle.json_transitions.proofs.Laws.{kept_lost, kept_blanks}
use Rattle.json_transitions.proofs.skip_between.Goals as goal

pub returns-then-c-eq0 : goal.returns-then-c-eq0
returns-then-c-eq0 c = search kept_lost

pub returns : goal.returns
returns c = search kept_blanks
