use Rattle.json_transitions.proofs.Laws.{kept_plain}
use Rattle.json_transitions.proofs.skip_kept.Goals as goal

pub returns-then-c-eq-STRING : goal.returns-then-c-eq-STRING
returns-then-c-eq-STRING c = search kept_plain
