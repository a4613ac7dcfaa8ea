use mathlib.Core.Path.{◌≡◌}
use Rattle.json_strings.specs.Decode.{decoded_from}
use Rattle.json_judge.specs.MemberNames.{has_name}
use Rattle.json_judge.specs.Stack.{names_on}
use Rattle.json_judge.proofs.seen.is_among.Given as goal

abbrev pub invariant-loop-k : goal.invariant-loop-k
invariant-loop-k l = has_name (decoded_from l.s l.at) (names_on l.s l.places l.base l.k) ≡ has_name (decoded_from l.s l.at) (names_on l.s l.places l.base l.n)
