use Prim.Native.Nat.{◌≤◌, ◌-◌, ◌+◌, ◌*◌}
use mathlib.Core.Path.{◌≡◌}
use Rattle.json_automaton.specs.Reachable.{opened_in}
use Rattle.json_stream.proofs.reach.opened_of.Given as goal

abbrev pub invariant-loop : goal.invariant-loop
invariant-loop l = (l.sum + opened_in (32 - l.counter) l.o ≡ opened_in 32 l.initial.o) × (l.sum ≤ 4 * l.counter) × (l.counter ≤ 32)
