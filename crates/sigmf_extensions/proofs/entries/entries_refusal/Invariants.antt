use lib.ListN.{length}
use Prim.Native.Nat.{◌-◌}
use mathlib.Core.Path.{◌≡◌}
use Rattle.sigmf_extensions.proofs.EntriesLaws.{entries_low, entries_from}
use Rattle.refusals.specs.Refusals.{least}
use Rattle.sigmf_extensions.proofs.entries.entries_refusal.Given as goal

abbrev pub invariant-loop-e : goal.invariant-loop-e
invariant-loop-e l = least l.low (entries_low (entries_from l.s l.i)) ≡ entries_low (entries_from l.s l.initial.i)

abbrev pub decreases-loop-e : goal.decreases-loop-e
decreases-loop-e l = length l.s - l.i
