use lib.ListN.{length}
use Prim.Native.Nat.{◌-◌}
use mathlib.Core.Path.{◌≡◌}
use Rattle.sigmf_extensions.specs.Extensions.{tally_from, tally_of}
use Rattle.sigmf_extensions.proofs.ExtensionLaws.{Bounded}
use Rattle.json_walk.specs.Members.{members_from}
use Rattle.sigmf_extensions.proofs.entry.tally.Given as goal

abbrev pub invariant-loop-m : goal.invariant-loop-m
invariant-loop-m l = (Bounded l.t l.at) × (tally_from l.part l.t (members_from l.part l.at) ≡ tally_of l.part)

abbrev pub decreases-loop-m : goal.decreases-loop-m
decreases-loop-m l = length l.part - l.at
