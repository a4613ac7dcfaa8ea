use Prim.Native.Nat.{◌-◌, ◌+◌}
use mathlib.Core.Path.{◌≡◌}
use mathlib.Core.Bool.{◌&&◌}
use Rattle.json_names.specs.Plain.{alike}
use Rattle.json_names.proofs.alike.are_alike.Given as goal

abbrev pub invariant-loop-k : goal.invariant-loop-k
invariant-loop-k l = (l.ok && alike (l.n - l.k) l.s (l.i + l.k) l.t (l.j + l.k)) ≡ alike l.n l.s l.i l.t l.j
