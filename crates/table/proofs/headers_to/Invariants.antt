use Prim.Native.Nat.{◌+◌}
use mathlib.Core.Path.{◌≡◌}
use Rattle.table.specs.Rows.{capture_at, rest, captures}
use Rattle.table.specs.Samples.{headers_to}
use Rattle.table.proofs.headers_to.Given as goal

abbrev pub invariant-loop-k : goal.invariant-loop-k
invariant-loop-k l = l.h + headers_to (rest (capture_at l.caps) l.n l.k) l.i ≡ headers_to (captures l.caps l.n) l.i
