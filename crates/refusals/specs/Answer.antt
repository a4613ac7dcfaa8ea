-- What a judge of one text or value answers, where the code has an `Option`: a value, or document 01's number of the refusal that it
-- gives cause for.
use Rattle.std.proofs.Math.Option.{Option, none, some}
use Rattle.std.specs.Prelude.{ℕ}

pub data Answer (A : Type 0) : Type 0 where
  accepted : A → Answer A
  refused : ℕ → Answer A

-- a value, or else the number
abbrev pub or_refused : {A : Type 0} → ℕ → Option A → Answer A
or_refused n (some a) = accepted a
or_refused n none = refused n
