-- For the code: bytes that a run may pass.
use Rattle.std.specs.Prelude.{◌≡◌, List, ℕ, ◌≤◌, drop}
use Rattle.json_automaton.specs.declared.Control.{Control}
use Rattle.json_automaton.specs.Control.{run_moves}

-- the bytes from `at` up to r leave the control c as it is
pub record Kept (c : Control) (s : List ℕ) (at r : ℕ) : Type 0 where
  pub onward : at ≤ r
  pub same : run_moves c (drop r s) ≡ run_moves c (drop at s)
