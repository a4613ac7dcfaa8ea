-- Demand 3 holds whole of every accepted recording and a dataset of its length.
use Prim.Native.Nat.{ℕ}
use mathlib.Core.Path.{◌≡◌, sym, ap, ◌∙◌}
use mathlib.Core.List.{List}
use lib.ListN.{length}
use Rattle.table.specs.declared.Summary.{Summary}
use Rattle.reader_layout.specs.Layout.{summary_in}
use Rattle.table_steps.proofs.CaptureLaws.{captured}
use Rattle.table_steps.specs.Calls.{Held}
use Rattle.table_steps.proofs.RangeLaws.{Ok, pieces, joined, cuts, copies, outside}
use Rattle.table_steps.proofs.Theorem.{steps}
use Rattle.reader.specs.Reading.{read_answer}
use Rattle.claims_accepted.proofs.Accepted.{accepted_formed, summary_is}
use Rattle.claims.specs.Demand3.{recording_read, WholeDemand3}

-- of every well-formed table with its dataset
whole : (z : Held) → Ok z → WholeDemand3 z
whole z g = record {
  captures = captured z.table.summary z.table.captures z.table.annotations g.accepted_table;
  pieces = pieces z g;
  join = joined z g;
  cuts = cuts z g;
  copies = copies z g;
  outside = outside z g;
  steps = steps z g;
}

-- demand 3, of every accepted recording with a dataset of the length d
module _ (s : List ℕ) (d : ℕ) (caps notes bytes : List ℕ) (z : (read_answer s d caps notes).refusal ≡ 0) (long : length bytes ≡ d) where
  size_is : (read_answer s d caps notes).size ≡ d
  unfolding summary_in
  size_is = ap (λ (t : Summary). t.size) (summary_is s d caps notes z)

  pub demand_3 : WholeDemand3 (recording_read s d caps notes bytes)
  demand_3 = whole (recording_read s d caps notes bytes) (record { accepted_table = accepted_formed s d caps notes z; long = long ∙ sym size_is })
