-- A sample before the first capture is in none, and every later one is in exactly one.
use Prim.Native.Nat.{ℕ, zero, suc, ◌+◌, ◌-◌, ◌≤◌, ◌<◌}
use mathlib.Core.Path.{◌≡◌}
use mathlib.Core.Bool.{true}
use mathlib.Core.List.{List}
use native.Mathlib.Omega.{arith}
use native.Mathlib.Decide.{dec_le, ℕ_discrete}
use Rattle.table.specs.declared.Capture.{Capture}
use Rattle.table.specs.declared.Summary.{Summary}
use Rattle.table.specs.Rows.{capture_at, rows_from, table}
use Rattle.table.specs.Table.{well_formed, own_entries}
use Rattle.table.specs.Samples.{next_start}
use Rattle.table.specs.Judge.{captures_ok}
use Rattle.table.proofs.TableLaws.{Formed, formed}
use Rattle.table_steps.specs.Captures.{Covers, InOne, Captured}
use Rattle.table_pieces.proofs.SampleLaws.{before_trailer}
use Rattle.table.proofs.ObeyLaws.{RowGood, row_good}

module _ (at : ℕ → Capture) (o e w : ℕ) where
  -- no row starts before the start that is asked
  rows_low : (s h k i j : ℕ) → captures_ok o e w s h (rows_from at k i) ≡ true → i ≤ j → j < i + k → s ≤ (at j).start
  unfolding rows_from
  rows_low s h zero i j q l u = absurd (omega arith)
  rows_low s h (suc k) i j q l u =
      let G = row_good o e w s h (at i) (rows_from at k (suc i)) q in
      elim (ℕ_discrete i j) [ yes z ↦ rw (← z) G.from | no z ↦ later G (rows_low (at i).start (h + (at i).header) k (suc i) j G.then (omega arith) (omega arith)) ]
    where
      later : RowGood o e w s h (at i) (rows_from at k (suc i)) → (at i).start ≤ (at j).start → s ≤ (at j).start
      later G r = omega (arith, G.from)

  module _ (x : ℕ) where
    -- a sample before the first row is before them all
    not_yet : (s h k i : ℕ) → captures_ok o e w s h (rows_from at k i) ≡ true → x < next_start e (own_entries (rows_from at k i)) → (j : ℕ) → i ≤ j → j < i + k → x < (at j).start
    unfolding rows_from next_start
    not_yet s h zero i q b j l u = absurd (omega arith)
    not_yet s h (suc k) i q b j l u =
        let G = row_good o e w s h (at i) (rows_from at k (suc i)) q in
        elim (ℕ_discrete i j) [ yes z ↦ rw (← z) b | no z ↦ later (rows_low (at i).start (h + (at i).header) k (suc i) j G.then (omega arith) (omega arith)) ]
      where
        later : (at i).start ≤ (at j).start → x < (at j).start
        later r = omega arith

    -- of k rows from row i on, exactly one has sample x
    record One (i k : ℕ) : Type 0 where
      row : ℕ
      low : i ≤ row
      high : row < i + k
      covers : Covers (at row) x
      only : (j : ℕ) → i ≤ j → j < i + k → Covers (at j) x → j ≡ row

    one : (s h k i : ℕ) → captures_ok o e w s h (rows_from at k i) ≡ true → next_start e (own_entries (rows_from at k i)) ≤ x → x < e → One i k
    unfolding rows_from next_start
    one s h zero i q b u = absurd (omega arith)
    one s h (suc k) i q b u = go (row_good o e w s h (at i) (rows_from at k (suc i)) q) (λ G z. one (at i).start (h + (at i).header) k (suc i) G.then z u)
      where
        go : (G : RowGood o e w s h (at i) (rows_from at k (suc i))) → ((G : RowGood o e w s h (at i) (rows_from at k (suc i))) → next_start e (own_entries (rows_from at k (suc i))) ≤ x → One (suc i) k) → One i (suc k)
        go G next = elim (dec_le (at i).end x) [ yes z ↦ past z (next G (omega (arith, G.ends))) | no z ↦ here (omega arith) ]
          where
            past : (at i).end ≤ x → One (suc i) k → One i (suc k)
            past z R = record {
              row = R.row;
              low = omega (arith, R.low);
              high = omega (arith, R.high);
              covers = R.covers;
              only = λ j l v C. elim (ℕ_discrete i j) [ yes y ↦ absurd (gone j y C) | no y ↦ R.only j (omega arith) (omega arith) C ];
            }
              where
                gone : (j : ℕ) → i ≡ j → Covers (at j) x → ⊥
                gone j y C = let D : Covers (at i) x = rw y C in omega (arith, D.upto)

            here : x < (at i).end → One i (suc k)
            here z = record {
              row = i;
              low = omega arith;
              high = omega arith;
              covers = record { from = b; upto = z };
              only = λ j l v C. elim (ℕ_discrete i j) [ yes y ↦ omega arith | no y ↦ absurd (late j (omega arith) v C) ];
            }
              where
                late : (j : ℕ) → suc i ≤ j → j < i + suc k → Covers (at j) x → ⊥
                late j l v C = omega (arith, C.from, not_yet (at i).start (h + (at i).header) k (suc i) G.then (omega (arith, G.ends)) j l (omega arith))

-- "Samples before the first capture have bytes and no capture; every later one is in exactly one"
pub captured : (t : Summary) (caps notes : List ℕ) → well_formed (table t caps notes) ≡ true → (i : ℕ) → t.offset ≤ i → i < t.offset + t.samples → Captured (table t caps notes) i
captured t caps notes e i l u = record {
  bytes = before_trailer t caps F.laid i l u;
  before = λ b k q C. omega (arith, C.from, not_yet (capture_at caps) _ _ _ i _ _ (t.captures - 0) 0 F.laid.in_order b k (omega arith) (omega arith));
  later = λ b. in_one (one (capture_at caps) _ _ _ i _ _ (t.captures - 0) 0 F.laid.in_order b u);
}
  where
    F : Formed t caps notes
    F = formed t caps notes e

    in_one : One (capture_at caps) t.offset (t.offset + t.samples) t.width i 0 (t.captures - 0) → InOne caps t.captures i
    in_one R = record { row = R.row; some = omega (arith, R.high); covers = R.covers; only = λ j q C. R.only j (omega arith) (omega arith) C }
