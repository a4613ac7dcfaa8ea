-- The laws of pieces, for every well-formed table.
use Prim.Native.Nat.{ℕ, ◌+◌, ◌-◌, ◌≤◌, ◌<◌}
use mathlib.Core.Path.{◌≡◌}
use mathlib.Core.Bool.{true}
use mathlib.Core.List.{List, []}
use mathlib.Core.Logic.{⊎_elim}
use native.Mathlib.Omega.{arith}
use native.Mathlib.Nat.{zero-add}
use Rattle.table.specs.declared.Capture.{Capture}
use Rattle.table.specs.declared.Summary.{Summary}
use Rattle.table.specs.Rows.{captures, table}
use Rattle.table.specs.Samples.{place}
use Rattle.table.specs.Locate.{place_in}
use Rattle.table.specs.Table.{well_formed}
use Rattle.table.proofs.TableLaws.{Formed, formed}
use Rattle.table_pieces.specs.Pieces.{pieces_in, followed, inside}
use Rattle.table_pieces.specs.Copy.{bytes_in, bytes_of}
use Rattle.table_pieces.specs.Bytes.{Among, OfSample, RowIn, OfHeader, Ascending}
use Rattle.table_pieces.proofs.JoinLaws.{runs_followed}
use Rattle.table_pieces.proofs.PiecesLaws.{within}
use Rattle.table_pieces.proofs.SampleLaws.{bytes_runs, before_trailer}
use Rattle.table_pieces.proofs.ByteLaws.{among_runs, runs_among, header_apart, runs_ascend, place_up}

-- ---- 1. Pieces a..b followed by pieces b..c, a touching pair joined, are pieces a..c
pub pieces_follow : (t : Summary) (caps : List ℕ) (a b c : ℕ) → a ≤ b → b ≤ c → followed (pieces_in (table t caps []) a b) (pieces_in (table t caps []) b c) ≡ pieces_in (table t caps []) a c
pieces_follow t caps a b c h g =
    let e : a + (b - a) ≡ b = omega arith in
    let e2 : (b - a) + (c - b) ≡ c - a = omega arith in
    rw (e, e2) at (runs_followed (place_in (table t caps [])) t.width (b - a) (c - b) a)

-- ---- 2. The bytes that the pieces name are the bytes of the samples in order
pub pieces_bytes : (t : Summary) (caps d : List ℕ) (a b : ℕ) → bytes_of d (pieces_in (table t caps []) a b) ≡ bytes_in (table t caps []) d a b
pieces_bytes t caps d a b = bytes_runs (place_in (table t caps [])) t.width d (b - a) a

module _ (t : Summary) (caps notes : List ℕ) (e : well_formed (table t caps notes) ≡ true) (a b : ℕ) (f : inside t a b ≡ true) where
  F : Formed t caps notes
  F = formed t caps notes e

  -- each is a byte of a sample of the range
  pub pieces_samples : (x : ℕ) → Among x (pieces_in (table t caps []) a b) → OfSample (place_in (table t caps [])) t.width a b x
  pieces_samples x m =
      let i = within t a b f in
      let n : a + (b - a) ≡ b = omega arith in
      rw n at (among_runs (place_in (table t caps [])) t.width x (b - a) a m)

  -- each byte of a sample of the range is among them
  pub samples_pieces : (x : ℕ) → OfSample (place_in (table t caps [])) t.width a b x → Among x (pieces_in (table t caps []) a b)
  samples_pieces x S =
      let i = within t a b f in
      let n : a + (b - a) ≡ b = omega arith in
      runs_among (place_in (table t caps [])) t.width x (b - a) a (rw n S)

  -- no header byte is among them
  pub pieces_no_header : (x : ℕ) → Among x (pieces_in (table t caps []) a b) → (r : Capture) → RowIn r (captures caps t.captures) → OfHeader r x → ⊥
  unfolding place
  pieces_no_header x m r n H =
      let i = within t a b f in
      let S = pieces_samples x m in
      ⊎_elim (λ z. omega (arith, z, H, S)) (λ z. omega (arith, z, H, S))
      (header_apart t.offset (t.offset + t.samples) t.width t.offset 0 (captures caps t.captures) S.sample (place_in (table t caps []) S.sample) F.laid.in_order (omega (arith, S.low)) (rw zero-add) r n)

  -- no trailer byte is among them: the trailer is the last T bytes
  pub pieces_no_trailer : (x : ℕ) → Among x (pieces_in (table t caps []) a b) → x + t.trailing < t.size
  pieces_no_trailer x m =
      let i = within t a b f in
      let S = pieces_samples x m in
      omega (arith, S, before_trailer t caps F.laid S.sample (omega (arith, S.low)) (omega (arith, S.high)))

  -- pieces are maximal: each has a byte and ends before the next begins, so that no two touch
  pub pieces_ascend : Ascending (pieces_in (table t caps []) a b)
  pieces_ascend =
      let i = within t a b f in
      (runs_ascend (place_in (table t caps [])) t.width F.nums.wide (b - a) a (λ j x y. place_up t.offset t.width (captures caps t.captures) j (omega arith))).0
