-- Laws of entries in flat memory.
use Rattle.std.specs.Prelude.{None, Option}
use Prim.Native.Nat.{ℕ, suc, ◌+◌, ◌*◌, ◌/◌, ◌≤◌, ◌<◌}
use mathlib.Core.Path.{◌≡◌}
use mathlib.Core.List.{List, [], ◌∷◌}
use native.Mathlib.Omega.{arith}
use native.Mathlib.Nat.{add-zero}
use lib.ListN.{length, get_or, set}
use lib.Seq.{sets-eq}
use borrow.Author.Tests.{le-leb, lt-leb}
use Rattle.table.specs.Memory.{put_row}
use Rattle.table.proofs.RowLaws.{row_number, row_none}
use Rattle.reader_layout.specs.Entries.{entry_width, note_width, entry_at, stored_count, note_at}

-- ---- entries read and written
module _ (m : List ℕ) (i : ℕ) where
  pub entry_in : i < length m / entry_width → record { start = get_or m (entry_width * i) 0; header = get_or m (entry_width * i + 1) 0 } ≡ entry_at m i
  unfolding entry_at
  entry_in h =
      let g : entry_width * i + entry_width ≤ length m = omega arith in
      rw (row_number entry_width m i 0 g (omega arith), row_number entry_width m i 1 g (omega arith), add-zero (entry_width * i))

  pub entry_out : length m / entry_width ≤ i → record { start = 0; header = 0 } ≡ entry_at m i
  unfolding entry_at
  entry_out h = rw (row_none entry_width m i (omega arith))

  pub note_in : i < length m / note_width → (c : Option ℕ) → c ≡ stored_count (get_or m (note_width * i + 1) 0) (get_or m (note_width * i + 2) 0)
      → record { start = get_or m (note_width * i) 0; count = c; texts = record { label = record { at = get_or m (note_width * i + 3) 0; len = get_or m (note_width * i + 4) 0 } } } ≡ note_at m i
  unfolding note_at
  note_in h c e =
      let g : note_width * i + note_width ≤ length m = omega arith in
      rw (e, row_number note_width m i 0 g (omega arith), row_number note_width m i 1 g (omega arith), row_number note_width m i 2 g (omega arith), row_number note_width m i 3 g (omega arith), row_number note_width m i 4 g (omega arith), add-zero (note_width * i))

  pub note_out : length m / note_width ≤ i → record { start = 0; count = None; texts = record { label = record { at = 0; len = 0 } } } ≡ note_at m i
  unfolding note_at stored_count
  note_out h = rw (row_none note_width m i (omega arith))

  pub put_none : (w : ℕ) (xs : List ℕ) → length m < w * i + w → m ≡ put_row w m i xs
  unfolding put_row
  put_none w xs h = rw (lt-leb _ _ h)

  pub entry_put : (a b : ℕ) → i < length m / entry_width → set (set m (entry_width * i) a) (entry_width * i + 1) b ≡ put_row entry_width m i (a ∷ b ∷ [])
  unfolding put_row
  entry_put a b h =
      let g : entry_width * i + entry_width ≤ length m = omega arith in
      let e1 : entry_width * i + 1 ≡ suc (entry_width * i) = omega arith in
      rw (e1, le-leb _ _ g) (sets-eq (a ∷ b ∷ []) m (entry_width * i) g)

  pub note_put : (a b c d e x y : ℕ) → i < length m / note_width → x ≡ b → y ≡ c
      → set (set (set (set (set m (note_width * i) a) (note_width * i + 1) x) (note_width * i + 2) y) (note_width * i + 3) d) (note_width * i + 4) e ≡ put_row note_width m i (a ∷ b ∷ c ∷ d ∷ e ∷ [])
  unfolding put_row
  note_put a b c d e x y h p q =
      let g : note_width * i + note_width ≤ length m = omega arith in
      let e1 : note_width * i + 1 ≡ suc (note_width * i) = omega arith in
      let e2 : note_width * i + 2 ≡ suc (suc (note_width * i)) = omega arith in
      let e3 : note_width * i + 3 ≡ suc (suc (suc (note_width * i))) = omega arith in
      let e4 : note_width * i + 4 ≡ suc (suc (suc (suc (note_width * i)))) = omega arith in
      rw (p, q, e1, e2, e3, e4, le-leb _ _ g) (sets-eq (a ∷ b ∷ c ∷ d ∷ e ∷ []) m (note_width * i) g)
