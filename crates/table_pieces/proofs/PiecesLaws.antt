-- Laws that the proofs of the counting and the writing of pieces cite.
use Prim.Native.Nat.{ℕ, suc, ◌+◌, ◌-◌, ◌*◌, ◌/◌, ◌≤◌, ◌<◌, ◌^◌}
use mathlib.Core.Path.{◌≡◌, refl, sym, ap, ◌∙◌}
use mathlib.Core.Bool.{Bool, true, false, ◌&&◌}
use mathlib.Core.List.{List, [], ◌∷◌, ◌++◌}
use native.Mathlib.Omega.{arith}
use native.Mathlib.Nat.{add-zero, zero-add, add-mul, mul-le-mul_right}
use mir.Syntax.{w64}
use mir.Val.{Fits}
use lib.ListN.{length, drop, set}
use lib.Seq.{sets-eq}
use lib.Dec.{leb}
use borrow.Author.Tests.{le-leb, lt-leb, leb-true}
use Rattle.table.specs.declared.Capture.{Capture}
use Rattle.table.specs.declared.Summary.{Summary}
use Rattle.table.specs.Memory.{written, put_row}
use Rattle.table.specs.Rows.{capture_at, rest, captures, flat, table}
use Rattle.table.specs.Samples.{header_sum}
use Rattle.table.specs.Table.{well_formed, own_entries}
use Rattle.table.specs.Judge.{Laid}
use Rattle.table.proofs.Bools.{and_left, and_right}
use Rattle.table.proofs.Filling.{Filling, fill_none, fill_row, fill_room, fill_all}
use Rattle.table.specs.declared.Wrote.{Wrote}
use Rattle.table_pieces.specs.declared.Run.{Run}
use Rattle.table.specs.Wrote.{wrote}
use Rattle.table_pieces.specs.Pieces.{Piece, piece_numbers, runs, pieces_of, pieces_in, inside, pieces_answer, pieces_memory}
use Rattle.table_pieces.specs.Run.{run_from, piece}
use Rattle.table_pieces.proofs.Walk.{sorted, sorted_low, Walking, Next, next_run}

-- ---- is it inside
pub record Inside (t : Summary) (a b : ℕ) : Type 0 where
  pub low : t.offset ≤ a
  pub up : a ≤ b
  pub high : b ≤ t.offset + t.samples

pub within : (t : Summary) (a b : ℕ) → inside t a b ≡ true → Inside t a b
unfolding inside
within t a b e =
    let x = and_left (leb t.offset a && leb a b) _ e in
    record { low = leb-true _ _ (and_left (leb t.offset a) _ x); up = leb-true _ _ (and_right (leb t.offset a) _ x); high = leb-true _ _ (and_right (leb t.offset a && leb a b) _ e) }

pub inside_true : (t : Summary) (a b : ℕ) → t.offset ≤ a → a ≤ b → b ≤ t.offset + t.samples → inside t a b ≡ true
unfolding inside
inside_true t a b p q r = rw (le-leb _ _ p, le-leb _ _ q, le-leb _ _ r)

-- ---- the walk over the captures of a table
module _ (t : Summary) (l : List ℕ) (a b : ℕ) (L : Laid t l) (f : inside t a b ≡ true) where
  pub walk_begin : Walking l a b t.captures a 0 0
  walk_begin = record {
    low = omega arith;
    high = (within t a b f).up;
    order = sorted_low t.offset (captures l t.captures) (sorted t.offset (t.offset + t.samples) t.width t.offset 0 (captures l t.captures) L.in_order);
    heads = λ j x. sym (zero-add _);
    sum = omega arith;
  }

  module _ (i h k : ℕ) (S : Walking l a b t.captures i h k) where
    pub walk_sum : h + header_sum (own_entries (rest (capture_at l) t.captures k)) < 2 ^ 63
    walk_sum = omega (arith, L, S.sum)

    pub walk_low_lem : t.offset ≤ i
    walk_low_lem = omega (arith, within t a b f, S.low)

    module _ (r : Run) (e : r ≡ run_from b i h k (rest (capture_at l) t.captures k)) (z : i < b) where
      pub found : Next l a b t.captures t.offset t.width i r
      found = next_run l a b t.captures t.offset t.width i h k (within t a b f).low z S r e

      pub run_up : i ≤ r.end
      run_up = omega (arith, found.some)

      -- the run lies in the dataset
      pub run_inside : (i - t.offset) * t.width + r.headers + (r.end - i) * t.width ≤ t.size
      run_inside =
          let n = within t a b f in
          let q = found.on in
          let k : (i - t.offset) + (r.end - i) ≤ t.samples = omega (arith, walk_low_lem, run_up, q.high) in
          omega (arith, mul-le-mul_right t.width k, add-mul (i - t.offset) (r.end - i) t.width, L.total, q.sum)

      pub run_first : (i - t.offset) * t.width + r.headers < 2 ^ 63
      run_first = omega (arith, run_inside, L.small)

      pub run_len : (r.end - i) * t.width < 2 ^ 63
      run_len = omega (arith, run_inside, L.small)

-- each run leaves less
pub run_less : (l : List ℕ) (a b n i h k : ℕ) → Walking l a b n i h k → i < b → (r : Run) → r ≡ run_from b i h k (rest (capture_at l) n k) → b - r.end < b - i
run_less l a b n i h k S z r e = let q = next_run l a b n a 0 i h k (omega arith) z S r e in omega (arith, q.some)

-- none is left
pub pieces_none : (o w : ℕ) (rs : List Capture) (i b : ℕ) → b ≤ i → pieces_of o w rs i b ≡ []
unfolding runs
pieces_none o w rs i b h = let e : b - i ≡ 0 = omega arith in rw e

-- ---- counting
pub record Counting (l : List ℕ) (a b n i h c k : ℕ) : Type 0 where
  pub on : Walking l a b n i h k
  pub few : c ≤ i
  pub left : (o w : ℕ) → o ≤ a → c + length (pieces_of o w (captures l n) i b) ≡ length (pieces_of o w (captures l n) a b)

pub count_begin : (t : Summary) (l : List ℕ) (a b : ℕ) → Laid t l → inside t a b ≡ true → Counting l a b t.captures a 0 0 0
count_begin t l a b L f = record { on = walk_begin t l a b L f; few = omega arith; left = λ o w q. zero-add _ }

pub count_on : (l : List ℕ) (a b n i h c k : ℕ) → Counting l a b n i h c k → i < b → (r : Run) → r ≡ run_from b i h k (rest (capture_at l) n k)
    → Counting l a b n r.end r.headers (c + 1) r.row
count_on l a b n i h c k S z r e =
    let q = next_run l a b n a 0 i h k (omega arith) z S.on r e in
    record { on = q.on; few = omega (arith, S.few, q.some); left = λ o w p. omega (arith, S.left o w p, ap length (next_run l a b n o w i h k p z S.on r e).next) }

pub count_done : (t : Summary) (l : List ℕ) (a b i h c k : ℕ) → inside t a b ≡ true → Counting l a b t.captures i h c k → b ≤ i → c ≡ length (pieces_in (table t l []) a b)
count_done t l a b i h c k f S z =
    sym (add-zero c) ∙ (rw (pieces_none t.offset t.width (captures l t.captures) i b z) at (S.left t.offset t.width (within t a b f).low))

-- ---- two stores are a piece
pub put_pair : (m : List ℕ) (c x y : ℕ) → 2 * c + 2 ≤ length m → set (set m (2 * c) x) (2 * c + 1) y ≡ put_row 2 m c (x ∷ y ∷ [])
unfolding put_row
put_pair m c x y h =
    let e1 : 2 * c + 1 ≡ suc (2 * c) = omega arith in
    rw (e1, le-leb _ _ h) (sets-eq (x ∷ y ∷ []) m (2 * c) h)

pub length_pieces : (ps : List Piece) → length (flat piece_numbers ps) ≡ 2 * length ps
unfolding flat
length_pieces [] = refl
length_pieces (p ∷ t) = let h = length_pieces t in omega arith

-- ---- the state of the loop that writes pieces
pub record Writing (l m : List ℕ) (a b n o w : ℕ) (out : List ℕ) (i h c k : ℕ) : Type 0 where
  pub on : Walking l a b n i h k
  pub fill : Filling (flat piece_numbers (pieces_of o w (captures l n) a b)) m out (2 * c)
  pub left : drop (2 * c) (flat piece_numbers (pieces_of o w (captures l n) a b)) ≡ flat piece_numbers (pieces_of o w (captures l n) i b)

module _ (t : Summary) (l m : List ℕ) (a b : ℕ) (L : Laid t l) (f : inside t a b ≡ true) where
  pub write_begin : Writing l m a b t.captures t.offset t.width m a 0 0 0
  write_begin = record { on = walk_begin t l a b L f; fill = fill_none _ m; left = refl }

  module _ (out : List ℕ) (i h c k : ℕ) (S : Writing l m a b t.captures t.offset t.width out i h c k) where
    pub write_done : b ≤ i → out ≡ written (flat piece_numbers (pieces_in (table t l []) a b)) m
    unfolding flat
    write_done z = fill_all (flat piece_numbers (pieces_in (table t l []) a b)) m out (2 * c) (S.left ∙ rw (pieces_none t.offset t.width (captures l t.captures) i b z)) S.fill

    module _ (r : Run) (e : r ≡ run_from b i h k (rest (capture_at l) t.captures k)) (z : i < b) (g : 2 * length (pieces_in (table t l []) a b) ≤ length m) where
      room : length (flat piece_numbers (pieces_in (table t l []) a b)) ≤ length m
      room = omega (arith, length_pieces (pieces_in (table t l []) a b))

      next : drop (2 * c) (flat piece_numbers (pieces_in (table t l []) a b))
          ≡ piece_numbers (piece t.offset t.width r.headers i r.end) ++ flat piece_numbers (pieces_of t.offset t.width (captures l t.captures) r.end b)
      unfolding flat
      next = S.left ∙ ap (flat piece_numbers) (found t l a b L f i h k S.on r e z).next

      pub write_room : 2 * c + 2 ≤ length out
      write_room = fill_room (flat piece_numbers (pieces_in (table t l []) a b)) m out (2 * c) 2 (piece_numbers (piece t.offset t.width r.headers i r.end))
          (flat piece_numbers (pieces_of t.offset t.width (captures l t.captures) r.end b)) room next refl S.fill

      pub write_c : length m < 2 ^ 64 → Fits w64 (c + 1)
      write_c y = omega (arith, write_room, S.fill)

      pub write_on : (out' : List ℕ) → out' ≡ put_row 2 out c (piece_numbers (piece t.offset t.width r.headers i r.end))
          → Writing l m a b t.captures t.offset t.width out' r.end r.headers (c + 1) r.row
      write_on out' q =
          let F = fill_row (flat piece_numbers (pieces_in (table t l []) a b)) m out 2 c _ _ room next refl S.fill out' q in
          record { on = (found t l a b L f i h k S.on r e z).on; fill = F.0; left = F.1 }

-- ---- the answer, and the memory after it
pub half_room : (c n L : ℕ) → c ≡ n → c ≤ L / 2 → 2 * n ≤ L
half_room c n L e h = omega arith

module _ (t : Summary) (l ns : List ℕ) (a b : ℕ) (m : List ℕ) (p : Bool) (e : p ≡ well_formed (table t l ns)) where
  pub ans_18 : (r : Wrote) → r ≡ wrote 18 0 → p ≡ false → r ≡ pieces_answer (table t l ns) a b (length m)
  unfolding pieces_answer
  ans_18 r z f = rw (sym e ∙ f) z

  pub out_18 : p ≡ false → m ≡ pieces_memory (table t l ns) a b m
  out_18 f = rw (← ans_18 (wrote 18 0) refl f)

  module _ (f : p ≡ true) (q : Bool) (g : q ≡ inside t a b) where
    pub ans_19 : (r : Wrote) → r ≡ wrote 19 0 → q ≡ false → r ≡ pieces_answer (table t l ns) a b (length m)
    unfolding pieces_answer
    ans_19 r z h = rw (sym e ∙ f, sym g ∙ h) z

    pub out_19 : q ≡ false → m ≡ pieces_memory (table t l ns) a b m
    out_19 h = rw (← ans_19 (wrote 19 0) refl h)

    module _ (c : ℕ) (h : q ≡ true) (k : c ≡ length (pieces_in (table t l []) a b)) where
      pub ans_20 : (r : Wrote) → r ≡ wrote 20 0 → length m / 2 < c → r ≡ pieces_answer (table t l ns) a b (length m)
      unfolding pieces_answer
      ans_20 r u z =
          let y : length m < 2 * length (pieces_in (table t l []) a b) = omega arith in
          rw (sym e ∙ f, sym g ∙ h, lt-leb _ _ y) u

      pub out_20 : length m / 2 < c → m ≡ pieces_memory (table t l ns) a b m
      out_20 z = rw (← ans_20 (wrote 20 0) refl z)

      pub ans_0 : c ≤ length m / 2 → wrote 0 c ≡ pieces_answer (table t l ns) a b (length m)
      unfolding pieces_answer
      ans_0 z =
          let y : 2 * length (pieces_in (table t l []) a b) ≤ length m = omega arith in
          rw (sym e ∙ f, sym g ∙ h, le-leb _ _ y, k)

      pub out_0 : c ≤ length m / 2 → (m' : List ℕ) → m' ≡ written (flat piece_numbers (pieces_in (table t l []) a b)) m → m' ≡ pieces_memory (table t l ns) a b m
      out_0 z m' y = rw (← ans_0 z) y
