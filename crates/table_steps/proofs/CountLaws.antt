-- A range has at most one piece more than the table has captures, and its cut at most the table's rows.
use Prim.Native.Nat.{ℕ, zero, suc, ◌+◌, ◌-◌, ◌≤◌, ◌<◌}
use mathlib.Core.Path.{◌≡◌, refl, sym, ap, ◌∙◌}
use mathlib.Core.Bool.{Bool, true, false, cond}
use mathlib.Core.List.{List, [], ◌∷◌}
use mathlib.Core.Logic.{◌⊎◌, inl, inr, ⊎_elim}
use native.Mathlib.Omega.{arith}
use native.Mathlib.Decide.{dec_le, ℕ_discrete}
use lib.ListN.{length}
use lib.Dec.{leb}
use borrow.Author.Tests.{le-leb, lt-leb}
use Rattle.table.specs.declared.Capture.{Capture}
use Rattle.table.specs.declared.Summary.{Summary}
use Rattle.table.specs.Rows.{capture_at, annotation_at, rows_from, captures, table}
use Rattle.table.specs.Samples.{headers_to, place}
use Rattle.table.proofs.LocateLaws.{headers_in, headers_out}
use Rattle.table_pieces.specs.Pieces.{Piece, put, runs, pieces_in, inside}
use Rattle.table_cuts.specs.Cut.{shares_capture, shares_annotation, clip_capture, clip_annotation, kept, cut, cut_in}
use Rattle.table_pieces.proofs.JoinLaws.{put_touch, put_apart}
use Rattle.table_pieces.proofs.PiecesLaws.{Inside, within}
use Rattle.table_cuts.proofs.KeepLaws.{kept_yes, kept_no}
use Rattle.table_pieces.proofs.Walk.{step_on}

-- ---- rows that start after sample i
after : List Capture → ℕ → ℕ
after [] i = 0
after (r ∷ t) i = cond (leb r.start i) 0 1 + after t i

module _ (r : Capture) (t : List Capture) (i : ℕ) where
  after_in : r.start ≤ i → after (r ∷ t) i ≡ after t i
  unfolding after
  after_in h = let e = le-leb r.start i h in rw e (omega arith)

  after_out : i < r.start → after (r ∷ t) i ≡ suc (after t i)
  unfolding after
  after_out h = let e = lt-leb r.start i h in rw e (omega arith)

after_all : (at : ℕ → Capture) (k i j : ℕ) → after (rows_from at k i) j ≤ k
unfolding rows_from
after_all at zero i j = unfold after in omega arith
after_all at (suc k) i j =
    elim (dec_le (at i).start j) [
      | yes h ↦ omega (arith, after_in (at i) (rows_from at k (suc i)) j h, after_all at k (suc i) j)
      | no h ↦ omega (arith, after_out (at i) (rows_from at k (suc i)) j (omega arith), after_all at k (suc i) j)
    ]

after_down : (rs : List Capture) (i : ℕ) → after rs (suc i) ≤ after rs i
after_down [] i = unfold after in omega arith
after_down (r ∷ t) i =
    elim (dec_le r.start i) [
      | yes h ↦ omega (arith, after_in r t i h, after_in r t (suc i) (omega arith), after_down t i)
      | no h ↦ elim (dec_le r.start (suc i)) [
        | yes k ↦ omega (arith, after_out r t i (omega arith), after_in r t (suc i) k, after_down t i)
        | no k ↦ omega (arith, after_out r t i (omega arith), after_out r t (suc i) (omega arith), after_down t i)
      ]
    ]

-- no header stands between sample i and the next, or a row starts there
headers_or : (rs : List Capture) (i : ℕ) → (headers_to rs (suc i) ≡ headers_to rs i) ⊎ (after rs (suc i) < after rs i)
headers_or [] i = unfold headers_to in inl refl
headers_or (r ∷ t) i =
    elim (dec_le r.start i) [
      | yes h ↦ ⊎_elim (λ e. inl (omega (arith, headers_in r t i h, headers_in r t (suc i) (omega arith)))) (λ l. inr (omega (arith, after_in r t i h, after_in r t (suc i) (omega arith)))) (headers_or t i)
      | no h ↦ elim (dec_le r.start (suc i)) [
        | yes k ↦ inr (omega (arith, after_out r t i (omega arith), after_in r t (suc i) k, after_down t i))
        | no k ↦ ⊎_elim (λ e. inl (omega (arith, headers_out r t i (omega arith), headers_out r t (suc i) (omega arith)))) (λ l. inr (omega (arith, after_out r t i (omega arith), after_out r t (suc i) (omega arith)))) (headers_or t i)
      ]
    ]

-- ---- the first piece
record Head (xs : List Piece) (n : ℕ) : Type 0 where
  piece : Piece
  rest : List Piece
  is : xs ≡ piece ∷ rest
  at : piece.first ≡ n

put_head : (p : Piece) (xs : List Piece) → Head (put p xs) p.first
put_head p [] = record { piece = p; rest = []; is = unfold put in refl; at = refl }
put_head p (q ∷ t) =
    elim (ℕ_discrete (p.first + p.len) q.first) [
      | yes e ↦ record { piece = record { first = p.first; len = p.len + q.len }; rest = t; is = put_touch p q t e; at = refl }
      | no e ↦ record { piece = p; rest = q ∷ t; is = put_apart p q t e; at = refl }
    ]

put_most : (p : Piece) (xs : List Piece) → length (put p xs) ≤ suc (length xs)
put_most p [] = unfold put in omega arith
put_most p (q ∷ t) = elim (ℕ_discrete (p.first + p.len) q.first) [ yes e ↦ rw (put_touch p q t e) (omega arith) | no e ↦ rw (put_apart p q t e) (omega arith) ]

put_same : (p : Piece) (xs : List Piece) → Head xs (p.first + p.len) → length (put p xs) ≡ length xs
put_same p xs H = rw H.is (ap length (put_touch p H.piece H.rest (sym H.at)))

-- ---- pieces of k + 1 samples
module _ (o w : ℕ) (rs : List Capture) where
  next_place_lem : (i : ℕ) → o ≤ i → headers_to rs (suc i) ≡ headers_to rs i → place o w rs (suc i) ≡ place o w rs i + w
  unfolding place
  next_place_lem i h e = omega (arith, step_on o w (headers_to rs i) i h)

  few_more : (i : ℕ) → o ≤ i → (p : Piece) → p.first ≡ place o w rs i → p.len ≡ w → (xs : List Piece) → Head xs (place o w rs (suc i))
      → length xs ≤ suc (after rs (suc i)) → length (put p xs) ≤ suc (after rs i)
  few_more i h p u v xs H l =
      ⊎_elim (λ e. omega (arith, put_same p xs (record { piece = H.piece; rest = H.rest; is = H.is; at = H.at ∙ next_place_lem i h e ∙ rw (u, v) }), after_down rs i))
      (λ e. omega (arith, put_most p xs)) (headers_or rs i)

  few_runs : (k i : ℕ) → o ≤ i → length (runs (place o w rs) w (suc k) i) ≤ suc (after rs i)
  unfolding runs
  few_runs zero i h = unfold put in omega arith
  few_runs (suc k) i h = few_more i h _ refl refl (runs (place o w rs) w (suc k) (suc i)) (put_head _ _) (few_runs k (suc i) (omega arith))

pub few_pieces : (t : Summary) (caps : List ℕ) (a b : ℕ) → inside t a b ≡ true → length (pieces_in (table t caps []) a b) ≤ t.captures + 1
unfolding runs
few_pieces t caps a b f = go (b - a)
  where
    go : (k : ℕ) → length (runs (place t.offset t.width (captures caps t.captures)) t.width k a) ≤ t.captures + 1
    go zero = omega arith
    go (suc k) =
        omega (arith, few_runs t.offset t.width (captures caps t.captures) k a (within t a b f).low, after_all (capture_at caps) (t.captures - 0) 0 a)

-- ---- rows that are kept
few_kept : {A : Type 0} (f : A → Bool) (h : A → A) (at : ℕ → A) (k i : ℕ) → length (kept f h (rows_from at k i)) ≤ k
unfolding rows_from
few_kept f h at zero i = unfold kept in omega arith
few_kept f h at (suc k) i = go (f (at i)) refl (few_kept f h at k (suc i))
  where
    go : (b : Bool) → f (at i) ≡ b → length (kept f h (rows_from at k (suc i))) ≤ k → length (kept f h (at i ∷ rows_from at k (suc i))) ≤ suc k
    go true e l = rw (kept_yes f h (at i) (rows_from at k (suc i)) e) (omega arith)
    go false e l = rw (kept_no f h (at i) (rows_from at k (suc i)) e) (omega arith)

module _ (t : Summary) (caps notes : List ℕ) (a b : ℕ) where
  pub few_captures_lem : length (cut_in (table t caps notes) a b).captures ≤ t.captures
  unfolding cut
  few_captures_lem = omega (arith, few_kept (shares_capture a b) (clip_capture a b t.width) (capture_at caps) (t.captures - 0) 0)

  pub few_annotations_lem : length (cut_in (table t caps notes) a b).annotations ≤ t.annotations
  unfolding cut
  few_annotations_lem = omega (arith, few_kept (shares_annotation a b) (clip_annotation a b) (annotation_at notes) (t.annotations - 0) 0)
