-- Pieces capture by capture: the next run that the code finds is the next of the pieces that specs/ define sample by sample.
use Prim.Native.Nat.{ℕ, zero, suc, ◌+◌, ◌-◌, ◌*◌, ◌≤◌, ◌<◌, ◌^◌, max}
use mathlib.Core.Path.{◌≡◌, refl, sym, ap, ◌∙◌}
use mathlib.Core.Bool.{Bool, true, false, cond, ◌&&◌, false≢true}
use mathlib.Core.List.{List, [], ◌∷◌}
use native.Mathlib.Omega.{arith}
use native.Mathlib.Decide.{dec_le}
use native.Mathlib.Nat.{add-zero, add_assoc, add_comm, suc-mul, add-mul}
use mir.Syntax.{w64}
use mir.Val.{Fits}
use lib.Dec.{leb, ltb, eqb}
use borrow.Author.Tests.{lt-ltb, le-leb, lt-leb, leb-true, leb-false, ltb-true}
use Rattle.table.specs.declared.Capture.{Capture}
use Rattle.table.specs.Samples.{header_sum, headers_to, place, next_start}
use Rattle.table.specs.Table.{own_entries}
use Rattle.table.specs.Judge.{capture_ok, captures_ok}
use Rattle.table.specs.Rows.{capture_at, rest, captures}
use Rattle.table_pieces.specs.declared.Run.{Run}
use Rattle.table_pieces.specs.Pieces.{Piece, put, runs, pieces_of}
use Rattle.table_pieces.specs.Run.{breaks, run_from, piece}
use Rattle.table.proofs.Bools.{and_left, and_right}
use Rattle.table.proofs.RowLaws.{rest_more, rest_at, rest_none}
use Rattle.table.proofs.TableLaws.{sum_split}
use Rattle.table.proofs.LocateLaws.{headers_in, headers_out}
use Rattle.table_pieces.proofs.JoinLaws.{put_put, put_far}

-- ---- runs over samples that follow each other
module _ (f : ℕ → ℕ) (w : ℕ) where
  abbrev pub Follow : ℕ → ℕ → Type 0
  Follow i e = (j : ℕ) → i ≤ j → suc j < e → f j + w ≡ f (suc j)

  pub seg : (k m i : ℕ) → Follow i (i + suc k) → runs f w (suc k + m) i ≡ put (record { first = f i; len = suc k * w }) (runs f w m (i + suc k))
  unfolding runs
  seg zero m i h =
      let e : i + suc zero ≡ suc i = omega arith in
      let e2 : suc zero + m ≡ suc m = omega arith in
      let e3 : suc zero * w ≡ w = omega arith in
      rw (e, e2, e3)
  seg (suc k) m i h =
      let e : i + suc (suc k) ≡ suc i + suc k = omega arith in
      let e2 : suc (suc k) + m ≡ suc (suc k + m) = omega arith in
      let e3 : suc (suc k) * w ≡ w + suc k * w = suc-mul (suc k) w ∙ add_comm _ _ in
      let ih = seg k m (suc i) (λ j a b. h j (omega arith) (omega arith)) in
      rw (e, e2, e3) (ap (put (record { first = f i; len = w })) ih
      ∙ sym (put_put (record { first = f i; len = w }) (record { first = f (suc i); len = suc k * w }) _ (h i (omega arith) (omega arith))))

-- the run of samples i to e, and the rest of k samples
pub seg_to : (f : ℕ → ℕ) (w i e b : ℕ) → i < e → e ≤ b → Follow f w i e
    → runs f w (b - i) i ≡ put (record { first = f i; len = (e - i) * w }) (runs f w (b - e) e)
seg_to f w i e b p q h =
    let k1 : i + suc (e - i - 1) ≡ e = omega arith in
    let k2 : suc (e - i - 1) + (b - e) ≡ b - i = omega arith in
    let k3 : suc (e - i - 1) ≡ e - i = omega arith in
    rw (← k2) (seg f w (e - i - 1) (b - e) i (λ j x y. h j x (omega arith)) ∙ rw (k1, k3))

-- ---- rows in order
abbrev pub Sorted : ℕ → List Capture → Type 0
Sorted s [] = Unit {0}
Sorted s (r ∷ t) = (s ≤ r.start) × Sorted r.start t

pub sorted : (o e w s h : ℕ) (rs : List Capture) → captures_ok o e w s h rs ≡ true → Sorted s rs
unfolding captures_ok capture_ok
sorted o e w s h [] q = tt
sorted o e w s h (r ∷ t) q =
    let a = and_left (capture_ok o e w s (h + r.header) (next_start e (own_entries t)) r) (captures_ok o e w r.start (h + r.header) t) q in
    let b = and_left (leb s r.start && leb r.start e && eqb r.end (next_start e (own_entries t))) _ a in
    let c = and_left (leb s r.start && leb r.start e) _ b in
    (leb-true _ _ (and_left (leb s r.start) _ c), sorted o e w r.start (h + r.header) t (and_right (capture_ok o e w s (h + r.header) (next_start e (own_entries t)) r) _ q))

pub none_yet : (rs : List Capture) (s j : ℕ) → Sorted s rs → j < s → headers_to rs j ≡ 0
unfolding headers_to
none_yet [] s j h l = refl
none_yet (r ∷ t) s j h l =
    let a : j < r.start = omega arith in
    rw (lt-leb _ _ a, none_yet t r.start j h.1 a)

pub sorted_low : (s : ℕ) (rs : List Capture) → Sorted s rs → Sorted 0 rs
sorted_low s [] h = tt
sorted_low s (r ∷ t) h = (omega arith, h.1)

place_is : (o w : ℕ) (rs : List Capture) (i : ℕ) → place o w rs i ≡ (i - o) * w + headers_to rs i
unfolding place
place_is o w rs i = refl

-- samples that have the same headers follow each other
pub step_on : (o w h j : ℕ) → o ≤ j → (j - o) * w + h + w ≡ (suc j - o) * w + h
step_on o w h j p =
    let e : suc j - o ≡ suc (j - o) = omega arith in
    rw e (omega (arith, suc-mul (j - o) w))

-- ---- a header between samples
breaks_yes : (i : ℕ) (r : Capture) → breaks i r ≡ true → (i < r.start) × (0 < r.header)
unfolding breaks
breaks_yes i r e = (ltb-true _ _ (and_left (ltb i r.start) _ e), ltb-true _ _ (and_right (ltb i r.start) _ e))

-- where none is, the header counts for sample i and all later ones, or is empty
breaks_no : (i j : ℕ) (r : Capture) (t : List Capture) → breaks i r ≡ false → i ≤ j → headers_to (r ∷ t) j ≡ r.header + headers_to t j
breaks_no i j r t e h = elim (dec_le r.start j) [ yes k ↦ headers_in r t j k | no k ↦ out (omega arith) ]
  where
    none : j < r.start → 0 < r.header → breaks i r ≡ true
    none k p =
        let q : i < r.start = omega arith in
        unfold breaks in rw (lt-ltb _ _ q, lt-ltb _ _ p)

    out : j < r.start → headers_to (r ∷ t) j ≡ r.header + headers_to t j
    out k =
        let z : r.header ≡ 0 = elim (dec_le 1 r.header) [ yes p ↦ absurd (false≢true (sym e ∙ none k p)) | no p ↦ omega arith ] in
        omega (arith, headers_out r t j k)

-- ---- the code that finds the next run
-- at row j of n, from row k on, past g header bytes: R is the run
pub record Finding (l : List ℕ) (n b i k j g H : ℕ) (R : Run) : Type 0 where
  pub upto : j ≤ max n k
  pub sum : g + header_sum (own_entries (rest (capture_at l) n j)) ≤ H
  pub run : run_from b i g j (rest (capture_at l) n j) ≡ R

pub find_begin : (l : List ℕ) (n b i k h : ℕ) → Finding l n b i k k h (h + header_sum (own_entries (rest (capture_at l) n k))) (run_from b i h k (rest (capture_at l) n k))
find_begin l n b i k h = record { upto = omega arith; sum = omega arith; run = refl }

module _ (l : List ℕ) (n b i k j g H : ℕ) (R : Run) (S : Finding l n b i k j g H R) where
  pub find_none : k ≤ j → n ≤ j → (row : ℕ) → row ≡ max n k → record { headers = g; end = b; row = row } ≡ R
  unfolding run_from
  find_none d h row e =
      let q : row ≡ j = omega (arith, S.upto) in
      rw q (rw (rest_none (capture_at l) n j h) at S.run)

  module _ (x : Capture) (e : x ≡ capture_at l j) (lt : j < n) where
    pub find_past : b ≤ x.start → record { headers = g; end = b; row = j } ≡ R
    unfolding run_from
    find_past h = rw (rest_at (capture_at l) n j x e lt, le-leb _ _ h) at S.run

    module _ (h : x.start < b) (q : Bool) (u : q ≡ breaks i x) where
      pub find_break : q ≡ true → record { headers = g; end = x.start; row = j } ≡ R
      unfolding run_from
      find_break f = rw (rest_at (capture_at l) n j x e lt, lt-leb _ _ h, sym u ∙ f) at S.run

      pub find_on : q ≡ false → Finding l n b i k (j + 1) (g + x.header) H R
      unfolding run_from
      find_on f = record { upto = omega arith; sum = omega (arith, S.sum, sum_split l n j x e lt); run = rw (rest_at (capture_at l) n j x e lt, lt-leb _ _ h, sym u ∙ f) at S.run }

    pub find_fits : H < 2 ^ 63 → Fits w64 (g + x.header)
    find_fits h = omega (arith, S.sum, sum_split l n j x e lt)

-- ---- the walk
-- at sample i of a to b, past h header bytes, where row k of n is the first that is left
pub record Walking (l : List ℕ) (a b n i h k : ℕ) : Type 0 where
  pub low : a ≤ i
  pub high : i ≤ b
  pub order : Sorted 0 (rest (capture_at l) n k)
  pub heads : (j : ℕ) → i ≤ j → headers_to (captures l n) j ≡ h + headers_to (rest (capture_at l) n k) j
  pub sum : h + header_sum (own_entries (rest (capture_at l) n k)) ≤ header_sum (own_entries (captures l n))

-- a run found at sample i: it is the next piece, and the walk goes on at its end
pub record Next (l : List ℕ) (a b n o w i : ℕ) (r : Run) : Type 0 where
  pub some : i < r.end
  pub next : pieces_of o w (captures l n) i b ≡ piece o w r.headers i r.end ∷ pieces_of o w (captures l n) r.end b
  pub on : Walking l a b n r.end r.headers r.row

put_none : (f : ℕ → ℕ) (w b : ℕ) (p : Piece) → put p (runs f w (b - b) b) ≡ p ∷ runs f w (b - b) b
unfolding put runs
put_none f w b p = let e : b - b ≡ 0 = omega arith in rw e

module _ (l : List ℕ) (a b n o w i h k : ℕ) (low : o ≤ a) (S : Walking l a b n i h k) where
  -- a sample up to e, where no header stands before e
  same : (e : ℕ) → ((j : ℕ) → j < e → headers_to (rest (capture_at l) n k) j ≡ 0) → (j : ℕ) → i ≤ j → j < e → place o w (captures l n) j ≡ (j - o) * w + h
  unfolding place
  same e z j x y = rw (S.heads j x, z j y, add-zero)

  ends : (e : ℕ) → i < e → e ≤ b → ((j : ℕ) → j < e → headers_to (rest (capture_at l) n k) j ≡ 0)
      → put (piece o w h i e) (pieces_of o w (captures l n) e b) ≡ piece o w h i e ∷ pieces_of o w (captures l n) e b
      → Next l a b n o w i (record { headers = h; end = e; row = k })
  ends e p q z apart = record {
    some = p;
    next = seg_to (place o w (captures l n)) w i e b p q follow ∙ rw (same e z i (omega arith) p) apart;
    on = record { low = omega (arith, S.low); high = q; order = S.order; heads = λ j x. S.heads j (omega arith); sum = S.sum };
  }
    where
      follow : Follow (place o w (captures l n)) w i e
      follow j x y = rw (same e z j x (omega arith), same e z (suc j) (omega arith) y) (step_on o w h j (omega (arith, S.low)))

  to_end : i < b → ((j : ℕ) → j < b → headers_to (rest (capture_at l) n k) j ≡ 0) → Next l a b n o w i (record { headers = h; end = b; row = k })
  to_end p z = ends b p (omega arith) z (put_none (place o w (captures l n)) w b (piece o w h i b))

  module _ (r : Capture) (e : r ≡ capture_at l k) (lt : k < n) where
    rows : rest (capture_at l) n k ≡ r ∷ rest (capture_at l) n (k + 1)
    rows = rest_at (capture_at l) n k r e lt

    tail : Sorted r.start (rest (capture_at l) n (k + 1))
    tail = (rw rows at S.order).1

    -- no header before the next row starts
    nil : (j : ℕ) → j < r.start → headers_to (rest (capture_at l) n k) j ≡ 0
    nil j y = rw rows (headers_out r (rest (capture_at l) n (k + 1)) j y ∙ none_yet (rest (capture_at l) n (k + 1)) r.start j tail y)

    past : i < b → b ≤ r.start → Next l a b n o w i (record { headers = h; end = b; row = k })
    past p g = to_end p (λ j y. nil j (omega arith))

    -- a header: the run up to it does not touch what follows
    to_header : r.start < b → i < r.start → 0 < r.header → Next l a b n o w i (record { headers = h; end = r.start; row = k })
    unfolding runs
    to_header g p z = ends r.start p (omega arith) nil apart
      where
        at : headers_to (captures l n) r.start ≡ h + (r.header + headers_to (rest (capture_at l) n (k + 1)) r.start)
        at = S.heads r.start (omega arith) ∙ rw rows (rw (headers_in r (rest (capture_at l) n (k + 1)) r.start (omega arith)))

        far : (i - o) * w + h + (r.start - i) * w ≡ place o w (captures l n) r.start → ⊥
        far v =
            let m : (i - o) + (r.start - i) ≡ r.start - o = omega (arith, S.low) in
            let d : (i - o) * w + (r.start - i) * w ≡ (r.start - o) * w = sym (add-mul (i - o) (r.start - i) w) ∙ ap (λ (x : ℕ). x * w) m in
            omega (arith, place_is o w (captures l n) r.start, at, d, v)

        apart : put (piece o w h i r.start) (runs (place o w (captures l n)) w (b - r.start) r.start) ≡ piece o w h i r.start ∷ runs (place o w (captures l n)) w (b - r.start) r.start
        apart =
            let m : b - r.start ≡ suc (b - r.start - 1) = omega arith in
            rw m (put_far (piece o w h i r.start) (record { first = place o w (captures l n) r.start; len = w }) _ far)

    -- no header: the row is passed
    passed : breaks i r ≡ false → Walking l a b n i (h + r.header) (k + 1)
    passed f = record {
      low = S.low;
      high = S.high;
      order = sorted_low r.start (rest (capture_at l) n (k + 1)) tail;
      heads = λ j x. S.heads j x ∙ rw rows (rw (breaks_no i j r (rest (capture_at l) n (k + 1)) f x, add_assoc h r.header (headers_to (rest (capture_at l) n (k + 1)) j)));
      sum = omega (arith, S.sum, sum_split l n k r e lt);
    }

-- the run that the code finds is the next piece; m rows are left
found : (m : ℕ) (l : List ℕ) (a b n o w i h k : ℕ) → n - k ≡ m → o ≤ a → i < b → Walking l a b n i h k → Next l a b n o w i (run_from b i h k (rest (capture_at l) n k))
unfolding run_from headers_to
found zero l a b n o w i h k e low p S =
    let z : rest (capture_at l) n k ≡ [] = rest_none (capture_at l) n k (omega arith) in
    rw z (to_end l a b n o w i h k low S p (λ j y. rw z))
found (suc m) l a b n o w i h k e low p S =
    let lt : k < n = omega arith in
    rw (rest_more (capture_at l) n k lt) (go (leb b (capture_at l k).start) (breaks i (capture_at l k)) refl refl lt
    (λ f. found m l a b n o w i (h + (capture_at l k).header) (k + 1) (omega arith) low p (passed l a b n o w i h k low S (capture_at l k) refl lt f)))
  where
    go : (x y : Bool) → leb b (capture_at l k).start ≡ x → breaks i (capture_at l k) ≡ y → k < n
        → (breaks i (capture_at l k) ≡ false → Next l a b n o w i (run_from b i (h + (capture_at l k).header) (k + 1) (rest (capture_at l) n (k + 1))))
        → Next l a b n o w i (cond x (record { headers = h; end = b; row = k })
        (cond y (record { headers = h; end = (capture_at l k).start; row = k })
        (run_from b i (h + (capture_at l k).header) (k + 1) (rest (capture_at l) n (k + 1)))))
    go true y q1 q2 lt ih = past l a b n o w i h k low S (capture_at l k) refl lt p (leb-true _ _ q1)
    go false true q1 q2 lt ih = let f = breaks_yes i (capture_at l k) q2 in to_header l a b n o w i h k low S (capture_at l k) refl lt (leb-false _ _ q1) f.0 f.1
    go false false q1 q2 lt ih = ih q2

pub next_run : (l : List ℕ) (a b n o w i h k : ℕ) → o ≤ a → i < b → Walking l a b n i h k → (r : Run) → r ≡ run_from b i h k (rest (capture_at l) n k) → Next l a b n o w i r
next_run l a b n o w i h k low p S r e = rw e (found (n - k) l a b n o w i h k refl low p S)
