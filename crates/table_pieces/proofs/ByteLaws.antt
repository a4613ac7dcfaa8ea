-- The bytes that pieces name: those of samples, none of a header, none of the trailer; pieces ascend and none touches the next.
use Prim.Native.Nat.{ℕ, zero, suc, ◌+◌, ◌-◌, ◌*◌, ◌≤◌, ◌<◌}
use mathlib.Core.Path.{◌≡◌, ◌∙◌}
use mathlib.Core.Bool.{Bool, true, false, cond}
use mathlib.Core.List.{List, [], ◌∷◌}
use mathlib.Core.Logic.{◌⊎◌, inl, inr, ⊎_elim}
use native.Mathlib.Omega.{arith}
use native.Mathlib.Decide.{dec_le, ℕ_discrete}
use native.Mathlib.Nat.{mul-le-mul_right}
use lib.Dec.{leb}
use borrow.Author.Tests.{le-leb, lt-leb}
use Rattle.table.specs.declared.Capture.{Capture}
use Rattle.table.specs.Samples.{headers_to, place}
use Rattle.table.specs.Judge.{captures_ok}
use Rattle.table.proofs.LocateLaws.{headers_in, headers_out}
use Rattle.table_pieces.specs.Pieces.{Piece, put, runs}
use Rattle.table_pieces.specs.Bytes.{Among, OfSample, RowIn, Ascending}
use Rattle.table_pieces.proofs.JoinLaws.{put_touch, put_apart}
use Rattle.table_pieces.proofs.Walk.{sorted, none_yet, step_on}
use Rattle.table.proofs.ObeyLaws.{RowGood, row_good}

-- ---- a byte of pieces is a byte of a sample
abbrev In : ℕ → Piece → Type 0
In x p = (p.first ≤ x) × (x < p.first + p.len)

among_put : (x : ℕ) (p : Piece) (xs : List Piece) → Among x (put p xs) → In x p ⊎ Among x xs
unfolding Among
among_put x p [] a = unfold put in a
among_put x p (q ∷ t) a = elim (ℕ_discrete (p.first + p.len) q.first) [ yes e ↦ near e (rw (put_touch p q t e) at a) | no e ↦ rw (put_apart p q t e) at a ]
  where
    part : p.first + p.len ≡ q.first → (p.first ≤ x) × (x < p.first + (p.len + q.len)) → In x p ⊎ (In x q ⊎ Among x t)
    part e h = elim (dec_le (p.first + p.len) x) [ yes k ↦ inr (inl (omega arith, omega arith)) | no k ↦ inl (h.0, omega arith) ]

    near : p.first + p.len ≡ q.first → Among x (record { first = p.first; len = p.len + q.len } ∷ t) → In x p ⊎ (In x q ⊎ Among x t)
    near e b = ⊎_elim (λ h. part e h) (λ c. inr (inr c)) b

pub among_runs : (f : ℕ → ℕ) (w x k i : ℕ) → Among x (runs f w k i) → OfSample f w i (i + k) x
unfolding runs
among_runs f w x zero i a = absurd (unfold Among in a)
among_runs f w x (suc k) i a =
    ⊎_elim
    (λ h. record { sample = i; low = omega arith; high = omega arith; from = h.0; upto = h.1 })
    (λ c. next (among_runs f w x k (suc i) c))
    (among_put x (record { first = f i; len = w }) (runs f w k (suc i)) a)
  where
    next : OfSample f w (suc i) (suc i + k) x → OfSample f w i (i + suc k) x
    next S = record { sample = S.sample; low = omega (arith, S.low); high = omega (arith, S.high); from = S.from; upto = S.upto }

-- ---- a byte of a sample is a byte of pieces
put_among : (x : ℕ) (p : Piece) (xs : List Piece) → In x p ⊎ Among x xs → Among x (put p xs)
unfolding Among
put_among x p [] a = unfold put in a
put_among x p (q ∷ t) a = elim (ℕ_discrete (p.first + p.len) q.first) [ yes e ↦ rw (put_touch p q t e) (near e a) | no e ↦ rw (put_apart p q t e) a ]
  where
    near : p.first + p.len ≡ q.first → In x p ⊎ (In x q ⊎ Among x t) → Among x (record { first = p.first; len = p.len + q.len } ∷ t)
    near e b = ⊎_elim (λ h. inl (h.0, omega arith)) (λ c. ⊎_elim (λ h. inl (omega arith, omega arith)) (λ d. inr d) c) b

pub runs_among : (f : ℕ → ℕ) (w x k i : ℕ) → OfSample f w i (i + k) x → Among x (runs f w k i)
unfolding runs
runs_among f w x zero i S = absurd (omega (arith, S.low, S.high))
runs_among f w x (suc k) i S =
    put_among x (record { first = f i; len = w }) (runs f w k (suc i)) (elim (ℕ_discrete i S.sample) [
      | yes e ↦ inl (here e)
      | no e ↦ inr (runs_among f w x k (suc i) (record { sample = S.sample; low = omega (arith, S.low); high = omega (arith, S.high); from = S.from; upto = S.upto }))
    ])
  where
    here : i ≡ S.sample → (f i ≤ x) × (x < f i + w)
    here e = rw e (S.from, S.upto)

-- ---- a byte of a sample is no header byte
-- rows that all start after sample j
later_rows : (o e w s h : ℕ) (rs : List Capture) (j p : ℕ) → captures_ok o e w s h rs ≡ true → j < s → p + w ≤ (suc j - o) * w + h
    → (r : Capture) → RowIn r rs → p + w + r.header ≤ r.first
unfolding RowIn
later_rows o e w s h [] j p ok l b r n = absurd n
later_rows o e w s h (q ∷ t) j p ok l b r n =
    ⊎_elim here (λ v. later_rows o e w q.start (h + q.header) t j p G.then (omega (arith, G.from)) (omega arith) r v) n
  where
    G : RowGood o e w s h q t
    G = row_good o e w s h q t ok

    here : q ≡ r → p + w + r.header ≤ r.first
    here v =
        let m : suc j - o ≤ q.start - o = omega (arith, G.from) in
        rw (← v) (omega (arith, mul-le-mul_right w m, G.first))

-- sample j, past h header bytes and those of the rows: a header ends before it or starts after it
pub header_apart : (o e w s h : ℕ) (rs : List Capture) (j p : ℕ) → captures_ok o e w s h rs ≡ true → o ≤ j → p ≡ (j - o) * w + (h + headers_to rs j)
    → (r : Capture) → RowIn r rs → (r.first ≤ p) ⊎ (p + w + r.header ≤ r.first)
unfolding RowIn
header_apart o e w s h [] j p ok z y r n = absurd n
header_apart o e w s h (q ∷ t) j p ok z y r n =
    go (λ k v. header_apart o e w q.start (h + q.header) t j p (row_good o e w s h q t ok).then z (omega (arith, y, headers_in q t j k)) r v)
  where
    G : RowGood o e w s h q t
    G = row_good o e w s h q t ok

    same : q.start ≤ j → q ≡ r → (r.first ≤ p) ⊎ (p + w + r.header ≤ r.first)
    same k v =
        let m : q.start - o ≤ j - o = omega arith in
        rw (← v) (inl (omega (arith, y, headers_in q t j k, mul-le-mul_right w m, G.first)))

    late : j < q.start → p + w + r.header ≤ r.first
    late k =
        let v : headers_to (q ∷ t) j ≡ 0 = headers_out q t j k ∙ none_yet t q.start j (sorted o e w q.start (h + q.header) t G.then) k in
        let u : p + w ≡ (suc j - o) * w + h = omega (arith, y, v, step_on o w h j z) in
        let m : suc j - o ≤ q.start - o = omega arith in
        ⊎_elim (λ c. rw (← c) (omega (arith, mul-le-mul_right w m, G.first)))
        (λ c. later_rows o e w q.start (h + q.header) t j p G.then k (omega arith) r c) n

    go : (q.start ≤ j → RowIn r t → (r.first ≤ p) ⊎ (p + w + r.header ≤ r.first)) → (r.first ≤ p) ⊎ (p + w + r.header ≤ r.first)
    go ih = elim (dec_le q.start j) [ yes k ↦ ⊎_elim (same k) (ih k) n | no k ↦ inr (late (omega arith)) ]

-- ---- pieces ascend
pub Starts : ℕ → List Piece → Type 0
Starts n [] = Unit {0}
Starts n (q ∷ t) = n ≤ q.first

ascend_put : (p : Piece) (xs : List Piece) → 1 ≤ p.len → Ascending xs → Starts (p.first + p.len) xs → Ascending (put p xs) × Starts p.first (put p xs)
unfolding Ascending Starts
ascend_put p [] h a s = unfold put in (h, omega arith)
ascend_put p (q ∷ []) h a s =
    elim (ℕ_discrete (p.first + p.len) q.first) [ yes e ↦ rw (put_touch p q [] e) (omega arith, omega arith) | no e ↦ rw (put_apart p q [] e) ((h, omega arith, a), omega arith) ]
ascend_put p (q ∷ y ∷ t) h a s =
    elim (ℕ_discrete (p.first + p.len) q.first) [
      | yes e ↦ rw (put_touch p q (y ∷ t) e) ((omega arith, omega (arith, a.1), a.2), omega arith)
      | no e ↦ rw (put_apart p q (y ∷ t) e) ((h, omega arith, a), omega arith)
    ]

-- samples that follow each other at w bytes or more
pub runs_ascend : (f : ℕ → ℕ) (w : ℕ) → 1 ≤ w → (k i : ℕ) → ((j : ℕ) → i ≤ j → j < i + k → f j + w ≤ f (suc j)) → Ascending (runs f w k i) × Starts (f i) (runs f w k i)
unfolding runs
runs_ascend f w h zero i up = unfold Ascending Starts in (tt, tt)
runs_ascend f w h (suc k) i up =
    let S = runs_ascend f w h k (suc i) (λ j x y. up j (omega arith) (omega arith)) in
    ascend_put (record { first = f i; len = w }) (runs f w k (suc i)) h S.0 (starts_down _ _ (runs f w k (suc i)) (up i (omega arith) (omega arith)) S.1)
  where
    starts_down : (n m : ℕ) (xs : List Piece) → n ≤ m → Starts m xs → Starts n xs
    starts_down n m [] h s = unfold Starts in tt
    starts_down n m (q ∷ t) h s = unfold Starts in omega arith

headers_up : (rs : List Capture) (j : ℕ) → headers_to rs j ≤ headers_to rs (suc j)
unfolding headers_to
headers_up [] j = omega arith
headers_up (r ∷ t) j = elim (dec_le r.start j) [ yes k ↦ rw (le-leb _ _ k, le-leb r.start (suc j) (omega arith)) (omega (arith, headers_up t j)) | no k ↦ rw (lt-leb r.start j (omega arith)) (more (leb r.start (suc j)) (headers_up t j)) ]
  where
    more : (b : Bool) → headers_to t j ≤ headers_to t (suc j) → 0 + headers_to t j ≤ cond b r.header 0 + headers_to t (suc j)
    more true h = omega arith
    more false h = omega arith

-- a sample ends where the next starts, or before
pub place_up : (o w : ℕ) (rs : List Capture) (j : ℕ) → o ≤ j → place o w rs j + w ≤ place o w rs (suc j)
unfolding place
place_up o w rs j h = omega (arith, step_on o w (headers_to rs j) j h, headers_up rs j)
