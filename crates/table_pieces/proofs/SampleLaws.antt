-- The bytes of samples: those of the pieces, in the dataset, and in a copy.
use Prim.Native.Nat.{ℕ, zero, suc, ◌+◌, ◌-◌, ◌*◌, ◌≤◌, ◌<◌}
use mathlib.Core.Path.{◌≡◌, refl, ap, ◌∙◌, subst}
use mathlib.Core.Bool.{true}
use mathlib.Core.List.{List, [], ◌∷◌, ◌++◌, append_assoc}
use native.Mathlib.Omega.{arith}
use native.Mathlib.Decide.{ℕ_discrete}
use native.Mathlib.Nat.{add-zero, add_comm, suc-mul, mul-le-mul_right}
use lib.ListN.{length, take, drop, length-append, length-drop}
use lib.Seq.{drop-drop, take-add, length-take-le, drop-append-add, take_at}
use Rattle.table.specs.declared.Summary.{Summary}
use Rattle.table.specs.Rows.{captures, table}
use Rattle.table.specs.Samples.{place}
use Rattle.table.specs.Judge.{Laid}
use Rattle.table.specs.Locate.{place_in}
use Rattle.table.proofs.LocateLaws.{headers_le}
use Rattle.table_pieces.specs.Pieces.{Piece, put, runs, inside}
use Rattle.table_pieces.specs.Copy.{sample_from, samples_from, bytes_in, bytes_of}
use Rattle.table_pieces.proofs.JoinLaws.{put_touch, put_apart}
use Rattle.table_pieces.proofs.PiecesLaws.{within}

-- ---- the bytes of pieces
slice_join : (d : List ℕ) (at m n : ℕ) → take (m + n) (drop at d) ≡ take m (drop at d) ++ take n (drop (at + m) d)
slice_join d at m n = take-add m n (drop at d) ∙ rw (drop-drop m at d)

bytes_put : (d : List ℕ) (p : Piece) (xs : List Piece) → bytes_of d (put p xs) ≡ take p.len (drop p.first d) ++ bytes_of d xs
bytes_put d p [] = unfold put bytes_of in refl
bytes_put d p (q ∷ t) = elim (ℕ_discrete (p.first + p.len) q.first) [ yes e ↦ near e | no e ↦ far e ]
  where
    near : p.first + p.len ≡ q.first → bytes_of d (put p (q ∷ t)) ≡ take p.len (drop p.first d) ++ bytes_of d (q ∷ t)
    near e = rw (put_touch p q t e) (unfold bytes_of in rw (slice_join d p.first p.len q.len, e, append_assoc))

    far : (p.first + p.len ≡ q.first → ⊥) → bytes_of d (put p (q ∷ t)) ≡ take p.len (drop p.first d) ++ bytes_of d (q ∷ t)
    far e = rw (put_apart p q t e) (unfold bytes_of in refl)

-- the bytes of the pieces are those of the samples, one after the other
pub bytes_runs : (f : ℕ → ℕ) (w : ℕ) (d : List ℕ) (k i : ℕ) → bytes_of d (runs f w k i) ≡ samples_from f w d k i
unfolding runs samples_from bytes_of
bytes_runs f w d zero i = refl
bytes_runs f w d (suc k) i = bytes_put d (record { first = f i; len = w }) (runs f w k (suc i)) ∙ ap (λ (z : List ℕ). take w (drop (f i) d) ++ z) (bytes_runs f w d k (suc i))

-- ---- samples that lie in the dataset
module _ (f : ℕ → ℕ) (w : ℕ) (d : List ℕ) where
  -- every sample from i up to e is whole
  abbrev pub Whole : ℕ → ℕ → Type 0
  Whole i e = (j : ℕ) → i ≤ j → j < e → f j + w ≤ length d

  sample_long : (i e : ℕ) → i < e → Whole i e → length (take w (drop (f i) d)) ≡ w
  sample_long i e h z = length-take-le w (drop (f i) d) (simp length-drop (omega (arith, z i (omega arith) h)))

  pub length_samples : (k i : ℕ) → Whole i (i + k) → length (samples_from f w d k i) ≡ k * w
  unfolding samples_from
  length_samples zero i z = omega arith
  length_samples (suc k) i z =
      let h = length_samples k (suc i) (λ j x y. z j (omega arith) (omega arith)) in
      let n : length (take w (drop (f i) d)) ≡ w = sample_long i (i + suc k) (omega arith) z in
      omega (arith, suc-mul k w, length-append (take w (drop (f i) d)) (samples_from f w d k (suc i)))

  -- sample i + n is found at n * w in the samples from i on
  sample_at : (n k i : ℕ) → n < k → Whole i (i + k) → take w (drop (n * w) (samples_from f w d k i)) ≡ take w (drop (f (i + n)) d)
  unfolding samples_from
  sample_at n zero i h z = absurd (omega arith)
  sample_at zero (suc k) i h z =
      let e : zero * w ≡ zero = omega arith in
      rw (e, add-zero i) (take_at (take w (drop (f i) d)) _ w (sample_long i (i + suc k) (omega arith) z))
  sample_at (suc n) (suc k) i h z =
      let e : suc n * w ≡ w + n * w = suc-mul n w ∙ add_comm _ _ in
      let e2 : i + suc n ≡ suc i + n = omega arith in
      let L = sample_long i (i + suc k) (omega arith) z in
      let S = take w (drop (f i) d) in
      let g : drop (w + n * w) (S ++ samples_from f w d k (suc i)) ≡ drop (n * w) (samples_from f w d k (suc i))
      = subst (λ (x : ℕ). drop (x + n * w) (S ++ samples_from f w d k (suc i)) ≡ drop (n * w) (samples_from f w d k (suc i))) L (drop-append-add S (samples_from f w d k (suc i)) (n * w)) in
      rw (e, e2, g) (sample_at n k (suc i) (omega arith) (λ j x y. z j (omega arith) (omega arith)))

  -- sample c of a to b stands in the samples' bytes at (c − a)·w
  pub sample_kept : (a b c : ℕ) → a ≤ c → c < b → Whole a b → take w (drop ((c - a) * w) (samples_from f w d (b - a) a)) ≡ sample_from f w d c
  sample_kept a b c p q z =
      let k : a + (c - a) ≡ c = omega arith in
      rw k at (sample_at (c - a) (b - a) a (omega arith) (λ j x y. z j x (omega arith)))

  -- m samples from c on, taken from the samples a to b
  pub copy_from : (g : ℕ → ℕ) (a b m c : ℕ) → a ≤ c → c + m ≤ b → Whole a b → ((j : ℕ) → c ≤ j → j < c + m → g j ≡ (j - a) * w)
      → samples_from g w (samples_from f w d (b - a) a) m c ≡ samples_from f w d m c
  unfolding samples_from
  copy_from g a b zero c p q z h = refl
  copy_from g a b (suc m) c p q z h =
      let here : take w (drop (g c) (samples_from f w d (b - a) a)) ≡ take w (drop (f c) d)
      = rw (h c (omega arith) (omega arith)) (sample_kept a b c p (omega arith) z) in
      rw here (ap (λ (l : List ℕ). take w (drop (f c) d) ++ l) (copy_from g a b m (suc c) (omega arith) (omega arith) z (λ j x y. h j (omega arith) (omega arith))))

-- ---- of a well-formed table with its dataset
-- sample j lies before the trailer
pub before_trailer : (t : Summary) (l : List ℕ) → Laid t l → (j : ℕ) → t.offset ≤ j → j < t.offset + t.samples → place_in (table t l []) j + t.width + t.trailing ≤ t.size
unfolding place
before_trailer t l L j x y =
    let k : suc (j - t.offset) ≤ t.samples = omega arith in
    omega (arith, L.total, suc-mul (j - t.offset) t.width, mul-le-mul_right t.width k, headers_le (captures l t.captures) j)

module _ (t : Summary) (l d : List ℕ) (L : Laid t l) (q : length d ≡ t.size) where
  pub whole : (a b : ℕ) → inside t a b ≡ true → Whole (place_in (table t l [])) t.width d a b
  whole a b f j x y = let i = within t a b f in omega (arith, before_trailer t l L j (omega arith) (omega arith))

  -- a copy has W bytes a sample
  pub length_bytes : (a b : ℕ) → inside t a b ≡ true → length (bytes_in (table t l []) d a b) ≡ (b - a) * t.width
  length_bytes a b f =
      let i = within t a b f in
      length_samples (place_in (table t l [])) t.width d (b - a) a (λ j x y. whole a b f j x (omega arith))
