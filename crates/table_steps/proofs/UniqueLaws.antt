-- Ascending pieces are known by the bytes that they name.
use Prim.Native.Nat.{ℕ, ◌+◌, ◌≤◌, ◌<◌}
use mathlib.Core.Path.{◌≡◌, refl, sym, ◌∙◌}
use mathlib.Core.List.{List, [], ◌∷◌}
use mathlib.Core.Logic.{◌⊎◌, inl, inr, ⊎_elim}
use native.Mathlib.Omega.{arith}
use native.Mathlib.Decide.{dec_le}
use Rattle.table_pieces.specs.Pieces.{Piece}
use Rattle.table_pieces.specs.Bytes.{Among, Ascending}

some_byte : (p : Piece) (t : List Piece) → Ascending (p ∷ t) → 1 ≤ p.len
unfolding Ascending
some_byte p [] a = a
some_byte p (q ∷ t) a = a.0

then : (p : Piece) (t : List Piece) → Ascending (p ∷ t) → Ascending t
unfolding Ascending
then p [] a = tt
then p (q ∷ t) a = a.2

-- no byte lies before the first piece, and those of the later ones lie past it
low : (p : Piece) (t : List Piece) (x : ℕ) → Ascending (p ∷ t) → Among x (p ∷ t) → p.first ≤ x
unfolding Among
low p [] x a m = ⊎_elim (λ h. h.0) (λ h. absurd h) m
low p (q ∷ t) x a m = ⊎_elim (λ h. h.0) (λ h. far (low q t x (then p (q ∷ t) a) h)) m
  where
    far : q.first ≤ x → p.first ≤ x
    far h = omega (arith, gap)
      where
        gap : p.first + p.len < q.first
        gap = unfold Ascending in a.1

past : (p : Piece) (t : List Piece) (x : ℕ) → Ascending (p ∷ t) → Among x t → p.first + p.len < x
past p [] x a m = absurd (unfold Among in m)
past p (q ∷ t) x a m =
    let l = low q t x (then p (q ∷ t) a) m in
    let g : p.first + p.len < q.first = unfold Ascending in a.1 in
    omega arith

abbrev Within : List Piece → List Piece → Type 0
Within xs ys = (x : ℕ) → Among x xs → Among x ys

module _ (p q : Piece) (s t : List Piece) (a : Ascending (p ∷ s)) (b : Ascending (q ∷ t)) (f : Within (p ∷ s) (q ∷ t)) where
  first_le : q.first ≤ p.first
  first_le = low q t p.first b (f p.first (unfold Among in inl (omega arith, omega (arith, some_byte p s a))))

  -- a byte in ys is in its first piece or past it
  split : (x : ℕ) → Among x (q ∷ t) → ((q.first ≤ x) × (x < q.first + q.len)) ⊎ Among x t
  unfolding Among
  split x m = m

  len_le : p.first ≡ q.first → p.len ≤ q.len
  len_le e = elim (dec_le p.len q.len) [ yes h ↦ h | no h ↦ absurd (more (omega arith)) ]
    where
      more : q.len < p.len → ⊥
      more h = ⊎_elim (λ m. omega (arith, m.1)) (λ m. omega (arith, past q t (q.first + q.len) b m))
          (split (q.first + q.len) (f (q.first + q.len) (unfold Among in inl (omega arith, omega arith))))

  rest_in : p ≡ q → Within s t
  rest_in e x m = ⊎_elim (λ h. absurd (before h)) (λ h. h) (split x (f x (unfold Among in inr m)))
    where
      before : (q.first ≤ x) × (x < q.first + q.len) → ⊥
      before h = let k : q.first + q.len < x = rw e at (past p s x a m) in omega (arith, h.1)

pub unique : (xs ys : List Piece) → Ascending xs → Ascending ys → Within xs ys → Within ys xs → xs ≡ ys
unique [] [] a b f g = refl
unique [] (q ∷ t) a b f g = absurd (unfold Among in g q.first (inl (omega arith, omega (arith, some_byte q t b))))
unique (p ∷ s) [] a b f g = absurd (unfold Among in f p.first (inl (omega arith, omega (arith, some_byte p s a))))
unique (p ∷ s) (q ∷ t) a b f g = λ i. same i ∷ unique s t (then p s a) (then q t b) (rest_in p q s t a b f same) (rest_in q p t s b a g (sym same)) i
  where
    first : p.first ≡ q.first
    first = omega (arith, first_le p q s t a b f, first_le q p t s b a g)

    len : p.len ≡ q.len
    len = omega (arith, len_le p q s t a b f first, len_le q p t s b a g (sym first))

    same : p ≡ q
    same = λ i. record { first = first i; len = len i }
