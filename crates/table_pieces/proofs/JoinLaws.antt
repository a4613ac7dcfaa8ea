-- Laws of pieces put before others, touching ones joined.
use Prim.Native.Nat.{ℕ, zero, suc, ◌+◌}
use mathlib.Core.Path.{◌≡◌, refl, ap, sym, ◌∙◌}
use mathlib.Core.List.{List, [], ◌∷◌}
use native.Mathlib.Omega.{arith}
use native.Mathlib.Decide.{ℕ_discrete}
use native.Mathlib.Nat.{add_assoc, zero-add, add-zero}
use borrow.Author.Tests.{eq-eqb, ne_eqb}
use Rattle.table_pieces.specs.Pieces.{Piece, put, runs, followed}

pub put_touch : (p q : Piece) (t : List Piece) → p.first + p.len ≡ q.first → put p (q ∷ t) ≡ record { first = p.first; len = p.len + q.len } ∷ t
unfolding put
put_touch p q t h = rw (eq-eqb _ _ h)

pub put_apart : (p q : Piece) (t : List Piece) → (p.first + p.len ≡ q.first → ⊥) → put p (q ∷ t) ≡ p ∷ q ∷ t
unfolding put
put_apart p q t h = rw (ne_eqb _ _ h)

-- put is associative
pub put_put : (p q : Piece) (ys : List Piece) → p.first + p.len ≡ q.first
    → put (record { first = p.first; len = p.len + q.len }) ys ≡ put p (put q ys)
put_put p q [] h = unfold put in rw (eq-eqb _ _ h)
put_put p q (y ∷ t) h = elim (ℕ_discrete (q.first + q.len) y.first) [ yes e ↦ near e | no e ↦ far e ]
  where
    near : q.first + q.len ≡ y.first → put (record { first = p.first; len = p.len + q.len }) (y ∷ t) ≡ put p (put q (y ∷ t))
    near e = put_touch _ y t (omega arith) ∙ rw (add_assoc p.len) (sym (rw (put_touch q y t e) (put_touch p _ t h)))

    far : (q.first + q.len ≡ y.first → ⊥) → put (record { first = p.first; len = p.len + q.len }) (y ∷ t) ≡ put p (put q (y ∷ t))
    far e = put_apart _ y t (λ k. e (omega arith)) ∙ sym (rw (put_apart q y t e) (put_touch p q (y ∷ t) h))

-- a piece before one that it does not touch
pub put_far : (p q : Piece) (t : List Piece) → (p.first + p.len ≡ q.first → ⊥) → put p (put q t) ≡ p ∷ put q t
put_far p q [] h = unfold put in rw (ne_eqb _ _ h)
put_far p q (y ∷ t) h = elim (ℕ_discrete (q.first + q.len) y.first) [ yes e ↦ near e | no e ↦ far e ]
  where
    near : q.first + q.len ≡ y.first → put p (put q (y ∷ t)) ≡ p ∷ put q (y ∷ t)
    near e = rw (put_touch q y t e) (put_apart p _ t h)

    far : (q.first + q.len ≡ y.first → ⊥) → put p (put q (y ∷ t)) ≡ p ∷ put q (y ∷ t)
    far e = rw (put_apart q y t e) (put_apart p q (y ∷ t) h)

-- all pieces put before others, one by one
joined : List Piece → List Piece → List Piece
joined [] ys = ys
joined (p ∷ t) ys = put p (joined t ys)

joined_put : (p : Piece) (xs ys : List Piece) → joined (put p xs) ys ≡ put p (joined xs ys)
joined_put p [] ys = unfold put joined in refl
joined_put p (q ∷ t) ys = elim (ℕ_discrete (p.first + p.len) q.first) [ yes e ↦ near e | no e ↦ far e ]
  where
    near : p.first + p.len ≡ q.first → joined (put p (q ∷ t)) ys ≡ put p (joined (q ∷ t) ys)
    near e = rw (put_touch p q t e) (unfold joined in put_put p q (joined t ys) e)

    far : (p.first + p.len ≡ q.first → ⊥) → joined (put p (q ∷ t)) ys ≡ put p (joined (q ∷ t) ys)
    far e = rw (put_apart p q t e) (unfold joined in refl)

runs_join : (f : ℕ → ℕ) (w k m i : ℕ) → joined (runs f w k i) (runs f w m (i + k)) ≡ runs f w (k + m) i
unfolding runs joined
runs_join f w zero m i = rw (zero-add, add-zero)
runs_join f w (suc k) m i =
    let e : i + suc k ≡ suc i + k = omega arith in
    let e2 : suc k + m ≡ suc (k + m) = omega arith in
    rw (e, e2) (joined_put _ (runs f w k (suc i)) _ ∙ ap (put _) (runs_join f w k m (suc i)))

-- none touches the next
pub Apart : List Piece → Type 0
Apart [] = Unit {0}
Apart (p ∷ []) = Unit {0}
Apart (p ∷ q ∷ t) = (p.first + p.len ≡ q.first → ⊥) × Apart (q ∷ t)

followed_joined : (xs ys : List Piece) → Apart xs → followed xs ys ≡ joined xs ys
unfolding followed joined Apart
followed_joined [] ys h = refl
followed_joined (p ∷ []) ys h = refl
followed_joined (p ∷ q ∷ t) ys h = ap (λ (z : List Piece). p ∷ z) (followed_joined (q ∷ t) ys h.1) ∙ sym (put_far p q (joined t ys) h.0)

apart_join : (p q : Piece) (t : List Piece) → p.first + p.len ≡ q.first → Apart (q ∷ t) → Apart (record { first = p.first; len = p.len + q.len } ∷ t)
unfolding Apart
apart_join p q [] e h = tt
apart_join p q (y ∷ t) e h = ((λ z. h.0 (omega arith)), h.1)

apart_more : (p q : Piece) (t : List Piece) → (p.first + p.len ≡ q.first → ⊥) → Apart (q ∷ t) → Apart (p ∷ q ∷ t)
unfolding Apart
apart_more p q t e h = (e, h)

apart_put : (p : Piece) (xs : List Piece) → Apart xs → Apart (put p xs)
apart_put p [] h = unfold put Apart in tt
apart_put p (q ∷ t) h =
    elim (ℕ_discrete (p.first + p.len) q.first) [ yes e ↦ rw (put_touch p q t e) (apart_join p q t e h) | no e ↦ rw (put_apart p q t e) (apart_more p q t e h) ]

runs_apart : (f : ℕ → ℕ) (w k i : ℕ) → Apart (runs f w k i)
unfolding runs Apart
runs_apart f w zero i = tt
runs_apart f w (suc k) i = apart_put _ _ (runs_apart f w k (suc i))

-- runs of k samples followed by those of the m samples after them, a touching pair joined, are the runs of all
pub runs_followed : (f : ℕ → ℕ) (w k m i : ℕ) → followed (runs f w k i) (runs f w m (i + k)) ≡ runs f w (k + m) i
runs_followed f w k m i = followed_joined _ _ (runs_apart f w k i) ∙ runs_join f w k m i
