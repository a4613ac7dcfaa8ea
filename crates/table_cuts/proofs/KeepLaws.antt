-- Laws of the rows that a cut keeps, for rows of either kind.
use Prim.Native.Nat.{ℕ, suc, ◌+◌, ◌*◌, ◌≤◌, ◌<◌, ◌^◌}
use mathlib.Core.Path.{◌≡◌, refl, sym, ap, ◌∙◌}
use mathlib.Core.Bool.{Bool, true, false}
use mathlib.Core.List.{List, [], ◌∷◌, ◌++◌}
use native.Mathlib.Omega.{arith}
use native.Mathlib.Nat.{le-mul_of_pos_right}
use mir.Syntax.{w64}
use mir.Val.{Fits}
use lib.Dec.{leb}
use borrow.Author.Tests.{leb-true}
use lib.ListN.{length, drop}
use Rattle.table.specs.Memory.{written, put_row}
use Rattle.table.specs.Rows.{rest, flat}
use Rattle.table.proofs.RowLaws.{rest_at, rest_none, length_flat}
use Rattle.table.proofs.Filling.{Filling, fill_none, fill_row, fill_room, fill_all}
use Rattle.table_cuts.specs.Cut.{kept}

module _ {A : Type 0} (f : A → Bool) (g : A → A) where
  pub kept_yes : (r : A) (t : List A) → f r ≡ true → kept f g (r ∷ t) ≡ g r ∷ kept f g t
  unfolding kept
  kept_yes r t h = rw h

  pub kept_no : (r : A) (t : List A) → f r ≡ false → kept f g (r ∷ t) ≡ kept f g t
  unfolding kept
  kept_no r t h = rw h

-- kept twice: what the first drops the second would drop, and the second reads the same of what the first kept
module _ {A : Type 0} (f : A → Bool) (g : A → A) (u : A → Bool) (v : A → A) (out : (r : A) → f r ≡ false → u r ≡ false) (same : (r : A) → u (g r) ≡ u r)
    (again : (r : A) → v (g r) ≡ v r) where
  pub kept_kept : (rs : List A) → kept u v (kept f g rs) ≡ kept u v rs
  kept_kept [] = unfold kept in refl
  kept_kept (r ∷ t) = go (f r) (u r) refl refl (kept_kept t)
    where
      go : (p q : Bool) → f r ≡ p → u r ≡ q → kept u v (kept f g t) ≡ kept u v t → kept u v (kept f g (r ∷ t)) ≡ kept u v (r ∷ t)
      go false q h k ih = rw (kept_no f g r t h, kept_no u v r t (out r h)) ih
      go true true h k ih = rw (kept_yes f g r t h, kept_yes u v (g r) (kept f g t) (same r ∙ k), kept_yes u v r t k, again r, ih)
      go true false h k ih = rw (kept_yes f g r t h, kept_no u v (g r) (kept f g t) (same r ∙ k), kept_no u v r t k) ih

-- how many are kept goes by the test alone
kept_length : {A : Type 0} (f : A → Bool) (g h : A → A) (rs : List A) → length (kept f g rs) ≡ length (kept f h rs)
kept_length f g h [] = unfold kept in refl
kept_length f g h (r ∷ t) = go (f r) refl (kept_length f g h t)
  where
    go : (b : Bool) → f r ≡ b → length (kept f g t) ≡ length (kept f h t) → length (kept f g (r ∷ t)) ≡ length (kept f h (r ∷ t))
    go true e ih = rw (kept_yes f g r t e, kept_yes f h r t e, ih)
    go false e ih = rw (kept_no f g r t e, kept_no f h r t e) ih

-- ---- counting
pub record Counting {A : Type 0} (at : ℕ → A) (f : A → Bool) (n c k : ℕ) : Type 0 where
  pub more : k ≤ n
  pub under : c ≤ k
  pub sum : c + length (kept f (λ r. r) (rest at n k)) ≡ length (kept f (λ r. r) (rest at n 0))

module _ {A : Type 0} (at : ℕ → A) (f : A → Bool) (n : ℕ) where
  pub count_begin : Counting at f n 0 0
  count_begin = record { more = omega arith; under = omega arith; sum = omega arith }

  module _ (c k : ℕ) (S : Counting at f n c k) where
    pub count_done : (g : A → A) → n ≤ k → c ≡ length (kept f g (rest at n 0))
    unfolding kept
    count_done g z =
        let y : length (kept f (λ r. r) (rest at n k)) ≡ 0 = rw (rest_none at n k z) in
        omega (arith, S.sum, kept_length f g (λ r. r) (rest at n 0))

    module _ (x : A) (e : x ≡ at k) (lt : k < n) (t : Bool) (u : t ≡ f x) where
      pub count_yes : t ≡ true → Counting at f n (c + 1) (k + 1)
      count_yes h =
          let z : length (kept f (λ r. r) (rest at n k)) ≡ suc (length (kept f (λ r. r) (rest at n (k + 1))))
          = ap (λ (rs : List A). length (kept f (λ r. r) rs)) (rest_at at n k x e lt) ∙ ap length (kept_yes f (λ r. r) x _ (sym u ∙ h)) in
          record { more = omega arith; under = omega (arith, S.under); sum = omega (arith, S.sum) }

      pub count_no : t ≡ false → Counting at f n c (k + 1)
      count_no h =
          let z : length (kept f (λ r. r) (rest at n k)) ≡ length (kept f (λ r. r) (rest at n (k + 1)))
          = ap (λ (rs : List A). length (kept f (λ r. r) rs)) (rest_at at n k x e lt) ∙ ap length (kept_no f (λ r. r) x _ (sym u ∙ h)) in
          record { more = omega arith; under = omega (arith, S.under); sum = omega (arith, S.sum) }

-- ---- writing: c rows of w numbers are written, and k of n rows are read
pub record Keeping {A : Type 0} (at : ℕ → A) (f : A → Bool) (g : A → A) (nums : A → List ℕ) (w : ℕ) (m : List ℕ) (n : ℕ) (out : List ℕ) (c k : ℕ) : Type 0 where
  pub more : k ≤ n
  pub fill : Filling (flat nums (kept f g (rest at n 0))) m out (w * c)
  pub left : drop (w * c) (flat nums (kept f g (rest at n 0))) ≡ flat nums (kept f g (rest at n k))

module _ {A : Type 0} (at : ℕ → A) (f : A → Bool) (g : A → A) (nums : A → List ℕ) (w : ℕ) (m : List ℕ) (n : ℕ) where
  pub keep_begin : Keeping at f g nums w m n m 0 0
  keep_begin =
      let z : w * 0 ≡ 0 = omega arith in
      record { more = omega arith; fill = rw z (fill_none _ m); left = rw z }

  module _ (out : List ℕ) (c k : ℕ) (S : Keeping at f g nums w m n out c k) where
    pub keep_end : n ≤ k → out ≡ written (flat nums (kept f g (rest at n 0))) m
    unfolding flat kept
    keep_end z = fill_all (flat nums (kept f g (rest at n 0))) m out (w * c) (S.left ∙ rw (rest_none at n k z)) S.fill

    module _ (x : A) (e : x ≡ at k) (lt : k < n) (t : Bool) (u : t ≡ f x) where
      pub keep_no : t ≡ false → Keeping at f g nums w m n out c (k + 1)
      keep_no h = record { more = omega arith; fill = S.fill; left = S.left ∙ rw (rest_at at n k x e lt, kept_no f g x (rest at n (k + 1)) (sym u ∙ h)) }

      module _ (long : (r : A) → length (nums r) ≡ w) (room : w * length (kept f g (rest at n 0)) ≤ length m) (h : t ≡ true) where
        next : drop (w * c) (flat nums (kept f g (rest at n 0))) ≡ nums (g x) ++ flat nums (kept f g (rest at n (k + 1)))
        unfolding flat
        next = S.left ∙ rw (rest_at at n k x e lt, kept_yes f g x (rest at n (k + 1)) (sym u ∙ h))

        enough : length (flat nums (kept f g (rest at n 0))) ≤ length m
        enough = omega (arith, length_flat nums w long (kept f g (rest at n 0)))

        pub keep_c : length m < 2 ^ 64 → leb 1 w ≡ true → Fits w64 (c + 1)
        keep_c z y =
            let r = fill_room (flat nums (kept f g (rest at n 0))) m out (w * c) w (nums (g x)) _ enough next (long (g x)) S.fill in
            let v : 1 ≤ w = leb-true 1 w y in
            omega (arith, r, S.fill, le-mul_of_pos_right c v)

        pub keep_yes : (y : A) → y ≡ g x → (out' : List ℕ) → out' ≡ put_row w out c (nums y) → Keeping at f g nums w m n out' (c + 1) (k + 1)
        keep_yes y z out' q =
            let F = fill_row (flat nums (kept f g (rest at n 0))) m out w c (nums (g x)) _ enough next (long (g x)) S.fill out' (q ∙ ap (λ (v : A). put_row w out c (nums v)) z) in
            record { more = omega arith; fill = F.0; left = F.1 }
