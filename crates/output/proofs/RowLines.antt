-- The texts of rows, one after the other; and what they leave of a room.
use Prim.Native.Nat.{ℕ, ◌+◌, ◌≤◌, ◌<◌}
use mathlib.Core.Path.{◌≡◌, refl, sym, ap, ◌∙◌}
use mathlib.Core.List.{List, [], ◌∷◌, ◌++◌, append-nil}
use lib.ListN.{length, length-append}
use Rattle.std.proofs.lemmas.Bool.Decides.{nat_tests}
use Rattle.table.specs.Rows.{rest, flat}
use Rattle.table.proofs.RowLaws.{rest_at, rest_none}
use Rattle.output.proofs.Writing.{Writes, writes_split, writes_empty}

module _ {A : Type 0} (f : A → List ℕ) (at : ℕ → A) (n k : ℕ) where
  pub lines_more : (x : A) → x ≡ at k → k < n → flat f (rest at n k) ≡ f x ++ flat f (rest at n (k + 1))
  unfolding flat
  lines_more x e h = rw (rest_at at n k x e h)

  pub lines_none : n ≤ k → flat f (rest at n k) ≡ []
  unfolding flat
  lines_none h = rw (rest_none at n k h)

  -- ---- counting
  pub long_more : k < n → length (flat f (rest at n k)) ≡ length (f (at k)) + length (flat f (rest at n (k + 1)))
  long_more h = ap length (lines_more (at k) refl h) ∙ length-append (f (at k)) (flat f (rest at n (k + 1)))

  pub long_none : n ≤ k → length (flat f (rest at n k)) ≡ 0
  long_none h = ap length (lines_none h)

  -- ---- writing: the line of row k is next
  pub write_more : {F m out : List ℕ} {p : ℕ} (x : A) → x ≡ at k → k < n → Writes F m out p (flat f (rest at n k) ∷ []) → Writes F m out p (f x ∷ flat f (rest at n (k + 1)) ∷ [])
  write_more x e h S = writes_split S (record { whole = lines_more x e h ∙ ap (λ (l : List ℕ). f x ++ l) (sym (append-nil (flat f (rest at n (k + 1))))) })

  pub write_none : {F m out : List ℕ} {p : ℕ} → n ≤ k → Writes F m out p (flat f (rest at n k) ∷ []) → Writes F m out p []
  write_none h S = writes_empty S (lines_none h)

-- what a function that counts the lines of rows is proved by
pub ruleset row_lengths = (nat_tests, long_more, long_none)
