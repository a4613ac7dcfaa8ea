-- Lists that a production derives, where they stand in a text, and reads that got on over such a list.
use Rattle.std.specs.Prelude.{None, Option, Some}
use mathlib.Core.Path.{◌≡◌, sym, ap, subst, ◌∙◌}
use mathlib.Core.List.{List, [], ◌∷◌, ◌++◌, append-nil}
use Prim.Native.Nat.{ℕ, suc, ◌≤◌, ◌<◌, ◌+◌}
use native.Mathlib.Omega.{arith}
use lib.ListN.{length, drop, take, drop_of_length-le}
use lib.Seq.{take-append_seam, drop-length}
use Rattle.json_blocks.specs.TextBytes.{byte, to, and_then}
use Rattle.json_blocks.specs.declared.Cursor.{Cursor}
use Rattle.json_blocks.proofs.ByteLaws.{inside}
use Rattle.json_grammar.specs.Stands.{Stands}
use Rattle.json_grammar.proofs.Stands.{stands_one, stands_byte, stands_join, stands_head, stands_inside}

-- a list that P derives stands from i up to j
pub data Derived (P : List ℕ → Type 0) (s : List ℕ) (i j : ℕ) : Type 0 where
  derived : {xs : List ℕ} → P xs → Stands s i xs j → Derived P s i j

-- such a list, and the byte `close` after it
pub data Closed (P : List ℕ → Type 0) (close : ℕ) (s : List ℕ) (i : ℕ) : ℕ → Type 0 where
  closed : {k : ℕ} → Derived P s i k → byte s k ≡ close → Closed P close s i (k + 1)

-- ---- what stands there
module _ {s : List ℕ} where
  pub stands_here : {i b : ℕ} → byte s i ≡ b → 0 < b → Stands s i (b ∷ []) (i + 1)
  stands_here {i} {b} e h = stands_byte s i b e (inside s i b (sym e) h)

  pub stands_cons : {i j b : ℕ} {xs : List ℕ} → byte s i ≡ b → 0 < b → Stands s (i + 1) xs j → Stands s i (b ∷ xs) j
  stands_cons e h p = stands_join s (stands_here e h) p

  -- the byte n places on
  pub stands_at : (i n : ℕ) → i + n < length s → Stands s (i + n) (byte s (i + n) ∷ []) (i + suc n)
  stands_at i n h = subst (λ (j : ℕ). Stands s (i + n) (byte s (i + n) ∷ []) j) (omega arith) (stands_one s (i + n) h)

  pub stands_first : {i j b : ℕ} {xs : List ℕ} → Stands s i (b ∷ xs) j → Stands s i (b ∷ []) (i + 1)
  stands_first {i} {j} {b} p = stands_byte s i b (stands_head s p) (stands_inside s p)

  pub stands_nil : {i j : ℕ} → Stands s i [] j → i ≡ j
  stands_nil p = omega (arith, p.end)

  pub stands_next : {i j b : ℕ} → Stands s i (b ∷ []) j → i + 1 ≡ j
  stands_next p = omega (arith, p.end)

  -- two lists that stand from i up to j are one
  pub stands_same : {i j : ℕ} {xs ys : List ℕ} → Stands s i xs j → Stands s i ys j → xs ≡ ys
  stands_same {i} {j} {xs} {ys} p q =
      let n : length xs ≡ length ys = omega (arith, p.end, q.end) in
      sym (take-append_seam xs (drop j s)) ∙ ap (take (length xs)) (sym p.rest ∙ q.rest) ∙ rw n (take-append_seam ys (drop j s))

  -- a list that stands there to the end is the whole text
  pub stands_whole : {k : ℕ} {xs : List ℕ} → Stands s 0 xs k → length s ≤ k → xs ≡ s
  stands_whole {k} {xs} p h = sym (append-nil xs) ∙ ap (λ (l : List ℕ). xs ++ l) (sym (drop_of_length-le s h)) ∙ sym p.rest

pub stands_all : (s : List ℕ) → Stands s 0 s (length s)
stands_all s = record { end = omega arith; rest = sym (append-nil s) ∙ ap (λ (l : List ℕ). s ++ l) (sym (drop-length s)) }

-- ---- a list after a byte, and after a list
module _ {P : List ℕ → Type 0} {s : List ℕ} {i j : ℕ} where
  pub derived_cons : {b : ℕ} → byte s i ≡ b → 0 < b → Derived (λ ys. P (b ∷ ys)) s (i + 1) j → Derived P s i j
  derived_cons e h (derived p q) = derived p (stands_cons e h q)

  pub derived_after : {k : ℕ} {xs : List ℕ} → Stands s i xs j → Derived (λ ys. P (xs ++ ys)) s j k → Derived P s i k
  derived_after q (derived p r) = derived p (stands_join s q r)

-- ---- what holds of the place that a read got to
pub data Got (P : ℕ → Type 0) : Option Cursor → Type 0 where
  got : {c : Cursor} → P c.at → Got P (Some c)
  not_got : Got P None

pub got_to_lem : {P : ℕ → Type 0} {n : ℕ} → P n → Got P (to n)
got_to_lem {P} {n} p = got {c = record { at = n }} p

pub got_map : {P Q : ℕ → Type 0} {r : (Option Cursor)} → ((j : ℕ) → P j → Q j) → Got P r → Got Q r
got_map f (got {c} p) = got {c = c} (f c.at p)
got_map f not_got = not_got

pub got_then : {P Q : ℕ → Type 0} {r : (Option Cursor)} (f : ℕ → Option Cursor) → Got P r → ((j : ℕ) → P j → Got Q (f j)) → Got Q (and_then r f)
got_then f (got {c} p) g = g c.at p
got_then f not_got g = not_got

pub got_is : {P : ℕ → Type 0} {c : Cursor} → Got P (Some c) → P c.at
got_is (got p) = p
