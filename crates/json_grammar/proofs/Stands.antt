-- Laws of lists of bytes that stand in a text.
use mathlib.Core.Path.{◌≡◌, refl, sym, ap, subst, ◌∙◌}
use mathlib.Core.List.{List, [], ◌∷◌, ◌++◌, append_assoc}
use Prim.Native.Nat.{ℕ, ◌<◌, ◌+◌}
use native.Mathlib.Omega.{arith}
use native.Mathlib.Numerals.{add-one}
use lib.ListN.{length, get_or, drop, length-append, length-drop}
use lib.Seq.{drop-cons, drop-drop, drop-append_seam, get_or-drop}
use Rattle.json_blocks.specs.TextBytes.{byte}
use Rattle.json_grammar.specs.Stands.{Stands}

module _ (s : List ℕ) where
  pub stands_none : (i : ℕ) → Stands s i [] i
  stands_none i = record { end = omega arith; rest = refl }

  pub stands_one : (i : ℕ) → i < length s → Stands s i (byte s i ∷ []) (i + 1)
  stands_one i h = record { end = omega arith; rest = rw (add-one i) (drop-cons s i 0 h) }

  pub stands_byte : (i b : ℕ) → byte s i ≡ b → i < length s → Stands s i (b ∷ []) (i + 1)
  stands_byte i b e h = subst (λ (x : ℕ). Stands s i (x ∷ []) (i + 1)) e (stands_one i h)

  pub stands_join : {i j k : ℕ} {xs ys : List ℕ} → Stands s i xs j → Stands s j ys k → Stands s i (xs ++ ys) k
  stands_join {i} {j} {k} {xs} {ys} p q = record {
    end = simp length-append (omega (arith, p.end, q.end));
    rest = p.rest ∙ ap (λ (l : List ℕ). xs ++ l) q.rest ∙ sym (append_assoc xs ys (drop k s));
  }

  -- a part of what stands there stands there
  pub stands_right : {i k : ℕ} (xs ys : List ℕ) → Stands s i (xs ++ ys) k → Stands s (i + length xs) ys k
  stands_right {i} {k} xs ys p = record {
    end = omega (arith, p.end, length-append xs ys);
    rest = sym (drop-drop (length xs) i s) ∙ ap (drop (length xs)) (p.rest ∙ append_assoc xs ys (drop k s)) ∙ drop-append_seam xs (ys ++ drop k s);
  }

  pub stands_left : {i k : ℕ} (xs ys : List ℕ) → Stands s i (xs ++ ys) k → Stands s i xs (i + length xs)
  stands_left {i} {k} xs ys p = record {
    end = refl;
    rest = p.rest ∙ append_assoc xs ys (drop k s) ∙ ap (λ (l : List ℕ). xs ++ l) (sym (stands_right xs ys p).rest);
  }

  pub stands_head : {i j b : ℕ} {xs : List ℕ} → Stands s i (b ∷ xs) j → byte s i ≡ b
  stands_head {i} {j} {b} {xs} p = byte_is
    where
      byte_is : byte s i ≡ b
      byte_is = subst (λ (n : ℕ). get_or s n 0 ≡ b) (omega arith) (sym (get_or-drop i s 0 0) ∙ ap (λ (l : List ℕ). get_or l 0 0) p.rest)

  pub stands_inside : {i j b : ℕ} {xs : List ℕ} → Stands s i (b ∷ xs) j → i < length s
  stands_inside {i} {j} {b} {xs} p =
      let e = ap length p.rest in
      let f = length-drop i s in
      let g = length-append (b ∷ xs) (drop j s) in
      omega arith

  pub stands_tail : {i j b : ℕ} {xs : List ℕ} → Stands s i (b ∷ xs) j → Stands s (i + 1) xs j
  stands_tail {i} {j} {b} {xs} p = stands_right (b ∷ []) xs p
