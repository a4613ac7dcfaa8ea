-- Numbers written to the front of lent memory, one part after the other: F is all of them, p of them are written.
use Prim.Native.Nat.{ℕ, ◌+◌, ◌*◌, ◌≤◌}
use mathlib.Core.Path.{◌≡◌, refl, sym, ap, ◌∙◌}
use mathlib.Core.List.{List, [], ◌++◌}
use native.Mathlib.Omega.{arith}
use lib.ListN.{length, take, drop, length-append, length-drop}
use lib.Seq.{drop-drop, drop_at, take_at, take-add, take-length, length-take-le}
use Rattle.table.specs.Memory.{written, put_row}
use Rattle.table.proofs.RowLaws.{put_room}

pub record Filling (F m out : List ℕ) (p : ℕ) : Type 0 where
  pub upto : p ≤ length F
  pub long : length out ≡ length m
  pub front : out ≡ take p F ++ drop p m

pub fill_none : (F m : List ℕ) → Filling F m m 0
fill_none F m = record { upto = omega arith; long = refl; front = refl }

-- q numbers X more
pub fill_many : (F m out : List ℕ) (p q : ℕ) (X T : List ℕ) → length F ≤ length m → drop p F ≡ X ++ T → length X ≡ q → Filling F m out p
    → (out' : List ℕ) → out' ≡ take p out ++ X ++ drop (p + q) out → Filling F m out' (p + q) × (drop (p + q) F ≡ T)
fill_many F m out p q X T h e k S out' z = (record { upto = up; long = long; front = z ∙ rw (first, last, whole) }, after)
  where
    up : p + q ≤ length F
    up = omega (arith, S.upto, simp (length-drop, length-append) at (ap length e))

    pre : length (take p F) ≡ p
    pre = length-take-le p F S.upto

    first : take p out ≡ take p F
    first = rw S.front (take_at (take p F) (drop p m) p pre)

    last : drop (p + q) out ≡ drop (p + q) m
    last = sym (drop-drop q p out) ∙ ap (drop q) (rw S.front (drop_at (take p F) (drop p m) p pre)) ∙ drop-drop q p m

    whole : take p F ++ X ≡ take (p + q) F
    whole = sym (take-add p q F ∙ ap (λ (x : List ℕ). take p F ++ x) (rw e (take_at X T q k)))

    after : drop (p + q) F ≡ T
    after = sym (drop-drop q p F) ∙ rw e (drop_at X T q k)

    long : length out' ≡ length m
    long = rw (z, first, last, whole) (length-append (take (p + q) F) (drop (p + q) m) ∙ omega (arith, up, length-take-le (p + q) F up, length-drop (p + q) m))

-- there is room for them
pub fill_room : (F m out : List ℕ) (p q : ℕ) (X T : List ℕ) → length F ≤ length m → drop p F ≡ X ++ T → length X ≡ q → Filling F m out p → p + q ≤ length out
fill_room F m out p q X T h e k S = omega (arith, S.upto, S.long, simp (length-drop, length-append) at (ap length e))

-- a row X of w numbers more, after c rows
pub fill_row : (F m out : List ℕ) (w c : ℕ) (X T : List ℕ) → length F ≤ length m → drop (w * c) F ≡ X ++ T → length X ≡ w → Filling F m out (w * c)
    → (out' : List ℕ) → out' ≡ put_row w out c X → Filling F m out' (w * (c + 1)) × (drop (w * (c + 1)) F ≡ T)
fill_row F m out w c X T h e k S out' z =
    let n : w * (c + 1) ≡ w * c + w = omega arith in
    rw n (fill_many F m out (w * c) w X T h e k S out' (z ∙ put_room w out c X (fill_room F m out (w * c) w X T h e k S)))

pub fill_all : (F m out : List ℕ) (p : ℕ) → drop p F ≡ [] → Filling F m out p → out ≡ written F m
fill_all F m out p e S =
    let k : p ≡ length F = omega (arith, S, simp length-drop at (ap length e)) in
    S.front ∙ rw (k, take-length F)
