-- Laws of the stages: 1, 9, 10; 15; 16; 17.
use Rattle.std.specs.List.{list_all}
use Prim.Native.Nat.{ℕ, ◌+◌, ◌-◌, ◌^◌, ◌≤◌, ◌<◌, min}
use mathlib.Core.Path.{◌≡◌, refl}
use mathlib.Core.Bool.{Bool, true, false, ◌&&◌}
use mathlib.Core.List.{List, [], ◌∷◌, map}
use native.Mathlib.Omega.{arith}
use mir.Syntax.{w64}
use mir.Val.{Fits}
use lib.Dec.{leb}
use borrow.Author.Tests.{le-leb, lt-leb}
use Rattle.table.specs.Rows.{rest}
use Rattle.table.proofs.RowLaws.{rest_at, rest_none}
use Rattle.table.specs.declared.CaptureEntry.{CaptureEntry}
use Rattle.table.specs.declared.AnnotationEntry.{AnnotationEntry}
use Rattle.table.specs.Samples.{ascending_from, start_ok, note_ok, all_entries, all_notes, header_sum}
use Rattle.reader_layout.specs.Entries.{entry_at, capture_entries}

-- ---- 15: B is what the whole test says
module _ {A : Type 0} (at : ℕ → A) (f : A → ℕ) (n i s : ℕ) (B : Bool) (b : ascending_from s (map f (rest at n i)) ≡ B) where
  pub up_done : n ≤ i → true ≡ B
  unfolding ascending_from
  up_done g = rw (rest_none at n i g) at b

  module _ (x : A) (q : x ≡ at i) (lt : i < n) (y : ℕ) (z : y ≡ f x) where
    split : leb s y && ascending_from y (map f (rest at n (i + 1))) ≡ B
    unfolding ascending_from
    split = rw z (rw (rest_at at n i x q lt) at b)

    pub up_bad : y < s → false ≡ B
    up_bad h = rw (lt-leb _ _ h) at split

    pub up_on : s ≤ y → ascending_from y (map f (rest at n (i + 1))) ≡ B
    up_on h = rw (le-leb _ _ h) at split

-- ---- 16
pub headers_at : (l : List ℕ) (n i : ℕ) (x : CaptureEntry) → x ≡ entry_at l i → i < n → header_sum (rest (entry_at l) n i) ≡ x.header + header_sum (rest (entry_at l) n (i + 1))
unfolding header_sum
headers_at l n i x q lt = rw (rest_at (entry_at l) n i x q lt)

pub headers_none : (l : List ℕ) (n i : ℕ) → n ≤ i → header_sum (rest (entry_at l) n i) ≡ 0
unfolding header_sum
headers_none l n i h = rw (rest_none (entry_at l) n i h)

pub record Summing (l : List ℕ) (n most h i : ℕ) : Type 0 where
  pub under : h ≤ most
  pub sum : h + header_sum (rest (entry_at l) n i) ≡ header_sum (capture_entries l n)

pub sum_begin : (l : List ℕ) (n most : ℕ) → Summing l n most 0 0
sum_begin l n most = record { under = omega arith; sum = omega arith }

module _ (l : List ℕ) (n most h i : ℕ) (S : Summing l n most h i) where
  pub sum_done : n ≤ i → h ≡ min most (header_sum (capture_entries l n))
  sum_done g = omega (arith, S.under, S.sum, headers_none l n i g)

  module _ (x : CaptureEntry) (q : x ≡ entry_at l i) (lt : i < n) where
    pub sum_over : most - h ≤ x.header → most ≡ min most (header_sum (capture_entries l n))
    sum_over g = omega (arith, S.under, S.sum, headers_at l n i x q lt)

    module _ (g : x.header < most - h) where
      pub sum_fits : most < 2 ^ 64 → Fits w64 (h + x.header)
      sum_fits z = omega (arith, S.under)

      pub sum_on : Summing l n most (h + x.header) (i + 1)
      sum_on = record { under = omega (arith, S.under); sum = omega (arith, S.sum, headers_at l n i x q lt) }

-- ---- 17: B is what the whole test says
module _ {A : Type 0} (at : ℕ → A) (f : A → Bool) (n i : ℕ) (B : Bool) (b : list_all f (rest at n i) ≡ B) where
  pub all_done : n ≤ i → true ≡ B
  all_done g = rw (rest_none at n i g) at b

  module _ (x : A) (q : x ≡ at i) (lt : i < n) (t : Bool) (u : t ≡ f x) where
    all_split : t && list_all f (rest at n (i + 1)) ≡ B
    all_split = rw u (rw (rest_at at n i x q lt) at b)

    pub all_bad : t ≡ false → false ≡ B
    all_bad z = rw z at all_split

    pub all_on : t ≡ true → list_all f (rest at n (i + 1)) ≡ B
    all_on z = rw z at all_split

pub entries_inside : (o e : ℕ) (cs : List CaptureEntry) → list_all (λ (c : CaptureEntry). start_ok o e c.start) cs ≡ all_entries o e cs
unfolding all_entries
entries_inside o e [] = refl
entries_inside o e (c ∷ t) = rw (entries_inside o e t)

pub notes_inside : (o e : ℕ) (ns : List AnnotationEntry) → list_all (note_ok o e) ns ≡ all_notes o e ns
unfolding all_notes
notes_inside o e [] = refl
notes_inside o e (a ∷ t) = rw (notes_inside o e t)
