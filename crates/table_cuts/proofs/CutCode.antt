-- Laws that the proofs of the cut's code cite.
use Prim.Native.Nat.{ℕ, ◌-◌, ◌*◌, ◌/◌, ◌≤◌, ◌<◌, ◌^◌, min, max}
use mathlib.Core.Path.{◌≡◌, refl, sym, ◌∙◌}
use mathlib.Core.Bool.{Bool, true, false}
use mathlib.Core.List.{List}
use native.Mathlib.Omega.{arith}
use native.Mathlib.Nat.{mul-le-mul_right}
use lib.ListN.{length}
use borrow.Author.Tests.{le-leb, lt-leb, ltb-true}
use Rattle.table.specs.declared.Summary.{Summary}
use Rattle.table.specs.Memory.{written}
use Rattle.table.specs.Rows.{capture_width, annotation_width, capture_numbers, annotation_numbers, flat, captures, annotations, table}
use Rattle.table.specs.Table.{well_formed, no_table}
use Rattle.table.proofs.TableLaws.{formed_of}
use Rattle.table_pieces.specs.Pieces.{inside}
use Rattle.table_cuts.specs.Cut.{shares, cut_captures, cut_annotations, cut_summary, cut, cut_in, cut_answer, cut_capture_memory, cut_annotation_memory}
use Rattle.table_pieces.proofs.PiecesLaws.{within}

pub clip_below : (a b s e : ℕ) (t : Bool) → t ≡ shares a b s e → t ≡ true → max a s ≤ b
clip_below a b s e t u f = omega (arith, ltb-true (max a s) (min b e) (sym u ∙ f))

-- ---- the answer, and the memories after it
pub captures_room : (c n L : ℕ) → c ≡ n → c ≤ L / capture_width → capture_width * n ≤ L
captures_room c n L e h = omega arith

pub annotations_room : (c n L : ℕ) → c ≡ n → c ≤ L / annotation_width → annotation_width * n ≤ L
annotations_room c n L e h = omega arith

module _ (t : Summary) (l ns : List ℕ) (a b : ℕ) (m k : List ℕ) (p : Bool) (e : p ≡ well_formed (table t l ns)) where
  pub cut_18 : (r : Summary) → r ≡ no_table 18 → p ≡ false → r ≡ cut_answer (table t l ns) a b (length m) (length k)
  unfolding cut_answer
  cut_18 r z f = rw (sym e ∙ f) z

  pub caps_18 : p ≡ false → m ≡ cut_capture_memory (table t l ns) a b m k
  caps_18 f = rw (← cut_18 (no_table 18) refl f)

  pub notes_18 : p ≡ false → k ≡ cut_annotation_memory (table t l ns) a b m k
  notes_18 f = rw (← cut_18 (no_table 18) refl f)

  module _ (f : p ≡ true) (q : Bool) (g : q ≡ inside t a b) where
    pub cut_19 : (r : Summary) → r ≡ no_table 19 → q ≡ false → r ≡ cut_answer (table t l ns) a b (length m) (length k)
    unfolding cut_answer
    cut_19 r z h = rw (sym e ∙ f, sym g ∙ h) z

    pub caps_19 : q ≡ false → m ≡ cut_capture_memory (table t l ns) a b m k
    caps_19 h = rw (← cut_19 (no_table 19) refl h)

    pub notes_19 : q ≡ false → k ≡ cut_annotation_memory (table t l ns) a b m k
    notes_19 h = rw (← cut_19 (no_table 19) refl h)

    pub cut_up : q ≡ true → a ≤ b
    cut_up h = (within t a b (sym g ∙ h)).up

    pub cut_below : q ≡ true → (b - a) * t.width < 2 ^ 63
    cut_below h =
        let i = within t a b (sym g ∙ h) in
        let k : b - a ≤ t.samples = omega arith in
        omega (arith, (formed_of t l ns p e f).laid, mul-le-mul_right t.width k)

    -- c capture rows and d annotation rows are kept
    module _ (c d : ℕ) (h : q ≡ true) (kc : c ≡ length (cut_captures a b t.width (captures l t.captures))) (kd : d ≡ length (cut_annotations a b (annotations ns t.annotations))) where
      caps_room : c ≤ length m / capture_width → capture_width * length (cut_in (table t l ns) a b).captures ≤ length m
      unfolding cut
      caps_room z = omega arith

      caps_short : length m / capture_width < c → length m < capture_width * length (cut_in (table t l ns) a b).captures
      unfolding cut
      caps_short z = omega arith

      notes_room : d ≤ length k / annotation_width → annotation_width * length (cut_in (table t l ns) a b).annotations ≤ length k
      unfolding cut
      notes_room z = omega arith

      notes_short : length k / annotation_width < d → length k < annotation_width * length (cut_in (table t l ns) a b).annotations
      unfolding cut
      notes_short z = omega arith

      pub cut_20 : (r : Summary) → r ≡ no_table 20 → length m / capture_width < c → r ≡ cut_answer (table t l ns) a b (length m) (length k)
      unfolding cut_answer
      cut_20 r z y = rw (sym e ∙ f, sym g ∙ h, lt-leb _ _ (caps_short y)) z

      pub caps_20 : length m / capture_width < c → m ≡ cut_capture_memory (table t l ns) a b m k
      caps_20 z = rw (← cut_20 (no_table 20) refl z)

      pub notes_20 : length m / capture_width < c → k ≡ cut_annotation_memory (table t l ns) a b m k
      notes_20 z = rw (← cut_20 (no_table 20) refl z)

      module _ (zm : c ≤ length m / capture_width) where
        pub cut_20' : (r : Summary) → r ≡ no_table 20 → length k / annotation_width < d → r ≡ cut_answer (table t l ns) a b (length m) (length k)
        unfolding cut_answer
        cut_20' r z y = rw (sym e ∙ f, sym g ∙ h, le-leb _ _ (caps_room zm), lt-leb _ _ (notes_short y)) z

        pub caps_20' : length k / annotation_width < d → m ≡ cut_capture_memory (table t l ns) a b m k
        caps_20' z = rw (← cut_20' (no_table 20) refl z)

        pub notes_20' : length k / annotation_width < d → k ≡ cut_annotation_memory (table t l ns) a b m k
        notes_20' z = rw (← cut_20' (no_table 20) refl z)

        module _ (zk : d ≤ length k / annotation_width) where
          pub cut_0 : (r : Summary) → r ≡ cut_summary t a b c d → r ≡ cut_answer (table t l ns) a b (length m) (length k)
          unfolding cut_answer cut
          cut_0 r z = rw (sym e ∙ f, sym g ∙ h, le-leb _ _ (caps_room zm), le-leb _ _ (notes_room zk)) (z ∙ rw (kc, kd))

          said : (cut_answer (table t l ns) a b (length m) (length k)).refusal ≡ 0
          unfolding cut_summary
          said = rw (← cut_0 (cut_summary t a b c d) refl) (formed_of t l ns p e f).nums.said

          pub caps_0 : (m' : List ℕ) → m' ≡ written (flat capture_numbers (cut_captures a b t.width (captures l t.captures))) m → m' ≡ cut_capture_memory (table t l ns) a b m k
          unfolding cut
          caps_0 m' y = rw said y

          pub notes_0 : (k' : List ℕ) → k' ≡ written (flat annotation_numbers (cut_annotations a b (annotations ns t.annotations))) k → k' ≡ cut_annotation_memory (table t l ns) a b m k
          unfolding cut
          notes_0 k' y = rw said y
