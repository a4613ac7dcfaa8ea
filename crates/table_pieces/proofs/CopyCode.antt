-- Laws that the proofs of the copy's code cite.
use Prim.Native.Nat.{ℕ, ◌+◌, ◌-◌, ◌*◌, ◌≤◌, ◌<◌}
use mathlib.Core.Path.{◌≡◌, refl, sym, ap, ◌∙◌}
use mathlib.Core.Bool.{Bool, true, false}
use mathlib.Core.List.{List, [], ◌++◌}
use native.Mathlib.Omega.{arith}
use native.Mathlib.Nat.{mul-le-mul_right}
use mir.Syntax.{w64}
use mir.Val.{Fits}
use lib.ListN.{length, take, drop, length-drop}
use lib.Seq.{length-take-le}
use borrow.Author.Tests.{le-leb, lt-leb, eq-eqb, ne_eqb}
use Rattle.table.specs.declared.Summary.{Summary}
use Rattle.table.specs.Memory.{written}
use Rattle.table.specs.Rows.{capture_at, rest, captures, table}
use Rattle.table.specs.Samples.{place}
use Rattle.table.specs.Table.{well_formed}
use Rattle.table.specs.Judge.{Laid}
use Rattle.table.specs.Locate.{place_in}
use Rattle.table.proofs.TableLaws.{formed_of}
use Rattle.table.proofs.Filling.{Filling, fill_none, fill_many, fill_room, fill_all}
use Rattle.table_pieces.specs.declared.Run.{Run}
use Rattle.table.specs.declared.Wrote.{Wrote}
use Rattle.table.specs.Wrote.{wrote}
use Rattle.table_pieces.specs.Pieces.{inside}
use Rattle.table_pieces.specs.Run.{run_from, put_bytes}
use Rattle.table_pieces.specs.Copy.{samples_from, bytes_in, bytes_of, copy_answer, copy_memory}
use Rattle.table_pieces.proofs.Walk.{Walking}
use Rattle.table_pieces.proofs.PiecesLaws.{within, walk_begin, found, run_inside}
use Rattle.table_pieces.proofs.SampleLaws.{bytes_runs, length_bytes}

-- ---- the state of the walk that copies
abbrev samples : List ℕ → List ℕ → ℕ → ℕ → ℕ → ℕ → ℕ → List ℕ
samples l d n o w i b = samples_from (place o w (captures l n)) w d (b - i) i

pub record Copying (l d m : List ℕ) (a b n o w : ℕ) (out : List ℕ) (i h p k : ℕ) : Type 0 where
  pub on : Walking l a b n i h k
  pub fill : Filling (samples l d n o w a b) m out p
  pub left : drop p (samples l d n o w a b) ≡ samples l d n o w i b

module _ (t : Summary) (l d m : List ℕ) (a b : ℕ) (L : Laid t l) (g : length d ≡ t.size) (f : inside t a b ≡ true) where
  pub copy_begin : Copying l d m a b t.captures t.offset t.width m a 0 0 0
  copy_begin = record { on = walk_begin t l a b L f; fill = fill_none _ m; left = refl }

  module _ (out : List ℕ) (i h p k : ℕ) (S : Copying l d m a b t.captures t.offset t.width out i h p k) where
    pub copy_done : b ≤ i → out ≡ written (bytes_in (table t l []) d a b) m
    unfolding samples_from
    copy_done z =
        let e : b - i ≡ 0 = omega arith in
        fill_all (bytes_in (table t l []) d a b) m out p (S.left ∙ rw e) S.fill

    module _ (r : Run) (e : r ≡ run_from b i h k (rest (capture_at l) t.captures k)) (z : i < b) where
      pub run_in : (i - t.offset) * t.width + r.headers + (r.end - i) * t.width ≤ length d
      run_in = omega (arith, run_inside t l a b L f i h k S.on r e z)

      module _ (y : length (bytes_in (table t l []) d a b) ≤ length m) where
        next : drop p (bytes_in (table t l []) d a b)
            ≡ take ((r.end - i) * t.width) (drop ((i - t.offset) * t.width + r.headers) d) ++ samples l d t.captures t.offset t.width r.end b
        unfolding bytes_of
        next =
            S.left ∙ sym (bytes_runs (place_in (table t l [])) t.width d (b - i) i) ∙ ap (bytes_of d) (found t l a b L f i h k S.on r e z).next
            ∙ ap (λ (x : List ℕ). take ((r.end - i) * t.width) (drop ((i - t.offset) * t.width + r.headers) d) ++ x) (bytes_runs (place_in (table t l [])) t.width d (b - r.end) r.end)

        long : length (take ((r.end - i) * t.width) (drop ((i - t.offset) * t.width + r.headers) d)) ≡ (r.end - i) * t.width
        long = length-take-le _ _ (omega (arith, run_in, length-drop ((i - t.offset) * t.width + r.headers) d))

        pub run_room : p + (r.end - i) * t.width ≤ length out
        run_room = fill_room (bytes_in (table t l []) d a b) m out p ((r.end - i) * t.width) (take ((r.end - i) * t.width) (drop ((i - t.offset) * t.width + r.headers) d))
            (samples l d t.captures t.offset t.width r.end b) y next long S.fill

        pub copy_on : (p' : ℕ) (out' : List ℕ) → p' ≡ p + (r.end - i) * t.width → out' ≡ put_bytes out p d ((i - t.offset) * t.width + r.headers) ((r.end - i) * t.width)
            → Copying l d m a b t.captures t.offset t.width out' r.end r.headers p' r.row
        copy_on p' out' u q =
            let F = fill_many (bytes_in (table t l []) d a b) m out p _ _ _ y next long S.fill out' q in
            record { on = (found t l a b L f i h k S.on r e z).on; fill = rw u F.0; left = rw u F.1 }

-- ---- the answer, and the memory after it
module _ (t : Summary) (l ns d : List ℕ) (a b : ℕ) (m : List ℕ) (p : Bool) (e : p ≡ well_formed (table t l ns)) where
  pub copy_18 : (r : Wrote) → r ≡ wrote 18 0 → p ≡ false → r ≡ copy_answer (table t l ns) d a b (length m)
  unfolding copy_answer
  copy_18 r z f = rw (sym e ∙ f) z

  pub kept_18 : p ≡ false → m ≡ copy_memory (table t l ns) d a b m
  kept_18 f = rw (← copy_18 (wrote 18 0) refl f)

  module _ (f : p ≡ true) where
    pub copy_size : (r : Wrote) → r ≡ wrote 18 0 → (length d ≡ t.size → ⊥) → r ≡ copy_answer (table t l ns) d a b (length m)
    unfolding copy_answer
    copy_size r z x = rw (sym e ∙ f, ne_eqb _ _ x) z

    pub kept_size : (length d ≡ t.size → ⊥) → m ≡ copy_memory (table t l ns) d a b m
    kept_size x = rw (← copy_size (wrote 18 0) refl x)

    module _ (x : length d ≡ t.size) (q : Bool) (g : q ≡ inside t a b) where
      pub copy_19 : (r : Wrote) → r ≡ wrote 19 0 → q ≡ false → r ≡ copy_answer (table t l ns) d a b (length m)
      unfolding copy_answer
      copy_19 r z h = rw (sym e ∙ f, eq-eqb _ _ x, sym g ∙ h) z

      pub kept_19 : q ≡ false → m ≡ copy_memory (table t l ns) d a b m
      kept_19 h = rw (← copy_19 (wrote 19 0) refl h)

      module _ (h : q ≡ true) where
        pub copy_up : a ≤ b
        copy_up = (within t a b (sym g ∙ h)).up

        pub copy_fits : Fits w64 ((b - a) * t.width)
        copy_fits =
            let i = within t a b (sym g ∙ h) in
            let k : b - a ≤ t.samples = omega arith in
            omega (arith, (formed_of t l ns p e f).laid, mul-le-mul_right t.width k)

        copy_long : length (bytes_in (table t l []) d a b) ≡ (b - a) * t.width
        copy_long = length_bytes t l d (formed_of t l ns p e f).laid x a b (sym g ∙ h)

        pub copy_room : (b - a) * t.width ≤ length m → length (bytes_in (table t l []) d a b) ≤ length m
        copy_room z = rw copy_long z

        pub copy_20 : (r : Wrote) → r ≡ wrote 20 0 → length m < (b - a) * t.width → r ≡ copy_answer (table t l ns) d a b (length m)
        unfolding copy_answer
        copy_20 r u z =
            let y : length m < length (bytes_in (table t l []) d a b) = rw copy_long z in
            rw (sym e ∙ f, eq-eqb _ _ x, sym g ∙ h, lt-leb _ _ y) u

        pub kept_20 : length m < (b - a) * t.width → m ≡ copy_memory (table t l ns) d a b m
        kept_20 z = rw (← copy_20 (wrote 20 0) refl z)

        pub copy_0 : (b - a) * t.width ≤ length m → wrote 0 ((b - a) * t.width) ≡ copy_answer (table t l ns) d a b (length m)
        unfolding copy_answer
        copy_0 z =
            let y : length (bytes_in (table t l []) d a b) ≤ length m = copy_room z in
            rw (sym e ∙ f, eq-eqb _ _ x, sym g ∙ h, le-leb _ _ y, copy_long)

        pub memory_0 : (b - a) * t.width ≤ length m → (m' : List ℕ) → m' ≡ written (bytes_in (table t l []) d a b) m → m' ≡ copy_memory (table t l ns) d a b m
        memory_0 z m' y = rw (← copy_0 z) y
