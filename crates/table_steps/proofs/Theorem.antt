-- Demand 3, for every list of steps on every well-formed table with its dataset.
use Prim.Native.Nat.{ℕ, ◌+◌, ◌*◌, ◌≤◌, ◌<◌}
use mathlib.Core.Path.{◌≡◌, refl, sym, ap, ◌∙◌}
use mathlib.Core.Bool.{Bool, true, false, ◌&&◌, cond}
use mathlib.Core.List.{List, [], ◌∷◌}
use native.Mathlib.Omega.{arith}
use lib.ListN.{length}
use lib.Dec.{leb, eqb}
use borrow.Author.Tests.{leb-true, eq-eqb}
use Rattle.table.specs.declared.Summary.{Summary}
use Rattle.table.specs.Memory.{written}
use Rattle.table.specs.Rows.{capture_width, annotation_width, capture_numbers, annotation_numbers, flat, captures_of, annotations_of, table, Table}
use Rattle.table.specs.Table.{no_table}
use Rattle.table.proofs.Bools.{and_left, and_right}
use Rattle.table.proofs.TableLaws.{well_formed_lem}
use Rattle.table.specs.Wrote.{wrote}
use Rattle.table_pieces.specs.Pieces.{inside}
use Rattle.table_cuts.specs.Cut.{Rows, cut, cut_summary, cut_captures, cut_annotations, cut_answer}
use Rattle.table_pieces.specs.Copy.{copy_answer}
use Rattle.table_pieces.proofs.PiecesLaws.{Inside, within, inside_true}
use Rattle.table_pieces.proofs.SampleLaws.{length_bytes, sample_kept, whole}
use Rattle.table_cuts.proofs.CutLaws.{captures_twice, annotations_twice, captures_read_lem, annotations_read_lem, cut_formed, cut_again, cut_place, copy_again}
use Rattle.table_steps.specs.Calls.{Held, the_cut, the_copy, sample_place, sample_of}
use Rattle.table_steps.specs.Steps.{Step, step_accepted, left, step, run, accepts, Last, none, some, Sizes, sizes, all_sizes, low, high, fits, takes, next, last, model, seen, direct, Demand3}
use Rattle.table_steps.proofs.RangeLaws.{Ok, F, kept, cut_is, copy_back_lem}

-- ---- tests and facts
record Fit (lo hi n m y : ℕ) (k : Sizes) : Type 0 where
  from : lo ≤ k.from
  up : k.from ≤ k.to
  upto : k.to ≤ hi
  caps : capture_width * n ≤ k.capture_room
  notes : annotation_width * m ≤ k.annotation_room
  bytes : y ≤ k.byte_room

fit : (lo hi n m y : ℕ) (k : Sizes) → fits lo hi n m y k ≡ true → Fit lo hi n m y k
unfolding fits
fit lo hi n m y k e =
    let a = leb lo k.from && leb k.from k.to in
    let b = a && leb k.to hi in
    let r = leb (capture_width * n) k.capture_room && leb (annotation_width * m) k.annotation_room in
    let d = and_left (b && r) _ e in
    let c = and_left b r d in
    let f = and_right b r d in
    record {
      from = leb-true _ _ (and_left (leb lo k.from) _ (and_left a _ c));
      up = leb-true _ _ (and_right (leb lo k.from) _ (and_left a _ c));
      upto = leb-true _ _ (and_right a _ c);
      caps = leb-true _ _ (and_left (leb (capture_width * n) k.capture_room) _ f);
      notes = leb-true _ _ (and_right (leb (capture_width * n) k.capture_room) _ f);
      bytes = leb-true _ _ (and_right (b && r) _ e);
    }

fits_ends : (lo hi lo' hi' n m y : ℕ) (k : Sizes) → lo ≡ lo' → hi ≡ hi' → fits lo hi n m y k ≡ fits lo' hi' n m y k
fits_ends lo hi lo' hi' n m y k e f = rw (e, f)

-- needs that agree on ranges in order within lo to hi give one test
fits_same : (lo hi n m y n' m' y' : ℕ) (k : Sizes) → (lo ≤ k.from → k.from ≤ k.to → k.to ≤ hi → (n ≡ n') × (m ≡ m') × (y ≡ y')) → fits lo hi n m y k ≡ fits lo hi n' m' y' k
unfolding fits
fits_same lo hi n m y n' m' y' k f =
    go (leb lo k.from) (leb k.from k.to) (leb k.to hi) (λ p q r. f (leb-true _ _ p) (leb-true _ _ q) (leb-true _ _ r))
  where
    go : (u v w : Bool) → (u ≡ true → v ≡ true → w ≡ true → (n ≡ n') × (m ≡ m') × (y ≡ y'))
        → u && v && w && (leb (capture_width * n) k.capture_room && leb (annotation_width * m) k.annotation_room) && leb y k.byte_room
        ≡ u && v && w && (leb (capture_width * n') k.capture_room && leb (annotation_width * m') k.annotation_room) && leb y' k.byte_room
    go true true true g = rw ((g refl refl refl).0, (g refl refl refl).1, (g refl refl refl).2)
    go true true false g = refl
    go true false w g = refl
    go false v w g = refl

-- ---- one step on a table that is well formed, with its dataset
-- the cut and copy of a to b, with the rows in memories m and q
abbrev pub At : Held → ℕ → ℕ → List ℕ → List ℕ → Held
At s a b m q = record {
  table = record {
    summary = (the_cut s a b).summary;
    captures = written (flat capture_numbers (cut_captures a b s.table.summary.width (captures_of s.table))) m;
    annotations = written (flat annotation_numbers (cut_annotations a b (annotations_of s.table))) q;
  };
  bytes = the_copy s a b;
}

held : {t t' : Summary} {l l' n n' d d' : List ℕ} → t ≡ t' → l ≡ l' → n ≡ n' → d ≡ d'
    → ◌≡◌ {A = Held} (record { table = table t l n; bytes = d }) (record { table = table t' l' n'; bytes = d' })
held u v y x = λ i. record { table = table (u i) (v i) (y i); bytes = x i }

both : (i x y : Bool) (u : Summary) (n : ℕ) → u.refusal ≡ 0
    → eqb (cond i (cond x u (no_table 20)) (no_table 19)).refusal 0 && eqb (cond i (cond y (wrote 0 n) (wrote 20 0)) (wrote 19 0)).refusal 0 ≡ i && x && y
both true true true u n h = rw h
both true true false u n h = rw h
both true false y u n h = refl
both false x y u n h = refl

module _ (s : Held) (g : Ok s) where
  accepted_fits : (k : Step) → step_accepted s k ≡ fits s.table.summary.offset (s.table.summary.offset + s.table.summary.samples) (length (the_cut s k.from k.to).captures)
      (length (the_cut s k.from k.to).annotations) (length (the_copy s k.from k.to)) (sizes k)
  unfolding step_accepted cut_answer copy_answer fits inside
  accepted_fits k = rw (g.accepted_table, eq-eqb _ _ g.long) (both (inside s.table.summary k.from k.to) _ _ (the_cut s k.from k.to).summary _ (kept s g k.from k.to))

  left_is : (k : Step) → inside s.table.summary k.from k.to ≡ true
      → capture_width * length (the_cut s k.from k.to).captures ≤ length k.captures → annotation_width * length (the_cut s k.from k.to).annotations ≤ length k.annotations
      → length (the_copy s k.from k.to) ≤ length k.bytes → left s k ≡ At s k.from k.to k.captures k.annotations
  unfolding left
  left_is k f p q r =
      let e = cut_is s g k.from k.to f k.captures k.annotations p q in
      held (ap (λ (c : Table). c.summary) e) (ap (λ (c : Table). c.captures) e ∙ (unfold cut in refl)) (ap (λ (c : Table). c.annotations) e ∙ (unfold cut in refl))
      (copy_back_lem s g k.from k.to f k.bytes r)

  ok_at : (a b : ℕ) (m q : List ℕ) → inside s.table.summary a b ≡ true → Ok (At s a b m q)
  unfolding cut cut_summary
  ok_at a b m q f = record {
    accepted_table = well_formed_lem _ _ _ (cut_formed s.table.summary s.table.captures s.table.annotations m q a b (F s g) f);
    long = length_bytes s.table.summary s.table.captures s.bytes (F s g).laid g.long a b f;
  }

  -- a cut and copy of a cut and copy is that of the first
  at_at : (a b c d : ℕ) (m q m' q' : List ℕ) → inside s.table.summary a b ≡ true → a ≤ c → c ≤ d → d ≤ b → At (At s a b m q) c d m' q' ≡ At s c d m' q'
  unfolding cut cut_summary
  at_at a b c d m q m' q' f x y z =
      held (ap (λ (v : Rows). v.summary) (cut_again s.table.summary s.table.captures s.table.annotations m q a b (F s g) f c d x z)) captures annotations bytes
    where
      captures : (At (At s a b m q) c d m' q').table.captures ≡ (At s c d m' q').table.captures
      captures = rw (captures_read_lem s.table.summary s.table.captures s.table.annotations m q a b (F s g) f, captures_twice a b c d x z s.table.summary.width (captures_of s.table))

      annotations : (At (At s a b m q) c d m' q').table.annotations ≡ (At s c d m' q').table.annotations
      annotations = rw (annotations_read_lem s.table.summary s.table.captures s.table.annotations m q a b (F s g) f, annotations_twice a b c d x z (annotations_of s.table))

      bytes : (At (At s a b m q) c d m' q').bytes ≡ (At s c d m' q').bytes
      bytes = copy_again s.table.summary s.table.captures s.table.annotations m q a b (F s g) f s.bytes g.long c d x y z

step_no : (s : Held) (k : Step) → step_accepted s k ≡ false → step s k ≡ s
unfolding step
step_no s k e = ap (λ (b : Bool). cond b (left s k) s) e

step_yes : (s : Held) (k : Step) → step_accepted s k ≡ true → step s k ≡ left s k
unfolding step
step_yes s k e = ap (λ (b : Bool). cond b (left s k) s) e

-- ---- what stands for the original z after the last range p
pub record Stands (z : Held) (p : Last) (s : Held) : Type 0 where
  pub ok : Ok s
  pub lo : s.table.summary.offset ≡ low z p
  pub hi : s.table.summary.offset + s.table.summary.samples ≡ high z p
  pub inner : (c d : ℕ) → low z p ≤ c → c ≤ d → d ≤ high z p → inside z.table.summary c d ≡ true
  pub again : (c d : ℕ) (m q : List ℕ) → low z p ≤ c → c ≤ d → d ≤ high z p → At s c d m q ≡ At z c d m q
  pub same : seen s ≡ direct z p
  pub samples : (i : ℕ) → low z p ≤ i → i < high z p → sample_of s i ≡ sample_of z i

module _ (z : Held) (g : Ok z) where
  at_first : Stands z none z
  unfolding low high direct
  at_first = record { ok = g; lo = refl; hi = refl; inner = λ c d p q r. inside_true z.table.summary c d p q r; again = λ c d m q x y w. refl; same = refl; samples = λ i x y. refl }

  at_range : (a b : ℕ) (m q : List ℕ) → inside z.table.summary a b ≡ true → Stands z (some a b) (At z a b m q)
  unfolding low high direct seen cut cut_summary
  at_range a b m q f =
      let i = within z.table.summary a b f in
      record {
        ok = ok_at z g a b m q f;
        lo = refl;
        hi = omega arith;
        inner = λ c d x y w. inside_true z.table.summary c d (omega arith) y (omega arith);
        again = λ c d m' q' x y w. at_at z g a b c d m q m' q' f x y w;
        same = rw (captures_read_lem z.table.summary z.table.captures z.table.annotations m q a b (F z g) f, annotations_read_lem z.table.summary z.table.captures z.table.annotations m q a b (F z g) f);
        samples = λ i x y. rw (cut_place z.table.summary z.table.captures z.table.annotations m q a b (F z g) f i)
            (sample_kept (sample_place z) z.table.summary.width z.bytes a b i x y (whole z.table.summary z.table.captures z.bytes (F z g).laid g.long a b f));
      }

  module _ (p : Last) (s : Held) (S : Stands z p s) (k : Step) where
    needs_same : low z p ≤ k.from → k.from ≤ k.to → k.to ≤ high z p
        → (length (the_cut s k.from k.to).captures ≡ length (the_cut z k.from k.to).captures)
        × (length (the_cut s k.from k.to).annotations ≡ length (the_cut z k.from k.to).annotations)
        × (length (the_copy s k.from k.to) ≡ length (the_copy z k.from k.to))
    unfolding cut cut_summary
    needs_same x y w =
        let e = S.again k.from k.to [] [] x y w in
        (ap (λ (h : Held). h.table.summary.captures) e, ap (λ (h : Held). h.table.summary.annotations) e, ap (λ (h : Held). length h.bytes) e)

    accepted_takes : step_accepted s k ≡ takes z p (sizes k)
    unfolding takes
    accepted_takes = accepted_fits s S.ok k ∙ fits_ends _ _ _ _ _ _ _ (sizes k) S.lo S.hi ∙ fits_same (low z p) (high z p) _ _ _ _ _ _ (sizes k) needs_same

    took : takes z p (sizes k) ≡ true → left s k ≡ At z k.from k.to k.captures k.annotations
    took e =
        let F = fit _ _ _ _ _ (sizes k) (sym (accepted_fits s S.ok k) ∙ accepted_takes ∙ e) in
        left_is s S.ok k (inside_true s.table.summary k.from k.to F.from F.up F.upto) F.caps F.notes F.bytes
        ∙ S.again k.from k.to k.captures k.annotations (omega (arith, F, S.lo)) F.up (omega (arith, F, S.hi))

    took_in : takes z p (sizes k) ≡ true → inside z.table.summary k.from k.to ≡ true
    unfolding takes
    took_in e =
        let F = fit _ _ _ _ _ (sizes k) e in
        S.inner k.from k.to F.from F.up F.upto

    stands_no : takes z p (sizes k) ≡ false → Stands z (next z p (sizes k)) (step s k)
    unfolding next
    stands_no e = rw (e, step_no s k (accepted_takes ∙ e)) S

    stands_yes : takes z p (sizes k) ≡ true → Stands z (next z p (sizes k)) (step s k)
    unfolding next
    stands_yes e = rw (e, step_yes s k (accepted_takes ∙ e), took e) (at_range k.from k.to k.captures k.annotations (took_in e))

    stands : Stands z (next z p (sizes k)) (step s k)
    stands = go (takes z p (sizes k)) refl
      where
        go : (b : Bool) → takes z p (sizes k) ≡ b → Stands z (next z p (sizes k)) (step s k)
        go true e = stands_yes e
        go false e = stands_no e

  bits : (p : Last) (s : Held) → Stands z p s → (ks : List Step) → accepts s ks ≡ model z p (all_sizes ks)
  unfolding accepts model all_sizes
  bits p s S [] = refl
  bits p s S (k ∷ ks) = rw (accepted_takes p s S k, bits (next z p (sizes k)) (step s k) (stands p s S k) ks)

  stood : (p : Last) (s : Held) → Stands z p s → (ks : List Step) → Stands z (last z p (all_sizes ks)) (run s ks)
  unfolding run last all_sizes
  stood p s S [] = S
  stood p s S (k ∷ ks) = stood (next z p (sizes k)) (step s k) (stands p s S k) ks

  -- the one claim about the list
  pub steps : (ks : List Step) → Demand3 z ks
  steps ks =
      let S = stood none z at_first ks in
      record {
        same = bits none z at_first ks;
        end = S.same;
        formed = S.ok.accepted_table;
        long = S.ok.long;
        from = S.lo;
        upto = S.hi;
        samples = S.samples;
      }
