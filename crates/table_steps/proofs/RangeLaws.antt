-- What holds of pieces, cuts and copies of a range, for every well-formed table with its dataset.
use Prim.Native.Nat.{ℕ, ◌-◌, ◌*◌, ◌≤◌, ◌<◌}
use mathlib.Core.Path.{◌≡◌, refl, sym, ap, ◌∙◌}
use mathlib.Core.Bool.{Bool, true, false, ◌&&◌, cond}
use mathlib.Core.List.{List, [], ◌++◌}
use mathlib.Core.Logic.{◌⊎◌, ⊎_elim}
use native.Mathlib.Omega.{arith}
use lib.ListN.{length, take}
use lib.Seq.{take-append_seam}
use lib.Dec.{leb, eqb}
use borrow.Author.Tests.{le-leb, lt-leb, leb-true, eq-eqb}
use Rattle.table.specs.declared.Summary.{Summary}
use Rattle.table.specs.Memory.{written}
use Rattle.table.specs.Rows.{capture_width, annotation_width, capture_numbers, annotation_numbers, flat, table, Table}
use Rattle.table.specs.Table.{well_formed, no_table}
use Rattle.table.proofs.Bools.{and_left, and_right, and_false}
use Rattle.table.proofs.RowLaws.{rows_back}
use Rattle.table.proofs.TableLaws.{Formed, Numbers, formed, well_formed_lem}
use Rattle.table.specs.declared.Wrote.{Wrote}
use Rattle.table.specs.Wrote.{wrote}
use Rattle.table_pieces.specs.Pieces.{Piece, piece_width, piece_numbers, piece_of, pieces_read, pieces_in, inside, pieces_answer}
use Rattle.table_cuts.specs.Cut.{Rows, rows_of, cut_in, cut, cut_summary, cut_answer}
use Rattle.table_pieces.specs.Copy.{bytes_in, copy_answer}
use Rattle.table_pieces.proofs.PiecesLaws.{Inside, within, inside_true}
use Rattle.table_pieces.proofs.SampleLaws.{length_bytes}
use Rattle.table_cuts.proofs.CutLaws.{captures_read_lem, annotations_read_lem, cut_formed, cut_again, copy_again}
use Rattle.table_pieces.proofs.Laws.{pieces_follow, pieces_bytes, pieces_samples, samples_pieces, pieces_no_header, pieces_no_trailer, pieces_ascend}
use Rattle.table_steps.specs.Calls.{Held, Call, pieces_call, cut_call, copy_call, pieces_back, cut_back, copy_back, cut_held, the_cut, the_copy}
use Rattle.table_steps.specs.Ranges.{Runs, Pieces, Room, Joined, Cuts, Copies, Outside}
use Rattle.table_steps.proofs.CountLaws.{few_pieces, few_captures_lem, few_annotations_lem}
use Rattle.table_steps.proofs.UniqueLaws.{unique}

-- a well-formed table with its dataset
pub record Ok (s : Held) : Type 0 where
  pub accepted_table : well_formed s.table ≡ true
  pub long : length s.bytes ≡ s.table.summary.size

called : {x x' : Wrote} {m m' : List ℕ} → x ≡ x' → m ≡ m' → ◌≡◌ {A = Call} (record { answer = x; memory = m }) (record { answer = x'; memory = m' })
called u v = λ i. record { answer = u i; memory = v i }

cut_called : {t t' : Summary} {m m' k k' : List ℕ} → t ≡ t' → m ≡ m' → k ≡ k'
    → ◌≡◌ {A = Table} (record { summary = t; captures = m; annotations = k }) (record { summary = t'; captures = m'; annotations = k' })
cut_called u v w = λ i. record { summary = u i; captures = v i; annotations = w i }

-- a call of `cut` whose cut is the table v, and a call of `copy` whose bytes are y
abbrev cut_to : Rows → List ℕ → List ℕ → Summary
cut_to v m k = cond (leb (capture_width * length v.captures) (length m) && leb (annotation_width * length v.annotations) (length k)) v.summary (no_table 20)

abbrev cut_of : Rows → List ℕ → List ℕ → Table
cut_of v m k = record {
  summary = cut_to v m k;
  captures = cond (eqb (cut_to v m k).refusal 0) (written (flat capture_numbers v.captures) m) m;
  annotations = cond (eqb (cut_to v m k).refusal 0) (written (flat annotation_numbers v.annotations) k) k;
}

abbrev copy_of : List ℕ → List ℕ → Call
copy_of y m = record {
  answer = cond (leb (length y) (length m)) (wrote 0 (length y)) (wrote 20 0);
  memory = cond (eqb (cond (leb (length y) (length m)) (wrote 0 (length y)) (wrote 20 0)).refusal 0) (written y m) m;
}

copy_room : (y m : List ℕ) → length y ≤ length m → copy_of y m ≡ record { answer = wrote 0 (length y); memory = written y m }
copy_room y m h = rw (le-leb _ _ h)

-- ---- the answers of a well-formed table, for a range inside and one outside
module _ (t : Summary) (caps notes : List ℕ) (e : well_formed (table t caps notes) ≡ true) (a b : ℕ) where
  module _ (f : inside t a b ≡ true) where
    pieces_room : (m : List ℕ) → 2 * length (pieces_in (table t caps []) a b) ≤ length m → pieces_answer (table t caps notes) a b (length m) ≡ wrote 0 (length (pieces_in (table t caps []) a b))
    unfolding pieces_answer
    pieces_room m h = rw (e, f, le-leb _ _ h)

    pieces_20 : (m : List ℕ) → length m < 2 * length (pieces_in (table t caps []) a b) → pieces_answer (table t caps notes) a b (length m) ≡ wrote 20 0
    unfolding pieces_answer
    pieces_20 m h = rw (e, f, lt-leb _ _ h)

    cut_answer_lem : (m k : List ℕ) → cut_answer (table t caps notes) a b (length m) (length k) ≡ cut_to (cut_in (table t caps notes) a b) m k
    unfolding cut_answer
    cut_answer_lem m k = rw (e, f)

    copy_answer_lem : (d : List ℕ) → length d ≡ t.size → (m : List ℕ) → copy_answer (table t caps notes) d a b (length m) ≡ (copy_of (bytes_in (table t caps []) d a b) m).answer
    unfolding copy_answer
    copy_answer_lem d h m = rw (e, eq-eqb _ _ h, f)

  module _ (f : inside t a b ≡ false) where
    pieces_19 : (m : List ℕ) → pieces_answer (table t caps notes) a b (length m) ≡ wrote 19 0
    unfolding pieces_answer
    pieces_19 m = rw (e, f)

    cut_19 : (m k : List ℕ) → cut_answer (table t caps notes) a b (length m) (length k) ≡ no_table 19
    unfolding cut_answer
    cut_19 m k = rw (e, f)

    copy_19 : (d : List ℕ) → length d ≡ t.size → (m : List ℕ) → copy_answer (table t caps notes) d a b (length m) ≡ wrote 19 0
    unfolding copy_answer
    copy_19 d h m = rw (e, eq-eqb _ _ h, f)

cut_called_lem : (z : Held) → well_formed z.table ≡ true → (a b : ℕ) → inside z.table.summary a b ≡ true
    → (m k : List ℕ) → cut_call z a b m k ≡ cut_of (the_cut z a b) m k
cut_called_lem z e a b f m k = let h = cut_answer_lem z.table.summary z.table.captures z.table.annotations e a b f m k in cut_called h (rw h) (rw h)

module _ (z : Held) (g : Ok z) where
  pub F : Formed z.table.summary z.table.captures z.table.annotations
  F = formed z.table.summary z.table.captures z.table.annotations g.accepted_table

  pub kept : (a b : ℕ) → (the_cut z a b).summary.refusal ≡ 0
  unfolding cut cut_summary
  kept a b = F.nums.said

  module _ (a b : ℕ) (f : inside z.table.summary a b ≡ true) where
    -- ---- pieces
    abbrev ps : List Piece
    ps = pieces_in z.table a b

    pieces_done : (m : List ℕ) → piece_width * length ps ≤ length m → pieces_call z a b m ≡ record { answer = wrote 0 (length ps); memory = written (flat piece_numbers ps) m }
    pieces_done m h = let e = pieces_room z.table.summary z.table.captures z.table.annotations g.accepted_table a b f m h in called e (rw e)

    pieces_short : (m : List ℕ) → length m < piece_width * length ps → pieces_call z a b m ≡ record { answer = wrote 20 0; memory = m }
    pieces_short m h = let e = pieces_20 z.table.summary z.table.captures z.table.annotations g.accepted_table a b f m h in called e (rw e)

    read_back : (qs : List Piece) (m : List ℕ) → pieces_read (flat piece_numbers qs ++ m) (length qs) ≡ qs
    read_back qs m =
        let e : length qs - 0 ≡ length qs = omega arith in
        rw e (rows_back piece_width piece_of piece_numbers (λ p. refl) (λ p. refl) qs m)

    pieces_back_lem : (m : List ℕ) → piece_width * length ps ≤ length m → pieces_back z a b m ≡ ps
    pieces_back_lem m h = ap (λ (c : Call). pieces_read c.memory c.answer.count) (pieces_done m h) ∙ read_back ps _

    pieces_runs : Runs z a b ps
    pieces_runs = record {
      ascending = pieces_ascend z.table.summary z.table.captures z.table.annotations g.accepted_table a b f;
      each = samples_pieces z.table.summary z.table.captures z.table.annotations g.accepted_table a b f;
      only = pieces_samples z.table.summary z.table.captures z.table.annotations g.accepted_table a b f;
    }

    pieces_unique : (qs : List Piece) → Runs z a b qs → qs ≡ ps
    pieces_unique qs R =
        unique qs ps R.ascending pieces_runs.ascending (λ x m. pieces_runs.each x (R.only x m)) (λ x m. R.each x (pieces_runs.only x m))

    pub pieces : Pieces z a b
    pieces = record {
      list = ps;
      runs = pieces_runs;
      unique = pieces_unique;
      bytes = λ d. pieces_bytes z.table.summary z.table.captures d a b;
      no_header = pieces_no_header z.table.summary z.table.captures z.table.annotations g.accepted_table a b f;
      no_trailer = pieces_no_trailer z.table.summary z.table.captures z.table.annotations g.accepted_table a b f;
      few = few_pieces z.table.summary z.table.captures a b f;
      done = pieces_done;
      back = pieces_back_lem;
      short = pieces_short;
    }

    -- memory with room for the runs has room for the pieces
    roomy : (m : List ℕ) → Room z a b m → piece_width * length ps ≤ length m
    roomy m R = rw (pieces_unique R.list R.runs) at R.room

    room_accepts : (m : List ℕ) → Room z a b m → (pieces_call z a b m).answer.refusal ≡ 0
    room_accepts m R = ap (λ (c : Call). c.answer.refusal) (pieces_done m (roomy m R))

    room_back : (m : List ℕ) → Room z a b m → pieces_back z a b m ≡ ps
    room_back m R = pieces_back_lem m (roomy m R)

    -- ---- cuts
    cut_call_lem : (m k : List ℕ) → cut_call z a b m k ≡ cut_of (the_cut z a b) m k
    cut_call_lem m k = cut_called_lem z g.accepted_table a b f m k

    pub cut_is : (m k : List ℕ) → capture_width * length (the_cut z a b).captures ≤ length m → annotation_width * length (the_cut z a b).annotations ≤ length k
        → cut_call z a b m k
        ≡ record { summary = (the_cut z a b).summary; captures = written (flat capture_numbers (the_cut z a b).captures) m; annotations = written (flat annotation_numbers (the_cut z a b).annotations) k }
    cut_is m k h l = cut_call_lem m k ∙ rw (le-leb _ _ h, le-leb _ _ l, kept a b)

    cut_short : (m k : List ℕ) → (length m < capture_width * length (the_cut z a b).captures) ⊎ (length k < annotation_width * length (the_cut z a b).annotations)
        → cut_call z a b m k ≡ record { summary = no_table 20; captures = m; annotations = k }
    cut_short m k h = cut_call_lem m k ∙ ⊎_elim left right h
      where
        left : length m < capture_width * length (the_cut z a b).captures → cut_of (the_cut z a b) m k ≡ record { summary = no_table 20; captures = m; annotations = k }
        left l = rw (lt-leb _ _ l)

        right : length k < annotation_width * length (the_cut z a b).annotations → cut_of (the_cut z a b) m k ≡ record { summary = no_table 20; captures = m; annotations = k }
        right l = rw (lt-leb _ _ l, and_false (leb (capture_width * length (the_cut z a b).captures) (length m)))

    module _ (m k : List ℕ) (e : (cut_call z a b m k).summary.refusal ≡ 0) where
      cut_whole : cut_call z a b m k
          ≡ record { summary = (the_cut z a b).summary; captures = written (flat capture_numbers (the_cut z a b).captures) m; annotations = written (flat annotation_numbers (the_cut z a b).annotations) k }
      cut_whole =
          go (leb (capture_width * length (the_cut z a b).captures) (length m) && leb (annotation_width * length (the_cut z a b).annotations) (length k)) refl
          (sym (ap (λ (c : Table). c.summary.refusal) (cut_call_lem m k)) ∙ e)
        where
          go : (t : Bool) → leb (capture_width * length (the_cut z a b).captures) (length m) && leb (annotation_width * length (the_cut z a b).annotations) (length k) ≡ t
              → (cond t (the_cut z a b).summary (no_table 20)).refusal ≡ 0
              → cut_call z a b m k
              ≡ record { summary = (the_cut z a b).summary; captures = written (flat capture_numbers (the_cut z a b).captures) m; annotations = written (flat annotation_numbers (the_cut z a b).annotations) k }
          go true q u = cut_is m k (leb-true _ _ (and_left _ _ q)) (leb-true _ _ (and_right (leb (capture_width * length (the_cut z a b).captures) (length m)) _ q))
          go false q u = absurd (omega (arith, u))

      cut_back_lem : cut_back z a b m k ≡ the_cut z a b
      cut_back_lem =
          ap rows_of cut_whole
          ∙ (unfold cut in rw (captures_read_lem z.table.summary z.table.captures z.table.annotations m k a b F f, annotations_read_lem z.table.summary z.table.captures z.table.annotations m k a b F f))

      cut_well : well_formed (cut_call z a b m k) ≡ true
      cut_well =
          ap well_formed cut_whole
          ∙ (unfold cut in well_formed_lem _ _ _ (cut_formed z.table.summary z.table.captures z.table.annotations m k a b F f))

      -- a range of the cut
      module _ (c d : ℕ) (p : a ≤ c) (q : c ≤ d) (r : d ≤ b) where
        cut_inside : inside (cut_call z a b m k).summary c d ≡ true
        cut_inside = rw (ap (λ (y : Table). y.summary) cut_whole) (unfold cut cut_summary in inside_true _ c d p q (omega arith))

        -- the cut of the cut, and the copy of the copy
        cut_of_cut : cut c d (cut_back z a b m k) ≡ the_cut z c d
        cut_of_cut =
            ap (λ (y : Table). cut c d (rows_of y)) cut_whole
            ∙ (unfold cut in cut_again z.table.summary z.table.captures z.table.annotations m k a b F f c d p r)

        copy_of_copy : bytes_in (cut_call z a b m k) (the_copy z a b) c d ≡ the_copy z c d
        copy_of_copy =
            ap (λ (y : Table). bytes_in y (the_copy z a b) c d) cut_whole
            ∙ (unfold cut in copy_again z.table.summary z.table.captures z.table.annotations m k a b F f z.bytes g.long c d p q r)

        inner : inside z.table.summary c d ≡ true
        inner = let i = within z.table.summary a b f in inside_true z.table.summary c d (omega (arith, i)) q (omega (arith, i))

    -- ---- copies
    copy_call_lem : (m : List ℕ) → copy_call z a b m ≡ copy_of (the_copy z a b) m
    copy_call_lem m = let e = copy_answer_lem z.table.summary z.table.captures z.table.annotations g.accepted_table a b f z.bytes g.long m in called e (rw e)

    pub copy_is : (m : List ℕ) → length (the_copy z a b) ≤ length m → copy_call z a b m ≡ record { answer = wrote 0 (length (the_copy z a b)); memory = written (the_copy z a b) m }
    copy_is m h = copy_call_lem m ∙ copy_room (the_copy z a b) m h

    copy_short : (m : List ℕ) → length m < length (the_copy z a b) → copy_call z a b m ≡ record { answer = wrote 20 0; memory = m }
    copy_short m h = copy_call_lem m ∙ rw (lt-leb _ _ h)

    pub copy_back_lem : (m : List ℕ) → length (the_copy z a b) ≤ length m → copy_back z a b m ≡ the_copy z a b
    copy_back_lem m h = ap (λ (c : Call). take c.answer.count c.memory) (copy_is m h) ∙ take-append_seam (the_copy z a b) _

    copy_whole : (m : List ℕ) → (copy_call z a b m).answer.refusal ≡ 0 → copy_back z a b m ≡ the_copy z a b
    copy_whole m e = go (leb (length (the_copy z a b)) (length m)) refl (sym (ap (λ (c : Call). c.answer.refusal) (copy_call_lem m)) ∙ e)
      where
        go : (t : Bool) → leb (length (the_copy z a b)) (length m) ≡ t → (cond t (wrote 0 (length (the_copy z a b))) (wrote 20 0)).refusal ≡ 0 → copy_back z a b m ≡ the_copy z a b
        go true q u = copy_back_lem m (leb-true _ _ q)
        go false q u = absurd (omega (arith, u))

    copy_long : length (the_copy z a b) ≡ (b - a) * z.table.summary.width
    copy_long = length_bytes z.table.summary z.table.captures z.bytes F.laid g.long a b f

-- ---- calls on a cut
module _ (z : Held) (g : Ok z) (a b : ℕ) (f : inside z.table.summary a b ≡ true) (m k : List ℕ) (e : (cut_call z a b m k).summary.refusal ≡ 0)
    (c d : ℕ) (p : a ≤ c) (q : c ≤ d) (r : d ≤ b) where
  cut_call_again : (y m' k' : List ℕ) → cut_call (cut_held z a b m k y) c d m' k' ≡ cut_call z c d m' k'
  cut_call_again y m' k' =
      cut_called_lem (cut_held z a b m k y) (cut_well z g a b f m k e) c d (cut_inside z g a b f m k e c d p q r) m' k'
      ∙ ap (λ (v : Rows). cut_of v m' k') (cut_of_cut z g a b f m k e c d p q r) ∙ sym (cut_call_lem z g c d (inner z g a b f m k e c d p q r) m' k')

  copy_call_again : (y : List ℕ) → (copy_call z a b y).answer.refusal ≡ 0 → (y' : List ℕ) → copy_call (cut_held z a b m k (copy_back z a b y)) c d y' ≡ copy_call z c d y'
  copy_call_again y h y' =
      ap (λ (x : List ℕ). copy_call (cut_held z a b m k x) c d y') (copy_whole z g a b f y h)
      ∙ copy_call_lem (cut_held z a b m k (the_copy z a b)) ok c d (cut_inside z g a b f m k e c d p q r) y'
      ∙ ap (λ (x : List ℕ). copy_of x y') (copy_of_copy z g a b f m k e c d p q r)
      ∙ sym (copy_call_lem z g c d (inner z g a b f m k e c d p q r) y')
    where
      ok : Ok (cut_held z a b m k (the_copy z a b))
      ok = record { accepted_table = cut_well z g a b f m k e; long = copy_long z g a b f ∙ sym (ap (λ (y : Table). y.summary.size) (cut_whole z g a b f m k e) ∙ (unfold cut cut_summary in refl)) }

-- ---- the claims
module _ (z : Held) (g : Ok z) where
  pub joined : (a b c : ℕ) → inside z.table.summary a b ≡ true → inside z.table.summary b c ≡ true → (l m n : List ℕ) → Room z a b l → Room z b c m → Room z a c n
      → Joined z a b c l m n
  joined a b c f h l m n P Q R = record {
    first = room_accepts z g a b f l P;
    second = room_accepts z g b c h m Q;
    whole = room_accepts z g a c i n R;
    follow = rw (room_back z g a b f l P, room_back z g b c h m Q, room_back z g a c i n R)
        (pieces_follow z.table.summary z.table.captures a b c (within z.table.summary a b f).up (within z.table.summary b c h).up);
  }
    where
      i : inside z.table.summary a c ≡ true
      i =
          let x = within z.table.summary a b f in
          let y = within z.table.summary b c h in
          inside_true z.table.summary a c x.low (omega (arith, x.up, y.up)) y.high

  module _ (a b : ℕ) (f : inside z.table.summary a b ≡ true) where
    pub cuts : Cuts z a b
    cuts = record {
      few_captures = few_captures_lem z.table.summary z.table.captures z.table.annotations a b;
      few_annotations = few_annotations_lem z.table.summary z.table.captures z.table.annotations a b;
      done = cut_is z g a b f;
      short = cut_short z g a b f;
      back = cut_back_lem z g a b f;
      formed = cut_well z g a b f;
      again = λ m k e d c h p q r. cut_call_again z g a b f m k e c h p q r d;
    }

    pub copies : Copies z a b
    copies = record {
      long = copy_long z g a b f;
      done = λ m h. rw (← copy_long z g a b f) (copy_is z g a b f m (omega (arith, copy_long z g a b f)));
      back = λ m h. copy_back_lem z g a b f m (omega (arith, copy_long z g a b f));
      short = λ m h. copy_short z g a b f m (omega (arith, copy_long z g a b f));
      again = λ m k y e h c d p q r. copy_call_again z g a b f m k e c d p q r y h;
    }

  pub outside : (a b : ℕ) → inside z.table.summary a b ≡ false → Outside z a b
  outside a b f =
      let p = pieces_19 z.table.summary z.table.captures z.table.annotations g.accepted_table a b f in
      let c = cut_19 z.table.summary z.table.captures z.table.annotations g.accepted_table a b f in
      let y = copy_19 z.table.summary z.table.captures z.table.annotations g.accepted_table a b f z.bytes g.long in
      record { pieces = λ m. called (p m) (rw (p m)); cut = λ m k. cut_called (c m k) (rw (c m k)) (rw (c m k)); copy = λ m. called (y m) (rw (y m)) }
