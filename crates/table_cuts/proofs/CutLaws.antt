-- A cut of a well-formed table is well formed, in whatever memory its rows stand; cutting it again is cutting the first.
use Prim.Native.Nat.{ℕ, ◌+◌, ◌-◌, ◌*◌, ◌≤◌, ◌<◌, min, max}
use mathlib.Core.Path.{◌≡◌, refl, sym, ap, ◌∙◌}
use mathlib.Core.Bool.{Bool, true, false, cond}
use mathlib.Core.List.{List, [], ◌∷◌}
use native.Mathlib.Omega.{arith}
use native.Mathlib.Decide.{dec_le}
use native.Mathlib.Nat.{mul-le-mul_right, add-zero}
use lib.ListN.{length, drop, length-append}
use lib.Dec.{leb, ltb}
use borrow.Author.Tests.{le-ltb, lt-ltb, ltb-false}
use Rattle.table.specs.declared.Capture.{Capture}
use Rattle.table.specs.declared.Annotation.{Annotation}
use Rattle.table.specs.declared.Summary.{Summary}
use Rattle.table.specs.Memory.{written}
use Rattle.table.specs.Rows.{capture_width, annotation_width, capture_numbers, annotation_numbers, flat, captures, annotations, table}
use Rattle.table.specs.Samples.{header_sum, headers_to, place, next_start}
use Rattle.table.specs.Locate.{place_in}
use Rattle.table.specs.Table.{format_ok, own_entries}
use Rattle.table.specs.Judge.{capture_ok, captures_ok, annotations_ok}
use Rattle.table.proofs.ObeyLaws.{RowGood, row_good, row_true, rows_true, NoteGood, note_good, note_true}
use Rattle.table.proofs.RowLaws.{length_flat, captures_back, annotations_back}
use Rattle.table.proofs.TableLaws.{Formed}
use Rattle.table_pieces.specs.Pieces.{inside}
use Rattle.table_cuts.specs.Cut.{shares_capture, shares_annotation, clip_capture, clip_annotation, kept, cut_captures, cut_annotations, cut_summary, Rows, cut, rows_of, cut_in}
use Rattle.table_cuts.proofs.KeepLaws.{kept_yes, kept_no, kept_kept}
use Rattle.table_pieces.specs.Copy.{bytes_in}
use Rattle.table_pieces.proofs.PiecesLaws.{within}
use Rattle.table_pieces.proofs.SampleLaws.{copy_from, whole}

module _ (a b w : ℕ) (r : Capture) (t : List Capture) where
  share : max a r.start < min b r.end → cut_captures a b w (r ∷ t) ≡ clip_capture a b w r ∷ cut_captures a b w t
  share h = kept_yes (shares_capture a b) (clip_capture a b w) r t (lt-ltb _ _ h)

  gone : min b r.end ≤ max a r.start → cut_captures a b w (r ∷ t) ≡ cut_captures a b w t
  gone h = kept_no (shares_capture a b) (clip_capture a b w) r t (le-ltb _ _ h)

-- ---- a cut of a cut
module _ (a b c d : ℕ) (p : a ≤ c) (q : d ≤ b) where
  out : (s e : ℕ) → ltb (max a s) (min b e) ≡ false → ltb (max c s) (min d e) ≡ false
  out s e h = le-ltb (max c s) (min d e) (omega (arith, ltb-false (max a s) (min b e) h))

  starts : (s : ℕ) → max c (max a s) ≡ max c s
  starts s = omega arith

  ends : (e : ℕ) → min d (min b e) ≡ min d e
  ends e = omega arith

  pub captures_twice : (w : ℕ) (rs : List Capture) → cut_captures c d w (cut_captures a b w rs) ≡ cut_captures c d w rs
  captures_twice w = kept_kept (shares_capture a b) (clip_capture a b w) (shares_capture c d) (clip_capture c d w)
      (λ r h. out r.start r.end h) (λ r. rw (starts r.start, ends r.end)) (λ r. rw (starts r.start, ends r.end))

  pub annotations_twice : (rs : List Annotation) → cut_annotations c d (cut_annotations a b rs) ≡ cut_annotations c d rs
  annotations_twice = kept_kept (shares_annotation a b) (clip_annotation a b) (shares_annotation c d) (clip_annotation c d)
      (λ r h. out r.start r.end h) (λ r. rw (starts r.start, ends r.end)) (λ r. rw (starts r.start, ends r.end))

  pub cut_cut : (t : Rows) → cut c d (cut a b t) ≡ cut c d t
  unfolding cut cut_summary
  cut_cut t = rw (captures_twice t.summary.width t.captures, annotations_twice t.annotations)

-- ---- no headers are left
pub no_sum : (a b w : ℕ) (rs : List Capture) → header_sum (own_entries (cut_captures a b w rs)) ≡ 0
no_sum a b w [] = unfold kept header_sum in refl
no_sum a b w (r ∷ t) = go (no_sum a b w t)
  where
    go : header_sum (own_entries (cut_captures a b w t)) ≡ 0 → header_sum (own_entries (cut_captures a b w (r ∷ t))) ≡ 0
    go ih = elim (dec_le (min b r.end) (max a r.start)) [ yes h ↦ rw (gone a b w r t h) ih | no h ↦ rw (share a b w r t (omega arith)) (unfold header_sum in rw ih) ]

pub no_headers : (a b w : ℕ) (rs : List Capture) (j : ℕ) → headers_to (cut_captures a b w rs) j ≡ 0
no_headers a b w [] j = unfold kept headers_to in refl
no_headers a b w (r ∷ t) j = go (no_headers a b w t j)
  where
    go : headers_to (cut_captures a b w t) j ≡ 0 → headers_to (cut_captures a b w (r ∷ t)) j ≡ 0
    go ih = elim (dec_le (min b r.end) (max a r.start)) [ yes h ↦ rw (gone a b w r t h) ih | no h ↦ some (omega arith) ]
      where
        zeros : (z : Bool) → cond z 0 0 + headers_to (cut_captures a b w t) j ≡ 0
        zeros true = omega arith
        zeros false = omega arith

        some : max a r.start < min b r.end → headers_to (cut_captures a b w (r ∷ t)) j ≡ 0
        some h = rw (share a b w r t h) (unfold headers_to in zeros (leb (max a r.start) j))

-- ---- a cut of captures in order is in order
next_ge : (o e w s h : ℕ) (t : List Capture) → captures_ok o e w s h t ≡ true → s ≤ e → s ≤ next_start e (own_entries t)
unfolding next_start
next_ge o e w s h [] q k = k
next_ge o e w s h (r ∷ t) q k = (row_good o e w s h r t q).from

next_cut : (o e w a b s h : ℕ) (t : List Capture) → captures_ok o e w s h t ≡ true → b ≤ e → a < next_start e (own_entries t) → next_start b (own_entries (cut_captures a b w t)) ≡ min b (next_start e (own_entries t))
unfolding next_start
next_cut o e w a b s h [] q k l = unfold kept in omega arith
next_cut o e w a b s h (r ∷ t) q k l = go (next_cut o e w a b r.start (h + r.header) t (row_good o e w s h r t q).then k)
  where
    go : (a < next_start e (own_entries t) → next_start b (own_entries (cut_captures a b w t)) ≡ min b (next_start e (own_entries t))) → next_start b (own_entries (cut_captures a b w (r ∷ t))) ≡ min b r.start
    go ih = elim (dec_le (min b r.end) (max a r.start)) [ yes g ↦ dropped g | no g ↦ kept' (omega arith) ]
      where
        G : RowGood o e w s h r t
        G = row_good o e w s h r t q

        kept' : max a r.start < min b r.end → next_start b (own_entries (cut_captures a b w (r ∷ t))) ≡ min b r.start
        kept' g = rw (share a b w r t g) (omega arith)

        dropped : min b r.end ≤ max a r.start → next_start b (own_entries (cut_captures a b w (r ∷ t))) ≡ min b r.start
        dropped g =
            let n = next_ge o e w r.start (h + r.header) t G.then G.upto in
            rw (gone a b w r t g) (ih (omega arith) ∙ omega (arith, G))

captures_in_order : (o e w a b s h s' : ℕ) (rs : List Capture) → captures_ok o e w s h rs ≡ true → b ≤ e → s' ≤ max a s → captures_ok a b w s' 0 (cut_captures a b w rs) ≡ true
captures_in_order o e w a b s h s' [] q k l = unfold kept captures_ok in refl
captures_in_order o e w a b s h s' (r ∷ t) q k l =
    go (λ z g. captures_in_order o e w a b r.start (h + r.header) z t (row_good o e w s h r t q).then k g)
  where
    G : RowGood o e w s h r t
    G = row_good o e w s h r t q

    go : ((z : ℕ) → z ≤ max a r.start → captures_ok a b w z 0 (cut_captures a b w t) ≡ true) → captures_ok a b w s' 0 (cut_captures a b w (r ∷ t)) ≡ true
    go ih = elim (dec_le (min b r.end) (max a r.start)) [ yes g ↦ dropped g | no g ↦ kept' (omega arith) ]
      where
        dropped : min b r.end ≤ max a r.start → captures_ok a b w s' 0 (cut_captures a b w (r ∷ t)) ≡ true
        dropped g = rw (gone a b w r t g) (ih s' (omega (arith, G)))

        kept' : max a r.start < min b r.end → captures_ok a b w s' 0 (cut_captures a b w (r ∷ t)) ≡ true
        kept' g =
            let n : next_start b (own_entries (cut_captures a b w t)) ≡ min b r.end = rw G.ends (next_cut o e w a b r.start (h + r.header) t G.then k (omega (arith, G))) in
            let v : capture_ok a b w s' (0 + 0) (next_start b (own_entries (cut_captures a b w t))) (clip_capture a b w r) ≡ true
            = row_true a b w s' (0 + 0) _ (clip_capture a b w r) (omega (arith, G)) (omega arith) (sym n) (omega arith) in
            rw (share a b w r t g) (rows_true a b w s' 0 (clip_capture a b w r) (cut_captures a b w t) v (ih (max a r.start) (omega arith)))

-- ---- a cut of annotations in order is in order

annotations_in_order : (e a b s s' : ℕ) (rs : List Annotation) → annotations_ok e s rs ≡ true → s' ≤ max a s → annotations_ok b s' (cut_annotations a b rs) ≡ true
annotations_in_order e a b s s' [] q l = unfold kept annotations_ok in refl
annotations_in_order e a b s s' (r ∷ t) q l = go (λ z g. annotations_in_order e a b r.start z t (note_good e s r t q).then g)
  where
    G : NoteGood e s r t
    G = note_good e s r t q

    go : ((z : ℕ) → z ≤ max a r.start → annotations_ok b z (cut_annotations a b t) ≡ true) → annotations_ok b s' (cut_annotations a b (r ∷ t)) ≡ true
    go ih = elim (dec_le (min b r.end) (max a r.start)) [ yes g ↦ dropped g | no g ↦ kept' (omega arith) ]
      where
        dropped : min b r.end ≤ max a r.start → annotations_ok b s' (cut_annotations a b (r ∷ t)) ≡ true
        dropped g = rw (kept_no (shares_annotation a b) (clip_annotation a b) r t (le-ltb _ _ g)) (ih s' (omega (arith, G)))

        kept' : max a r.start < min b r.end → annotations_ok b s' (cut_annotations a b (r ∷ t)) ≡ true
        kept' g = rw (kept_yes (shares_annotation a b) (clip_annotation a b) r t (lt-ltb _ _ g))
            (note_true b s' (clip_annotation a b r) (cut_annotations a b t) (omega (arith, G)) (omega arith) (omega arith) G.texts (ih (max a r.start) (omega arith)))

-- ---- the cut of a table; m and k are the lent memories for captures and annotations
format_stays : (t : Summary) (a b n m : ℕ) → format_ok t ≡ true → format_ok (cut_summary t a b n m) ≡ true
unfolding format_ok cut_summary
format_stays t a b n m e = e

module _ (t : Summary) (caps notes m k : List ℕ) (a b : ℕ) (F : Formed t caps notes) (f : inside t a b ≡ true) where
  abbrev pub C : List Capture
  C = cut_captures a b t.width (captures caps t.captures)

  abbrev pub N : List Annotation
  N = cut_annotations a b (annotations notes t.annotations)

  -- what stands in the lent memory is read back as the cut's rows
  pub captures_read_lem : captures (written (flat capture_numbers C) m) (cut_in (table t caps notes) a b).summary.captures ≡ C
  unfolding cut cut_summary
  captures_read_lem = captures_back C (drop (length (flat capture_numbers C)) m)

  pub annotations_read_lem : annotations (written (flat annotation_numbers N) k) (cut_in (table t caps notes) a b).summary.annotations ≡ N
  unfolding cut cut_summary
  annotations_read_lem = annotations_back N (drop (length (flat annotation_numbers N)) k)

  small : (b - a) * t.width ≤ t.size
  small =
      let i = within t a b f in
      let k : b - a ≤ t.samples = omega arith in
      omega (arith, mul-le-mul_right t.width k, F.laid)

  upto : a + (b - a) ≡ b
  upto = omega (arith, within t a b f)

  pub cut_formed : Formed (cut_in (table t caps notes) a b).summary (written (flat capture_numbers C) m) (written (flat annotation_numbers N) k)
  unfolding cut cut_summary
  cut_formed =
      let i = within t a b f in
      record {
        nums = record { said = F.nums.said; format = format_stays t a b (length C) (length N) F.nums.format; wide = F.nums.wide; small = omega (arith, small, F.nums); ends = omega (arith, i, F.nums); rate = F.nums.rate };
        laid = record {
          fit = omega (arith, length-append (flat capture_numbers C) (drop (length (flat capture_numbers C)) m), length_flat capture_numbers capture_width (λ r. refl) C);
          total = rw (captures_read_lem, no_sum a b t.width (captures caps t.captures)) (omega arith);
          small = omega (arith, small, F.nums);
          ends = omega (arith, i, F.nums);
          in_order = rw (upto, captures_read_lem) (captures_in_order t.offset (t.offset + t.samples) t.width a b t.offset 0 a (captures caps t.captures) F.laid.in_order i.high (omega arith));
        };
        noted = omega (arith, length-append (flat annotation_numbers N) (drop (length (flat annotation_numbers N)) k), length_flat annotation_numbers annotation_width (λ r. refl) N);
        in_order = rw (upto, annotations_read_lem) (annotations_in_order (t.offset + t.samples) a b t.offset a (annotations notes t.annotations) F.in_order (omega arith));
      }

  -- cutting what was cut is cutting the first
  pub cut_again : (c d : ℕ) → a ≤ c → d ≤ b → cut_in (table (cut_in (table t caps notes) a b).summary (written (flat capture_numbers C) m) (written (flat annotation_numbers N) k)) c d ≡ cut_in (table t caps notes) c d
  unfolding cut cut_summary
  cut_again c d p q =
      ap (λ (rs : List Capture). cut c d (record { summary = (cut_in (table t caps notes) a b).summary; captures = rs; annotations = annotations (written (flat annotation_numbers N) k) (cut_in (table t caps notes) a b).summary.annotations })) captures_read_lem
      ∙ ap (λ (rs : List Annotation). cut c d (record { summary = (cut_in (table t caps notes) a b).summary; captures = C; annotations = rs })) annotations_read_lem
      ∙ cut_cut a b c d p q (rows_of (table t caps notes))

  -- in the cut sample j starts at (j − a)·W
  pub cut_place : (j : ℕ) → place_in (table (cut_in (table t caps notes) a b).summary (written (flat capture_numbers C) m) []) j ≡ (j - a) * t.width
  unfolding place cut cut_summary
  cut_place j = rw (captures_read_lem, no_headers a b t.width (captures caps t.captures) j, add-zero)

  -- copying what was copied is copying the first
  pub copy_again : (d : List ℕ) → length d ≡ t.size → (c e : ℕ) → a ≤ c → c ≤ e → e ≤ b
      → bytes_in (table (cut_in (table t caps notes) a b).summary (written (flat capture_numbers C) m) []) (bytes_in (table t caps []) d a b) c e ≡ bytes_in (table t caps []) d c e
  unfolding cut cut_summary
  copy_again d long c e p q r =
      copy_from (place_in (table t caps [])) t.width d (place_in (table (cut_in (table t caps notes) a b).summary (written (flat capture_numbers C) m) [])) a b (e - c) c p (omega arith)
      (whole t caps d F.laid long a b f) (λ j x y. cut_place j)
