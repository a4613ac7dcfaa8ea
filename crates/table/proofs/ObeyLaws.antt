-- The rules of rows by themselves, as the code tests them row by row, say that the rows are those of their own starts, headers and counts.
use Prim.Native.Nat.{ℕ, ◌+◌, ◌-◌, ◌*◌, ◌≤◌}
use mathlib.Core.Path.{◌≡◌, refl, sym, ◌∙◌}
use mathlib.Core.Bool.{true, ◌&&◌, false≢true}
use mathlib.Core.List.{List, [], ◌∷◌, map}
use native.Mathlib.Omega.{arith}
use lib.Dec.{leb, eqb}
use borrow.Author.Tests.{le-leb, eq-eqb, leb-true, eqb-true}
use Rattle.table.specs.declared.Capture.{Capture}
use Rattle.table.specs.declared.Annotation.{Annotation}
use Rattle.table.specs.Samples.{next_start, capture_rows, annotation_row, ascending_from, all_entries, all_notes}
use Rattle.table.specs.Table.{own_entries, own_notes, like_capture, like_annotation, all_like, captures_obey, annotations_obey, texts_ok, all_texts}
use Rattle.table.specs.Judge.{capture_ok, captures_ok, annotation_ok, annotations_ok}
use Rattle.table.proofs.Bools.{and_left, and_right, same_test}

-- ---- row by row
pub record RowGood (o e w s h : ℕ) (r : Capture) (t : List Capture) : Type 0 where
  pub from : s ≤ r.start
  pub upto : r.start ≤ e
  pub ends : r.end ≡ next_start e (own_entries t)
  pub first : r.first ≡ (r.start - o) * w + (h + r.header)
  pub then : captures_ok o e w r.start (h + r.header) t ≡ true

pub row_good : (o e w s h : ℕ) (r : Capture) (t : List Capture) → captures_ok o e w s h (r ∷ t) ≡ true → RowGood o e w s h r t
unfolding captures_ok capture_ok
row_good o e w s h r t q =
    let a = and_left (capture_ok o e w s (h + r.header) (next_start e (own_entries t)) r) (captures_ok o e w r.start (h + r.header) t) q in
    let b = and_left (leb s r.start && leb r.start e && eqb r.end (next_start e (own_entries t))) _ a in
    let c = and_left (leb s r.start && leb r.start e) _ b in
    record {
      from = leb-true _ _ (and_left (leb s r.start) _ c);
      upto = leb-true _ _ (and_right (leb s r.start) _ c);
      ends = eqb-true _ _ (and_right (leb s r.start && leb r.start e) _ b);
      first = eqb-true _ _ (and_right (leb s r.start && leb r.start e && eqb r.end (next_start e (own_entries t))) _ a);
      then = and_right (capture_ok o e w s (h + r.header) (next_start e (own_entries t)) r) _ q;
    }

pub row_true : (o e w s h nx : ℕ) (r : Capture) → s ≤ r.start → r.start ≤ e → r.end ≡ nx → r.first ≡ (r.start - o) * w + h → capture_ok o e w s h nx r ≡ true
unfolding capture_ok
row_true o e w s h nx r p q m n = rw (le-leb _ _ p, le-leb _ _ q, eq-eqb _ _ m, eq-eqb _ _ n)

pub rows_true : (o e w s h : ℕ) (r : Capture) (t : List Capture) → capture_ok o e w s (h + r.header) (next_start e (own_entries t)) r ≡ true → captures_ok o e w r.start (h + r.header) t ≡ true
    → captures_ok o e w s h (r ∷ t) ≡ true
unfolding captures_ok
rows_true o e w s h r t u v = rw u v

-- ---- annotations, row by row
pub record NoteGood (e s : ℕ) (r : Annotation) (t : List Annotation) : Type 0 where
  pub from : s ≤ r.start
  pub up : r.start ≤ r.end
  pub upto : r.end ≤ e
  pub texts : texts_ok r.texts ≡ true
  pub then : annotations_ok e r.start t ≡ true

pub note_good : (e s : ℕ) (r : Annotation) (t : List Annotation) → annotations_ok e s (r ∷ t) ≡ true → NoteGood e s r t
unfolding annotations_ok annotation_ok
note_good e s r t q =
    let a = and_left (annotation_ok e s r) (annotations_ok e r.start t) q in
    let b = and_left (leb s r.start && leb r.start r.end && leb r.end e) _ a in
    let c = and_left (leb s r.start && leb r.start r.end) _ b in
    record {
      from = leb-true _ _ (and_left (leb s r.start) _ c);
      up = leb-true _ _ (and_right (leb s r.start) _ c);
      upto = leb-true _ _ (and_right (leb s r.start && leb r.start r.end) _ b);
      texts = and_right (leb s r.start && leb r.start r.end && leb r.end e) _ a;
      then = and_right (annotation_ok e s r) (annotations_ok e r.start t) q;
    }

pub note_true : (e s : ℕ) (r : Annotation) (t : List Annotation) → s ≤ r.start → r.start ≤ r.end → r.end ≤ e → texts_ok r.texts ≡ true → annotations_ok e r.start t ≡ true
    → annotations_ok e s (r ∷ t) ≡ true
unfolding annotations_ok annotation_ok
note_true e s r t p q m n k = rw (le-leb _ _ p, le-leb _ _ q, le-leb _ _ m, n, k)

-- ---- starts
lower : (o s : ℕ) (xs : List ℕ) → ascending_from s xs ≡ true → o ≤ s → ascending_from o xs ≡ true
unfolding ascending_from
lower o s [] e h = refl
lower o s (x ∷ t) e h =
    let k = leb-true s x (and_left (leb s x) _ e) in
    let m : o ≤ x = omega arith in
    rw (le-leb _ _ m) (and_right (leb s x) _ e)

raise : (o x : ℕ) (t : List ℕ) → ascending_from 0 (x ∷ t) ≡ true → o ≤ x → ascending_from o (x ∷ t) ≡ true
unfolding ascending_from
raise o x t e h = rw (le-leb _ _ h) (and_right (leb 0 x) _ e)

-- ---- captures
module _ (o e w : ℕ) where
  record Rows (s h : ℕ) (rs : List Capture) : Type 0 where
    starts : ascending_from s (map (λ (r : Capture). r.start) rs) ≡ true
    inside : all_entries o e (own_entries rs) ≡ true
    same : all_like like_capture rs (capture_rows o w e h (own_entries rs)) ≡ true

  rows_of : (s h : ℕ) (rs : List Capture) → o ≤ s → captures_ok o e w s h rs ≡ true → Rows s h rs
  unfolding ascending_from all_entries all_like capture_rows
  rows_of s h [] b q = record { starts = refl; inside = refl; same = refl }
  rows_of s h (r ∷ t) b q =
      let G = row_good o e w s h r t q in
      let m : o ≤ r.start = omega (arith, G.from) in
      let R = rows_of r.start (h + r.header) t m G.then in
      record {
        starts = rw (le-leb _ _ G.from) R.starts;
        inside = rw (le-leb _ _ m, le-leb _ _ G.upto) R.inside;
        same = rw (eq-eqb _ _ G.ends, eq-eqb _ _ G.first) R.same;
      }

  rows_ok_lem : (s h : ℕ) (rs : List Capture) → Rows s h rs → captures_ok o e w s h rs ≡ true
  unfolding ascending_from all_entries all_like capture_rows
  rows_ok_lem s h [] R = unfold captures_ok in refl
  rows_ok_lem s h (r ∷ t) R =
      let x = r.start in
      let d = like_capture r (record { start = x; end = next_start e (own_entries t); first = (x - o) * w + (h + r.header); header = r.header }) in
      let a = and_left d _ R.same in
      let f = and_left (leb o x && leb x e) _ R.inside in
      rows_true o e w s h r t
      (row_true o e w s (h + r.header) (next_start e (own_entries t)) r (leb-true _ _ (and_left (leb s x) _ R.starts)) (leb-true _ _ (and_right (leb o x) _ f))
      (eqb-true _ _ (and_left (eqb r.end (next_start e (own_entries t))) _ a)) (eqb-true _ _ (and_right (eqb r.end (next_start e (own_entries t))) _ a)))
      (rows_ok_lem x (h + r.header) t (record { starts = and_right (leb s x) _ R.starts; inside = and_right (leb o x && leb x e) _ R.inside; same = and_right d _ R.same }))

  -- rows that end and begin as those of their own starts and headers are those rows
  pub own_rows_lem : (h : ℕ) (rs : List Capture) → all_like like_capture rs (capture_rows o w e h (own_entries rs)) ≡ true → capture_rows o w e h (own_entries rs) ≡ rs
  unfolding all_like capture_rows
  own_rows_lem h [] q = refl
  own_rows_lem h (r ∷ t) q =
      let n = next_start e (own_entries t) in
      let f = (r.start - o) * w + (h + r.header) in
      let a = and_left (eqb r.end n && eqb r.first f) _ q in
      let x = eqb-true r.end n (and_left (eqb r.end n) _ a) in
      let y = eqb-true r.first f (and_right (eqb r.end n) _ a) in
      let z = own_rows_lem (h + r.header) t (and_right (eqb r.end n && eqb r.first f) _ q) in
      λ i. record { start = r.start; end = sym x i; first = sym y i; header = r.header } ∷ z i

  from_first : (rs : List Capture) → ascending_from 0 (map (λ (r : Capture). r.start) rs) ≡ true → all_entries o e (own_entries rs) ≡ true → ascending_from o (map (λ (r : Capture). r.start) rs) ≡ true
  unfolding all_entries
  from_first [] a b = unfold ascending_from in refl
  from_first (r ∷ t) a b =
      raise o r.start (map (λ (q : Capture). q.start) t) a (leb-true _ _ (and_left (leb o r.start) _ (and_left (leb o r.start && leb r.start e) _ b)))

  capture_parts : (rs : List Capture) → captures_obey o e w rs ≡ true
      → (ascending_from 0 (map (λ (r : Capture). r.start) rs) ≡ true) × (all_entries o e (own_entries rs) ≡ true) × (all_like like_capture rs (capture_rows o w e 0 (own_entries rs)) ≡ true)
  unfolding captures_obey
  capture_parts rs z =
      let a = ascending_from 0 (map (λ (r : Capture). r.start) rs) in
      let b = all_entries o e (own_entries rs) in
      let y = and_left (a && b) _ z in
      (and_left a b y, and_right a b y, and_right (a && b) _ z)

  capture_whole : (rs : List Capture) → Rows o 0 rs → captures_obey o e w rs ≡ true
  unfolding captures_obey
  capture_whole rs R = rw (lower 0 o (map (λ (r : Capture). r.start) rs) R.starts (omega arith), R.inside, R.same)

  -- the test by row is the rule
  pub captures_obey_lem : (rs : List Capture) → captures_ok o e w o 0 rs ≡ captures_obey o e w rs
  captures_obey_lem rs = same_test (captures_ok o e w o 0 rs) (captures_obey o e w rs) (λ y. capture_whole rs (rows_of o 0 rs (omega arith) y)) (λ y z. false≢true (sym y ∙ to z))
    where
      to : captures_obey o e w rs ≡ true → captures_ok o e w o 0 rs ≡ true
      to z = let k = capture_parts rs z in rows_ok_lem o 0 rs (record { starts = from_first rs k.0 k.1; inside = k.1; same = k.2 })

-- ---- annotations
module _ (o e : ℕ) where
  record Notes (s : ℕ) (rs : List Annotation) : Type 0 where
    starts : ascending_from s (map (λ (r : Annotation). r.start) rs) ≡ true
    inside : all_notes o e (own_notes rs) ≡ true
    same : all_like like_annotation rs (map (annotation_row e) (own_notes rs)) ≡ true
    texts : all_texts rs ≡ true

  notes_of : (s : ℕ) (rs : List Annotation) → o ≤ s → annotations_ok e s rs ≡ true → Notes s rs
  unfolding ascending_from all_notes all_like all_texts
  notes_of s [] b q = record { starts = refl; inside = refl; same = refl; texts = refl }
  notes_of s (r ∷ t) b q =
      let G = note_good e s r t q in
      let m : o ≤ r.start = omega (arith, G.from) in
      let l : r.start ≤ e = omega (arith, G.up, G.upto) in
      let u : r.end ≡ r.start + (r.end - r.start) = omega (arith, G.up) in
      let v : r.start + (r.end - r.start) ≤ e = omega (arith, G.up, G.upto) in
      let R = notes_of r.start t m G.then in
      record {
        starts = rw (le-leb _ _ G.from) R.starts;
        inside = rw (le-leb _ _ m, le-leb _ _ l, le-leb _ _ v) R.inside;
        same = rw (eq-eqb _ _ u) R.same;
        texts = rw G.texts R.texts;
      }

  notes_ok : (s : ℕ) (rs : List Annotation) → Notes s rs → annotations_ok e s rs ≡ true
  unfolding ascending_from all_notes all_like all_texts
  notes_ok s [] R = unfold annotations_ok in refl
  notes_ok s (r ∷ t) R =
      let x = r.start in
      let y = x + (r.end - x) in
      let u = eqb-true r.end y (and_left (eqb r.end y) _ R.same) in
      let f = and_left (leb o x && leb x e && leb y e) _ R.inside in
      let v = leb-true y e (and_right (leb o x && leb x e) _ f) in
      note_true e s r t (leb-true _ _ (and_left (leb s x) _ R.starts)) (omega (arith, u)) (omega (arith, u, v)) (and_left (texts_ok r.texts) _ R.texts)
      (notes_ok x t (record {
        starts = and_right (leb s x) _ R.starts;
        inside = and_right (leb o x && leb x e && leb y e) _ R.inside;
        same = and_right (eqb r.end y) _ R.same;
        texts = and_right (texts_ok r.texts) _ R.texts;
      }))

  from_note : (rs : List Annotation) → ascending_from 0 (map (λ (r : Annotation). r.start) rs) ≡ true → all_notes o e (own_notes rs) ≡ true
      → ascending_from o (map (λ (r : Annotation). r.start) rs) ≡ true
  unfolding all_notes
  from_note [] a b = unfold ascending_from in refl
  from_note (r ∷ t) a b =
      let x = r.start in
      let n = leb (x + (r.end - x)) e in
      raise o x (map (λ (q : Annotation). q.start) t) a (leb-true _ _ (and_left (leb o x) _ (and_left (leb o x && leb x e) n (and_left (leb o x && leb x e && n) _ b))))

  note_parts : (rs : List Annotation) → annotations_obey o e rs && all_texts rs ≡ true
      → (ascending_from 0 (map (λ (r : Annotation). r.start) rs) ≡ true) × (all_notes o e (own_notes rs) ≡ true) × (all_like like_annotation rs (map (annotation_row e) (own_notes rs)) ≡ true)
      × (all_texts rs ≡ true)
  unfolding annotations_obey
  note_parts rs z =
      let a = ascending_from 0 (map (λ (r : Annotation). r.start) rs) in
      let b = all_notes o e (own_notes rs) in
      let c = all_like like_annotation rs (map (annotation_row e) (own_notes rs)) in
      let x = and_left (a && b && c) _ z in
      let y = and_left (a && b) c x in
      (and_left a b y, and_right a b y, and_right (a && b) c x, and_right (a && b && c) _ z)

  note_whole : (rs : List Annotation) → Notes o rs → annotations_obey o e rs && all_texts rs ≡ true
  unfolding annotations_obey
  note_whole rs R = rw (lower 0 o (map (λ (r : Annotation). r.start) rs) R.starts (omega arith), R.inside, R.same, R.texts)

  -- the test by row is the rule, with places for the texts
  pub annotations_obey_lem : (rs : List Annotation) → annotations_ok e o rs ≡ annotations_obey o e rs && all_texts rs
  annotations_obey_lem rs = same_test (annotations_ok e o rs) (annotations_obey o e rs && all_texts rs) (λ y. note_whole rs (notes_of o rs (omega arith) y)) (λ y z. false≢true (sym y ∙ to z))
    where
      to : annotations_obey o e rs && all_texts rs ≡ true → annotations_ok e o rs ≡ true
      to z = let k = note_parts rs z in notes_ok o rs (record { starts = from_note rs k.0 k.1; inside = k.1; same = k.2; texts = k.3 })
