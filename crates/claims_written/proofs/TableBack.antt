-- The rows of a well-formed table, laid out again from what is written of them.
use Rattle.std.specs.Prelude.{Some}
use mathlib.Core.Path.{◌≡◌, refl, sym, ap, ◌∙◌}
use mathlib.Core.Bool.{true, ◌&&◌}
use mathlib.Core.List.{List, [], ◌∷◌, map}
use Prim.Native.Nat.{ℕ, suc, ◌+◌, ◌-◌, ◌<◌, ◌≤◌, ◌^◌}
use native.Mathlib.Omega.{arith}
use lib.ListN.{length}
use lib.Dec.{leb}
use borrow.Author.Tests.{leb-true, le-leb}
use Rattle.table.specs.declared.Capture.{Capture}
use Rattle.table.specs.declared.Annotation.{Annotation}
use Rattle.table.specs.declared.CaptureEntry.{CaptureEntry}
use Rattle.table.specs.declared.AnnotationEntry.{AnnotationEntry}
use Rattle.table.specs.Samples.{header_sum, capture_rows, note_end, annotation_row, ascending_from, ascending, start_ok, all_entries, all_notes}
use Rattle.table.specs.Table.{own_entries, like_capture, all_like, captures_obey}
use Rattle.table.specs.Judge.{captures_ok, annotations_ok}
use Rattle.table.proofs.Bools.{and_left, and_right}
use Rattle.table.proofs.ObeyLaws.{own_rows_lem, captures_obey_lem, note_good}
use Rattle.claims_accepted.proofs.ValueLaws as Y
use Rattle.claims_accepted.proofs.ValueLaws.{Each}
use Rattle.claims_derived.proofs.Nodes.{Both, nothing, next}
use Rattle.claims_written.specs.ReadBack.{SameText, SameAnnotations, no_more, and_next}
use Rattle.claims_written.proofs.Objects.{Small}

-- ---- captures, in order and inside a recording from o to e
starts_same : (rs : List Capture) → map (λ (c : CaptureEntry). c.start) (own_entries rs) ≡ map (λ (r : Capture). r.start) rs
starts_same [] = refl
starts_same (r ∷ t) = ap (λ (k : List ℕ). r.start ∷ k) (starts_same t)

each_small : (o e m : ℕ) (rs : List Capture) → all_entries o e (own_entries rs) ≡ true → e < 2 ^ 64 → header_sum (own_entries rs) ≤ m → m < 2 ^ 64
    → Each (λ r. Small r.start r.header) rs
unfolding all_entries header_sum
each_small o e m [] q x y z = Y.nothing
each_small o e m (r ∷ t) q x y z =
    let a = start_ok o e r.start in let b = all_entries o e (own_entries t) in
    let h = leb-true r.start e (and_right (leb o r.start) (leb r.start e) (and_left a b q)) in
    let u : Small r.start r.header = record { one = omega (arith, h, x); two = omega (arith, y, z) } in
    Y.next u (each_small o e m t (and_right a b q) x (omega (arith, y)) z)

module _ (o e w : ℕ) (rs : List Capture) (q : captures_ok o e w o 0 rs ≡ true) where
  parts : (ascending (map (λ (r : Capture). r.start) rs) ≡ true) × (all_entries o e (own_entries rs) ≡ true) × (all_like like_capture rs (capture_rows o w e 0 (own_entries rs)) ≡ true)
  unfolding captures_obey
  parts =
      let a = ascending (map (λ (r : Capture). r.start) rs) in let b = all_entries o e (own_entries rs) in let c = all_like like_capture rs (capture_rows o w e 0 (own_entries rs)) in
      let z = sym (captures_obey_lem o e w rs) ∙ q in
      (and_left a b (and_left (a && b) c z), and_right a b (and_left (a && b) c z), and_right (a && b) c z)

  pub captures_up_lem : ascending (map (λ (c : CaptureEntry). c.start) (own_entries rs)) ≡ true
  captures_up_lem = ap ascending (starts_same rs) ∙ parts.0

  pub captures_inside : all_entries o e (own_entries rs) ≡ true
  captures_inside = parts.1

  -- the rows are laid out as they were
  pub captures_same : capture_rows o w e 0 (own_entries rs) ≡ rs
  captures_same = own_rows_lem o e w 0 rs parts.2

  pub captures_small : (m : ℕ) → e < 2 ^ 64 → header_sum (own_entries rs) ≤ m → m < 2 ^ 64 → Each (λ r. Small r.start r.header) rs
  captures_small m x y z = each_small o e m rs captures_inside x y z

-- ---- annotations
-- what is read of an annotation, s being the first text and w the one written
pub record NoteRead (s w : List ℕ) (r : Annotation) (a : AnnotationEntry) : Type 0 where
  pub start : a.start ≡ r.start
  pub count : a.count ≡ Some (r.end - r.start)
  pub label : SameText s r.texts.label w a.texts.label

module _ (s w : List ℕ) where
  pub notes_up_lem : (e l lo : ℕ) {rs : List Annotation} {es : List AnnotationEntry} → lo ≤ l → annotations_ok e l rs ≡ true → Both (NoteRead s w) rs es
      → ascending_from lo (map (λ a. a.start) es) ≡ true
  unfolding ascending_from
  notes_up_lem e l lo h q nothing = refl
  notes_up_lem e l lo h q (next {a = r} {k = t} p ps) =
      let c = note_good e l r t q in
      rw (p.start, le-leb lo r.start (omega (arith, h, c.from))) (notes_up_lem e r.start r.start (omega arith) c.then ps)

  pub notes_inside : (o e l : ℕ) {rs : List Annotation} {es : List AnnotationEntry} → o ≤ l → annotations_ok e l rs ≡ true → Both (NoteRead s w) rs es → all_notes o e es ≡ true
  unfolding all_notes
  notes_inside o e l h q nothing = refl
  notes_inside o e l h q (next {a = r} {k = t} p ps) =
      let c = note_good e l r t q in
      rw (p.start, p.count, le-leb o r.start (omega (arith, h, c.from)), le-leb r.start e (omega (arith, c.up, c.upto)), le-leb (r.start + (r.end - r.start)) e (omega (arith, c.up, c.upto)))
      (notes_inside o e r.start (omega (arith, h, c.from)) c.then ps)

  pub notes_same : (e l : ℕ) {rs : List Annotation} {es : List AnnotationEntry} → annotations_ok e l rs ≡ true → Both (NoteRead s w) rs es
      → SameAnnotations s w rs (map (annotation_row e) es)
  notes_same e l q nothing = no_more
  notes_same e l q (next {a = r} {b = x} {k = t} p ps) =
      let c = note_good e l r t q in
      let f : note_end e x.start x.count ≡ r.end = rw (p.start, p.count) (omega (arith, c.up)) in
      and_next (record { start = p.start; end = f; label = p.label }) (notes_same e r.start c.then ps)

pub both_length : {A B : Type 0} {R : A → B → Type 0} {k : List A} {l : List B} → Both R k l → length l ≡ length k
both_length nothing = refl
both_length (next r rs) = ap suc (both_length rs)
