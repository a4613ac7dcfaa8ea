-- Tables that the writer does not refuse with 18: what a reading leaves, and cuts of any.
use mathlib.Core.Path.{◌≡◌, refl, sym, ap, subst, ◌∙◌}
use mathlib.Core.Bool.{Bool, true, false, cond, ◌&&◌, ◌||◌, false≢true}
use mathlib.Core.List.{List, [], ◌∷◌, ◌++◌}
use mathlib.Core.Option.{Option}
use Prim.Native.Nat.{ℕ, ◌+◌, ◌*◌, ◌≤◌}
use native.Mathlib.Omega.{arith}
use lib.ListN.{length, drop, length-append, length-drop}
use lib.Dec.{eqb, leb}
use borrow.Author.Tests.{le-leb}
use Rattle.limits.specs.Limits.{nesting}
use Rattle.json_blocks.specs.TextBytes.{within}
use Rattle.json_grammar.specs.Grammar.{Number, Text}
use Rattle.json_grammar.specs.Stands.{Stands}
use Rattle.json_strings.proofs.Theorem.{stands_part}
use Rattle.json_tokens.specs.Number.{digits_at, integer_at, skip_minus, number_at}
use Rattle.table.specs.declared.Place.{Place}
use Rattle.table.specs.declared.Annotation.{Annotation}
use Rattle.table.specs.declared.Summary.{Summary}
use Rattle.table.specs.Place.{absent}
use Rattle.table.specs.Memory.{written}
use Rattle.table.specs.Rows.{capture_width, capture_numbers, annotation_width, annotation_numbers, flat, Table, table, annotations_of}
use Rattle.table.specs.Table.{well_formed, no_table}
use Rattle.table.proofs.Bools.{and_left, and_right}
use Rattle.table.proofs.TableLaws.{Formed, formed, well_formed_lem}
use Rattle.table_pieces.specs.Pieces.{inside}
use Rattle.table_cuts.specs.Cut.{shares_annotation, clip_annotation, kept, cut_annotations, cut_summary, cut, cut_in, cut_answer}
use Rattle.table_cuts.proofs.CutLaws.{annotations_read_lem, cut_formed}
use Rattle.reader.specs.Reading.{read_answer, table_read}
use Rattle.listing_labels.specs.Text.{part}
use Rattle.listing_labels.specs.Label.{label_ok, labels_ok}
use Rattle.listing_labels.proofs.TextLaws.{part_in}
use Rattle.claims_accepted.proofs.Tests.{and_true}
use Rattle.claims_accepted.proofs.Accepted.{accepted_formed}
use Rattle.claims_derived.specs.Derived.{Node}
use Rattle.claims_derived.specs.Rules.{number_place}
use Rattle.claims.specs.Demand2.{RateAt, no_rate, rate}
use Rattle.claims.proofs.Demand2.{demand_2}
use Rattle.claims.proofs.Listed.{labels_stand}
use Rattle.writer.specs.Writer.{is_number, rate_ok, writable}
use Rattle.claims_written.specs.ReadBack.{table_cut}
use Rattle.claims_written.proofs.Numbers.{number_is}

pub record Writable (t : Table) (s : List ℕ) : Type 0 where
  pub table : well_formed t ≡ true
  pub labels : labels_ok s (annotations_of t) ≡ true
  pub rate : rate_ok s t.summary.rate ≡ true

pub writable_is : (t : Table) (s : List ℕ) → writable t s ≡ true → Writable t s
unfolding writable
writable_is t s e =
    let a = well_formed t in let b = labels_ok s (annotations_of t) in let c = rate_ok s t.summary.rate in
    record { table = and_left a b (and_left (a && b) c e); labels = and_right a b (and_left (a && b) c e); rate = and_right (a && b) c e }

pub is_writable : {t : Table} {s : List ℕ} → Writable t s → writable t s ≡ true
unfolding writable
is_writable z = rw (z.table, z.labels, z.rate)

-- ---- what a reading leaves
none_read : is_number [] ≡ false
unfolding is_number number_at integer_at digits_at skip_minus within
none_read = refl

number_some : (x : List ℕ) → Number x → 1 ≤ length x
number_some [] p = absurd (false≢true (sym none_read ∙ number_is p))
number_some (b ∷ x) p = omega arith

stands_within : {s x : List ℕ} {i j : ℕ} → Stands s i x j → 1 ≤ length x → j ≤ length s
stands_within {s} {x} {i} {j} q h = omega (arith, h, q.end, ap length q.rest, length-append x (drop j s), length-drop i s)

rate_ok_lem : {s : List ℕ} {v : Option Node} {p : Place} → RateAt s v p → rate_ok s p ≡ true
unfolding rate_ok absent
rate_ok_lem no_rate = refl
rate_ok_lem {s} (rate {n} h p) = go (absent (number_place n)) where
  here : part s (number_place n) ≡ n.bytes
  here = sym (part_in s (number_place n)) ∙ stands_part h

  go : (b : Bool) → b || (leb (n.at + length n.bytes) (length s) && is_number (part s (number_place n))) ≡ true
  go true = refl
  go false = rw (le-leb _ _ (stands_within h (number_some n.bytes p)), here) (number_is p)

pub read_writable : (s : List ℕ) (d : ℕ) (caps notes : List ℕ) → (read_answer s d caps notes).refusal ≡ 0 → Writable (table_read s d caps notes) s
read_writable s d caps notes z =
    let u : Text nesting s = (demand_2 s d caps notes).read.number.text (λ e. omega (arith, z, e)) (λ e. omega (arith, z, e)) in
    record {
      table = accepted_formed s d caps notes z;
      labels = labels_stand s d caps notes z;
      rate = rate_ok_lem ((demand_2 s d caps notes).read.summary z u).rate;
    }

-- ---- a cut
labels_kept : (s : List ℕ) (a b : ℕ) (rs : List Annotation) → labels_ok s rs ≡ true → labels_ok s (cut_annotations a b rs) ≡ true
unfolding labels_ok kept
labels_kept s a b [] e = refl
labels_kept s a b (r ∷ t) e =
    let x = label_ok s r in let y = labels_ok s t in
    go (shares_annotation a b r) (and_left x y e) (labels_kept s a b t (and_right x y e))
  where
    go : (c : Bool) → label_ok s r ≡ true → labels_ok s (cut_annotations a b t) ≡ true → labels_ok s (cond c (clip_annotation a b r ∷ []) [] ++ cut_annotations a b t) ≡ true
    go true p q = and_true _ _ p q
    go false p q = q

-- an accepted cut is inside the recording and has room
cut_passed : (w i r : Bool) (t : Summary) → (cond w (cond i (cond r t (no_table 20)) (no_table 19)) (no_table 18)).refusal ≡ 0 → (i ≡ true) × (r ≡ true)
cut_passed true true true t e = (refl, refl)
cut_passed true true false t e = absurd (omega (arith, e))
cut_passed true false r t e = absurd (omega (arith, e))
cut_passed false i r t e = absurd (omega (arith, e))

module _ (t : Table) (s : List ℕ) (z : Writable t s) (a b : ℕ) (m k : List ℕ) (e : (cut_answer t a b (length m) (length k)).refusal ≡ 0) where
  abbrev fits : Bool
  fits = leb (capture_width * length (cut_in t a b).captures) (length m) && leb (annotation_width * length (cut_in t a b).annotations) (length k)

  passed : (inside t.summary a b ≡ true) × (fits ≡ true)
  unfolding cut_answer
  passed = cut_passed (well_formed t) (inside t.summary a b) fits (cut_in t a b).summary e

  answer_is : cut_answer t a b (length m) (length k) ≡ (cut_in t a b).summary
  unfolding cut_answer
  answer_is = rw (z.table, passed.0, passed.1)

  abbrev left : Table
  left = table (cut_in t a b).summary (written (flat capture_numbers (cut_in t a b).captures) m) (written (flat annotation_numbers (cut_in t a b).annotations) k)

  left_is : table_cut t a b m k ≡ left
  left_is =
      λ i. table (answer_is i) (cond (eqb (e i) 0) (written (flat capture_numbers (cut_in t a b).captures) m) m)
      (cond (eqb (e i) 0) (written (flat annotation_numbers (cut_in t a b).annotations) k) k)

  F : Formed t.summary t.captures t.annotations
  F = formed t.summary t.captures t.annotations z.table

  left_writable : Writable left s
  unfolding cut cut_summary
  left_writable = record {
    table = well_formed_lem _ _ _ (cut_formed t.summary t.captures t.annotations m k a b F passed.0);
    labels = ap (labels_ok s) (annotations_read_lem t.summary t.captures t.annotations m k a b F passed.0) ∙ labels_kept s a b (annotations_of t) z.labels;
    rate = z.rate;
  }

  pub cut_writable : Writable (table_cut t a b m k) s
  cut_writable = subst (λ (c : Table). Writable c s) (sym left_is) left_writable
