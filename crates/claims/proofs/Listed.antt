-- The listing of an accepted recording: each present label stands between quotes, so that none is refused with 18, and what is read back off
-- the lent output is what the metadata say.
use Prim.Native.Nat.{ℕ, zero, suc, ◌+◌, ◌-◌, ◌≤◌, ◌<◌}
use mathlib.Core.Path.{◌≡◌, refl, sym, ap, subst, ◌∙◌}
use mathlib.Core.Bool.{Bool, true, false, cond}
use mathlib.Core.List.{List, [], ◌∷◌, ◌++◌, map, append_assoc}
use mathlib.Core.Option.{Option, none, some}
use native.Mathlib.Omega.{arith}
use lib.ListN.{length, get_or, drop, take, length-take, length-drop}
use lib.Seq.{take_at}
use lib.Dec.{eqb, leb}
use borrow.Author.Tests.{le-leb, eq-eqb, ne_eqb}
use Rattle.limits.specs.Limits.{nesting}
use Rattle.json_blocks.specs.TextBytes.{byte}
use Rattle.json_grammar.specs.Grammar.{Between, Multibyte, row2, row3, row4, row5, row6, row7, row8, row9, Text}
use Rattle.json_grammar.specs.Stands.{Stands}
use Rattle.json_grammar.proofs.Stands.{stands_head, stands_inside, stands_tail, stands_right}
use Rattle.json_strings.specs.Decode.{decoded_from, is_body}
use Rattle.json_strings.specs.Meaning.{Means}
use Rattle.json_strings.specs.Utf8.{Utf8, no_text, text, single, several}
use Rattle.json_strings.proofs.Theorem.{body_is_characters, means_decoded, means_characters}
use Rattle.table.specs.declared.Place.{Place}
use Rattle.table.specs.declared.Summary.{Summary}
use Rattle.table.specs.Memory.{written}
use Rattle.table.specs.Table.{well_formed}
use Rattle.table.specs.Rows.{annotation_at, rows_from, flat, captures, annotations, table}
use Rattle.reader.specs.Reading.{read_answer, captures_read, annotations_read}
use Rattle.table.specs.Place.{absent}
use Rattle.listing_labels.specs.Text.{part, stands, text_good}
use Rattle.listing_labels.specs.Label.{label_ok, labels_ok}
use Rattle.listing.specs.Lines.{recording_line, capture_line, annotation_line}
use Rattle.table.specs.declared.Wrote.{Wrote}
use Rattle.table.specs.Wrote.{wrote}
use Rattle.listing.specs.Listing.{listing_of, listing_answer, listing_memory}
use Rattle.listing_lines.specs.Split.{split_lines}
use Rattle.listing_lines.specs.Recover.{label_in, label_text}
use Rattle.listing_lines.proofs.Theorem.{one_line_each, captures_count, label_recovered}
use Rattle.claims_accepted.proofs.Tests.{and_true}
use Rattle.claims_accepted.proofs.ValueLaws.{Each}
use Rattle.claims_accepted.proofs.ValueLaws as E
use Rattle.claims_accepted.proofs.Accepted.{accepted_formed}
use Rattle.claims_derived.specs.Derived.{Node}
use Rattle.claims_derived.specs.Rules.{value}
use Rattle.claims.specs.Demand2.{LabelAt, annotation}
use Rattle.claims.specs.Demand2 as A
use Rattle.claims.specs.Listed.{LabelBack, no_label, label, all_lines, joined, ListedRead}
use Rattle.claims.proofs.Demand2.{demand_2}

-- ---- valid UTF-8 is bytes
abbrev Bytes : List ℕ → Type 0
Bytes s = Each (λ b. b < 256) s

-- a byte between two others, before bytes
between : {lo hi b : ℕ} {t : List ℕ} → Between lo hi b → hi ≤ 255 → Bytes t → Bytes (b ∷ t)
between {lo} {hi} {b} h k r = E.next {x = b} (omega (arith, h.high, k)) r

several_bytes : {c t : List ℕ} → Multibyte c → Bytes t → Bytes (c ++ t)
several_bytes (row2 a b) r = between a (omega arith) (between b (omega arith) r)
several_bytes (row3 b c) r = E.next {x = 0xE0} (omega arith) (between b (omega arith) (between c (omega arith) r))
several_bytes (row4 a b c) r = between a (omega arith) (between b (omega arith) (between c (omega arith) r))
several_bytes (row5 b c) r = E.next {x = 0xED} (omega arith) (between b (omega arith) (between c (omega arith) r))
several_bytes (row6 a b c) r = between a (omega arith) (between b (omega arith) (between c (omega arith) r))
several_bytes (row7 b c d) r = E.next {x = 0xF0} (omega arith) (between b (omega arith) (between c (omega arith) (between d (omega arith) r)))
several_bytes (row8 a b c d) r = between a (omega arith) (between b (omega arith) (between c (omega arith) (between d (omega arith) r)))
several_bytes (row9 b c d) r = E.next {x = 0xF4} (omega arith) (between b (omega arith) (between c (omega arith) (between d (omega arith) r)))

utf8_bytes : {s : List ℕ} → Utf8 s → Bytes s
utf8_bytes no_text = E.nothing
utf8_bytes (text (single {b} h) r) = E.next {x = b} (omega (arith, h)) (utf8_bytes r)
utf8_bytes (text (several m) r) = several_bytes m (utf8_bytes r)

byte_low : (s : List ℕ) → Bytes s → (i : ℕ) → byte s i < 256
byte_low [] E.nothing i = omega arith
byte_low (b ∷ s) (E.next h r) zero = h
byte_low (b ∷ s) (E.next h r) (suc i) = byte_low s r i

-- ---- one label
text_good_lem : (s : List ℕ) (p : Place) → 1 ≤ p.at → byte s (p.at - 1) ≡ 0x22 → byte s (p.at + p.len) ≡ 0x22 → is_body (part s p) ≡ true → text_good s p ≡ true
unfolding text_good stands absent
text_good_lem s p h a b c = rw (ne_eqb p.at 0 (λ z. omega arith), le-leb 1 p.at h, eq-eqb (byte s (p.at - 1)) 0x22 a, eq-eqb (byte s (p.at + p.len)) 0x22 b, c)

module _ (s : List ℕ) where
  quoted_good : (i : ℕ) (p : Place) (j : ℕ) (t : List ℕ) → p.at ≡ i + 1 → Stands s i (0x22 ∷ (part s p ++ (0x22 ∷ []))) j → Means (part s p) t → text_good s p ≡ true
  quoted_good i p j t a q m =
      let x = part s p in
      let r = stands_right s x (0x22 ∷ []) (stands_tail s q) in
      let n : length x ≡ p.len = omega (arith, a, length-take p.len (drop p.at s), length-drop p.at s, stands_inside s r) in
      let z : p.at - 1 ≡ i = omega (arith, a) in
      let y : p.at + p.len ≡ i + 1 + length x = omega (arith, a, n) in
      text_good_lem s p (omega (arith, a)) (ap (byte s) z ∙ stands_head s q) (ap (byte s) y ∙ stands_head s r) ((body_is_characters x).1 (means_characters m))

  label_good : {v : Option Node} {p : Place} → LabelAt s v p → text_good s p ≡ true
  unfolding text_good absent
  label_good A.no_label = refl
  label_good (A.label {n} {p} h a e m) =
      quoted_good n.at p _ _ a (subst (λ (x : List ℕ). Stands s n.at x (n.at + length n.bytes)) e h) m

  label_back : {v : Option Node} {p : Place} → LabelAt s v p → LabelBack v (cond (absent p) none (some (decoded_from (part s p) 0)))
  unfolding absent
  label_back A.no_label = no_label
  label_back (A.label {n} {p} h a e m) = rw (ne_eqb p.at 0 (λ z. omega (arith, a)), means_decoded m) (label e m)

  -- all of them
  rows_good : (notes : List ℕ) (n i : ℕ) → ((k : ℕ) → k < n → label_ok s (annotation_at notes (i + k)) ≡ true) → labels_ok s (rows_from (annotation_at notes) n i) ≡ true
  unfolding labels_ok rows_from
  rows_good notes zero i f = refl
  rows_good notes (suc n) i f =
      let e : i + 0 ≡ i = omega arith in
      and_true _ _ (subst (λ (k : ℕ). label_ok s (annotation_at notes k) ≡ true) e (f 0 (omega arith)))
      (rows_good notes n (suc i) (λ k h. subst (λ (j : ℕ). label_ok s (annotation_at notes j) ≡ true) (sum i k) (f (suc k) (omega arith))))
    where
      sum : (i k : ℕ) → i + suc k ≡ suc i + k
      sum i k = omega arith

-- ---- lines joined, and the line at a place
flat_map : {A : Type 0} (f : A → List ℕ) (rs : List A) → flat (λ l. l) (map f rs) ≡ flat f rs
unfolding flat
flat_map f [] = refl
flat_map f (r ∷ rs) = rw (flat_map f rs)

flat_join : (a b : List (List ℕ)) → flat (λ l. l) (a ++ b) ≡ flat (λ l. l) a ++ flat (λ l. l) b
unfolding flat
flat_join [] b = refl
flat_join (x ∷ a) b = rw (flat_join a b) (sym (append_assoc x (flat (λ l. l) a) (flat (λ l. l) b)))

past : {A : Type 0} (a b : List A) (z : A) (n k : ℕ) → length a ≡ n → get_or (a ++ b) (n + k) z ≡ get_or b k z
past [] b z n k e = ap (λ (i : ℕ). get_or b i z) (omega (arith, e))
past (x ∷ a) b z zero k e = absurd (omega (arith, e))
past (x ∷ a) b z (suc n) k e = subst (λ (i : ℕ). get_or (x ∷ a ++ b) i z ≡ get_or b k z) (sum n k) (past a b z n k (omega (arith, e)))
  where
    sum : (n k : ℕ) → suc (n + k) ≡ suc n + k
    sum n k = omega arith

rows_at : {A B : Type 0} (f : A → B) (at : ℕ → A) (z : B) (n i k : ℕ) → k < n → get_or (map f (rows_from at n i)) k z ≡ f (at (i + k))
unfolding rows_from
rows_at f at z zero i k h = absurd (omega arith)
rows_at f at z (suc n) i zero h = ap (λ (j : ℕ). f (at j)) (omega arith)
rows_at f at z (suc n) i (suc k) h = rows_at f at z n (suc i) k (omega arith) ∙ ap (λ (j : ℕ). f (at j)) (omega arith)

module _ (t : Summary) (caps notes s : List ℕ) where
  joined_is : joined (table t caps notes) s ≡ listing_of (table t caps notes) s
  unfolding listing_of flat
  joined_is =
      flat_join (recording_line t ∷ map capture_line (captures caps t.captures)) (map (annotation_line s) (annotations notes t.annotations))
      ∙ rw (flat_map capture_line (captures caps t.captures), flat_map (annotation_line s) (annotations notes t.annotations))

  joined_lines : split_lines (joined (table t caps notes) s) ≡ all_lines (table t caps notes) s
  joined_lines = ap split_lines joined_is ∙ one_line_each t caps notes s

  -- the line of annotation k
  line_at : (k : ℕ) → k < t.annotations → get_or (all_lines (table t caps notes) s) (1 + t.captures + k) [] ≡ annotation_line s (annotation_at notes k)
  line_at k h =
      let a = recording_line t ∷ map capture_line (captures caps t.captures) in
      past a (map (annotation_line s) (annotations notes t.annotations)) [] (1 + t.captures) k (captures_count t caps notes s) ∙ rows_at (annotation_line s) (annotation_at notes) [] (t.annotations - 0) 0 k (omega (arith, h)) ∙ ap (λ (j : ℕ). annotation_line s (annotation_at notes j)) (omega arith)

  -- a listing that is refused for lack of room alone
  module _ (m : List ℕ) (w : well_formed (table t caps notes) ≡ true) (l : labels_ok s (annotations notes t.annotations) ≡ true) where
    answer_is : listing_answer (table t caps notes) s (length m) ≡ cond (leb (length (joined (table t caps notes) s)) (length m)) (wrote 0 (length (joined (table t caps notes) s))) (wrote 20 0)
    unfolding listing_answer
    answer_is = rw (w, l, joined_is)

    output_is : listing_memory (table t caps notes) s m ≡ cond (leb (length (joined (table t caps notes) s)) (length m)) (written (joined (table t caps notes) s) m) m
    output_is = rw (answer_is, joined_is) (go (leb (length (listing_of (table t caps notes) s)) (length m)))
      where
        go : (b : Bool) → cond (eqb (cond b (wrote 0 (length (listing_of (table t caps notes) s))) (wrote 20 0)).refusal 0) (written (listing_of (table t caps notes) s) m) m
            ≡ cond b (written (listing_of (table t caps notes) s) m) m
        go true = refl
        go false = refl

    lines_are : (listing_answer (table t caps notes) s (length m)).refusal ≡ 0
        → split_lines (take (listing_answer (table t caps notes) s (length m)).count (listing_memory (table t caps notes) s m)) ≡ all_lines (table t caps notes) s
    lines_are e =
        let b = leb (length (joined (table t caps notes) s)) (length m) in
        (λ i. split_lines (take (answer_is i).count (output_is i))) ∙ go b (ap (λ (r : Wrote). r.refusal) (sym answer_is) ∙ e)
      where
        go : (b : Bool) → (cond b (wrote 0 (length (joined (table t caps notes) s))) (wrote 20 0)).refusal ≡ 0
            → split_lines (take (cond b (wrote 0 (length (joined (table t caps notes) s))) (wrote 20 0)).count (cond b (written (joined (table t caps notes) s) m) m)) ≡ all_lines (table t caps notes) s
        go true f = ap split_lines (take_at (joined (table t caps notes) s) (drop (length (joined (table t caps notes) s)) m) _ refl) ∙ joined_lines
        go false f = absurd (omega (arith, f))

-- ---- of an accepted recording
module _ (s : List ℕ) (d : ℕ) (caps notes : List ℕ) (z : (read_answer s d caps notes).refusal ≡ 0) where
  abbrev T : Summary
  T = read_answer s d caps notes

  abbrev C : List ℕ
  C = captures_read s d caps notes

  abbrev N : List ℕ
  N = annotations_read s d caps notes

  label_at : (u : Text nesting s) (k : ℕ) → k < T.annotations → LabelAt s (value "core:label" (annotation u k)) (annotation_at N k).texts.label
  label_at u k h = ((demand_2 s d caps notes).read.rows z u).labels k h

  derived : Text nesting s
  derived = (demand_2 s d caps notes).read.number.text (λ e. omega (arith, z, e)) (λ e. omega (arith, z, e))

  pub labels_stand : labels_ok s (annotations N T.annotations) ≡ true
  labels_stand =
      rows_good s N (T.annotations - 0) 0
      (λ k h. subst (λ (j : ℕ). label_ok s (annotation_at N j) ≡ true) (sum k) (label_good s (label_at derived k (omega (arith, h)))))
    where
      sum : (k : ℕ) → k ≡ 0 + k
      sum k = omega arith

  pub listing_read : (m : List ℕ) → ListedRead s d caps notes m
  unfolding label_text
  listing_read m =
      let w = accepted_formed s d caps notes z in
      record {
        answer = answer_is T C N s m w labels_stand;
        output = output_is T C N s m w labels_stand;
        lines = lines_are T C N s m w labels_stand;
        labels = λ e u k h.
            let b = byte_low s (utf8_bytes ((demand_2 s d caps notes).utf8 u)) in
            let r = annotation_at N k in
            subst (LabelBack (value "core:label" (annotation u k)))
            (sym (ap (λ (ls : List (List ℕ)). label_in (get_or ls (1 + T.captures + k) [])) (lines_are T C N s m w labels_stand e) ∙ ap label_in (line_at T C N s k h) ∙ label_recovered s b r))
            (label_back s (label_at u k h));
      }
