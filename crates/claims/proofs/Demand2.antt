-- Demand 2 holds of the reader's answers.
use Prim.Native.Nat.{ℕ, zero, suc, ◌+◌, ◌-◌, ◌≤◌, ◌<◌}
use mathlib.Core.Path.{◌≡◌, refl, sym, ap, subst, ◌∙◌}
use mathlib.Core.Bool.{Bool, true, false, false≢true}
use mathlib.Core.List.{List, [], ◌∷◌, ◌++◌, append-nil}
use mathlib.Core.Option.{Option, none, some}
use native.Mathlib.Omega.{arith}
use lib.ListN.{length, get_or, take, drop, length-append, length-map, get_or-map}
use lib.Seq.{take_at}
use lib.Dec.{eqb}
use borrow.Author.Tests.{ne_eqb, eqb-true, eqb-false}
use Rattle.limits.specs.Limits.{nesting}
use Rattle.json_grammar.specs.Grammar.{Text}
use Rattle.json_grammar.specs.ByPlace.{is_json}
use Rattle.json_grammar.specs.Stands.{Stands}
use Rattle.json_grammar.proofs.Stands.{stands_tail, stands_left}
use Rattle.json_grammar.proofs.Theorem.{json_is_grammar}
use Rattle.json_strings.specs.Meaning.{Means}
use Rattle.json_strings.proofs.TextUtf8.{text_utf8}
use Rattle.sigmf_values.specs.declared.FieldType.TheVariants as T
use Rattle.refusals.specs.Refusals.{Rule, rule, lowest, ByRules}
use Rattle.refusals.proofs.RuleLaws.{rising, Agree, over, step, lowest_by, skip, stop, never}
use Rattle.table.specs.declared.Capture.{Capture}
use Rattle.table.specs.declared.Annotation.{Annotation}
use Rattle.table.specs.declared.Summary.{Summary}
use Rattle.table.specs.Place.{nowhere}
use Rattle.table.specs.Memory.{written}
use Rattle.table.specs.Rows.{capture_numbers, annotation_numbers, capture_at, annotation_at, rows_from, rest, flat, captures, annotations}
use Rattle.table.specs.Table.{no_table}
use Rattle.reader_layout.specs.Layout.{Contents, end_index, too_many, summary_in, captures_in, annotations_in}
use Rattle.table.specs.Samples.{annotation_row}
use Rattle.reader.specs.Reading as L
use Rattle.reader.specs.Reading.{bad_length, not_json, read_rules, contents, judged_recording, read_refusal, read_answer, captures_read, annotations_read}
use Rattle.listing_labels.specs.Text.{part}
use Rattle.claims_accepted.proofs.Accepted.{read_number, judged_number, summary_is, captures_are, annotations_are, captures_written_lem, annotations_written}
use Rattle.claims_accepted.proofs.RowLaws.{rest_row, no_row, annotation_row_lem}
use Rattle.claims_derived.specs.Derived.{Node, Here, kind, top}
use Rattle.claims_derived.specs.Rules.{given, text_in, value, misshapen, capture_in, annotation_in, number_place, text_place, contents_in, rules_by, rules_of, file_of, contents_of}
use Rattle.claims_derived.proofs.Shape.{Found}
use Rattle.claims_derived.proofs.FieldRules.{Typed}
use Rattle.claims_derived.proofs.Agrees.{bad_types, contents_same, read_with, passed_both}
use Rattle.claims_derived.proofs.Texts.{Quoted, quoted, text_quoted, number_bytes, label_at, rate_typed, rate_found}
use Rattle.claims.specs.Demand2.{Numbered, all_rules, LabelAt, no_label, label, RateAt, no_rate, rate, SummaryBy, annotation, capture_row, RowsBy, ReadBy, Demand2}

no_text : (s : List ℕ) → is_json s ≡ false → Text nesting s → ⊥
no_text s e t = false≢true (sym e ∙ (json_is_grammar s).1 t)

-- ---- the number: rules by place with k after them, and those of a derivation with l after them
module _ (s : List ℕ) (d : ℕ) (k : List Rule) (l : Text nesting s → List Rule)
    (same : (t : Text nesting s) → misshapen (top t) ≡ false → bad_types (file_of t) ≡ false → Agree k (l t))
    (up : (t : Text nesting s) → rising 2 (rules_of t d ++ l t) ≡ true) where
  abbrev n : ℕ
  n = lowest (read_rules s d ++ k)

  long : bad_length s d ≡ true → n ≡ 1
  unfolding L.read_rules
  long e = stop 1 (bad_length s d) _ e

  lost : bad_length s d ≡ false → is_json s ≡ false → n ≡ 2
  unfolding L.read_rules
  lost e f = skip 1 (bad_length s d) _ e ∙ stop 2 (not_json s) _ (rw f)

  told : bad_length s d ≡ false → (t : Text nesting s) → n ≡ lowest (rules_of t d ++ l t)
  told b t = read_with t d b k (l t) (same t)

  not_below : bad_length s d ≡ false → Text nesting s → (m : ℕ) → 0 < m → m ≤ 2 → n ≡ m → ⊥
  not_below b t m h g e = never m 2 h g (rules_of t d ++ l t) (up t) (sym (told b t) ∙ e)

  only_one : n ≡ 1 → bad_length s d ≡ true
  only_one e = go (bad_length s d) refl (is_json s) refl where
    go : (b : Bool) → bad_length s d ≡ b → (j : Bool) → is_json s ≡ j → bad_length s d ≡ true
    go true h j q = h
    go false h true q = absurd (not_below h ((json_is_grammar s).0 q) 1 (omega arith) (omega arith) e)
    go false h false q = absurd (omega (arith, lost h q, e))

  two : bad_length s d ≡ false → (Text nesting s → ⊥) → n ≡ 2
  two h f = go (is_json s) refl where
    go : (j : Bool) → is_json s ≡ j → n ≡ 2
    go true q = absurd (f ((json_is_grammar s).0 q))
    go false q = lost h q

  only_two : n ≡ 2 → (bad_length s d ≡ false) × (Text nesting s → ⊥)
  only_two e = go (bad_length s d) refl where
    go : (b : Bool) → bad_length s d ≡ b → (bad_length s d ≡ false) × (Text nesting s → ⊥)
    go true h = absurd (omega (arith, long h, e))
    go false h = (h, λ t. not_below h t 2 (omega arith) (omega arith) e)

  derives : (n ≡ 1 → ⊥) → (n ≡ 2 → ⊥) → Text nesting s
  derives f g = go (bad_length s d) refl (is_json s) refl where
    go : (b : Bool) → bad_length s d ≡ b → (j : Bool) → is_json s ≡ j → Text nesting s
    go true h j q = absurd (f (long h))
    go false h true q = (json_is_grammar s).0 q
    go false h false q = absurd (g (lost h q))

  numbered : Numbered s d n (λ t. rules_of t d ++ l t)
  numbered = record {
    one = (only_one, long);
    two = (only_two, λ p. two p.0 p.1);
    more = λ b t. subst (λ (m : ℕ). ByRules m (rules_of t d ++ l t)) (sym (told b t)) (lowest_by 2 (rules_of t d ++ l t) (up t));
    text = derives;
  }

  -- 4 and 7 do not hold of what is accepted
  accepted_both : n ≡ 0 → (t : Text nesting s) → (misshapen (top t) ≡ false) × (bad_types (file_of t) ≡ false)
  accepted_both z t = go (bad_length s d) refl where
    go : (b : Bool) → bad_length s d ≡ b → (misshapen (top t) ≡ false) × (bad_types (file_of t) ≡ false)
    go true h = absurd (omega (arith, long h, z))
    go false h = passed_both t d (l t) (sym (told h t) ∙ z)

-- ---- labels and the sample rate
module _ {s : List ℕ} where
  body_is : (i : ℕ) (cs : List ℕ) → Stands s i (0x22 ∷ (cs ++ (0x22 ∷ []))) (i + length (0x22 ∷ (cs ++ (0x22 ∷ []))))
      → part s (record { at = i + 1; len = length (0x22 ∷ (cs ++ (0x22 ∷ []))) - 2 }) ≡ cs
  body_is i cs q =
      let o = stands_left s cs (0x22 ∷ []) (stands_tail s q) in
      let n : length cs ≡ length (0x22 ∷ (cs ++ (0x22 ∷ []))) - 2 = omega (arith, length-append cs (0x22 ∷ [])) in
      ap (take (length (0x22 ∷ (cs ++ (0x22 ∷ []))) - 2)) o.rest ∙ take_at cs (drop (i + 1 + length cs) s) _ n

  label_of : (n : Node) → Here s n → Quoted (text_in (kind n)) n.bytes → LabelAt s (some n) (text_place n)
  label_of n h q = go n.bytes refl h q where
    go : (x : List ℕ) → n.bytes ≡ x → Stands s n.at x (n.at + length x) → Quoted (text_in (kind n)) x → LabelAt s (some n) (text_place n)
    go x e p (quoted {cs} m) =
        let c : part s (text_place n) ≡ cs = ap (λ (y : List ℕ). part s (record { at = n.at + 1; len = length y - 2 })) e ∙ body_is n.at cs p in
        label h refl (e ∙ ap (λ (y : List ℕ). 0x22 ∷ (y ++ (0x22 ∷ []))) (sym c)) (subst (λ (y : List ℕ). Means y (text_in (kind n))) (sym c) m)

  label_is : (v : Option Node) → Found s v → Typed T.Text v → LabelAt s v (given nowhere text_place v)
  label_is none h e = no_label
  label_is (some n) h e = label_of n h (text_quoted n e)

  rate_is : (v : Option Node) → Found s v → Typed T.Double v → RateAt s v (given nowhere number_place v)
  rate_is none h e = no_rate
  rate_is (some n) h e = rate h (number_bytes n e)

-- ---- the table, where 4 and 7 do not hold
module _ {s : List ℕ} (t : Text nesting s) (d : ℕ) (h : misshapen (top t) ≡ false) (ok : bad_types (file_of t) ≡ false) where
  same : contents s ≡ contents_of t
  same = contents_same t h ok

  summary_by : (r : Summary) → r ≡ summary_in (contents s) d → SummaryBy t d r
  unfolding summary_in contents_in
  summary_by r e =
      let f : r ≡ summary_in (contents_of t) d = e ∙ ap (λ (c : Contents). summary_in c d) same in
      let v = value "core:sample_rate" (file_of t).global in
      record {
        numbers = f;
        capture_count = ap (λ (x : Summary). x.captures) f ∙ length-map (file_of t).captures capture_in;
        annotation_count = ap (λ (x : Summary). x.annotations) f ∙ length-map (file_of t).annotations annotation_in;
        rate = subst (λ (x : Summary). RateAt s v x.rate) (sym f) (rate_is v (rate_found t h ok) (rate_typed t h ok));
      }

  row_by : (i : ℕ) → get_or (captures_in (contents s) d) i no_row ≡ capture_row t d i
  row_by i = ap (λ (c : Contents). get_or (captures_in c d) i no_row) same

  note_by : (i : ℕ) → get_or (annotations_in (contents s) d) i (annotation_row (end_index (contents s) d) (annotation_in []))
      ≡ annotation_row (end_index (contents_of t) d) (annotation_in (annotation t i))
  unfolding contents_in
  note_by i =
      ap (λ (c : Contents). get_or (annotations_in c d) i (annotation_row (end_index c d) (annotation_in []))) same
      ∙ annotation_row_lem (contents_of t) d i (annotation_in []) ∙ ap (annotation_row (end_index (contents_of t) d)) (get_or-map annotation_in (file_of t).annotations i [])

module _ (s : List ℕ) (d : ℕ) (caps notes : List ℕ) where
  abbrev rows_after : List Rule
  rows_after = rule 20 (too_many (contents s) caps notes) ∷ []

  read_is : (read_answer s d caps notes).refusal ≡ lowest (read_rules s d ++ rows_after)
  read_is = read_number s d caps notes ∙ (unfold read_refusal in refl)

  room : (t : Text nesting s) → misshapen (top t) ≡ false → bad_types (file_of t) ≡ false → Agree rows_after (rule 20 (too_many (contents_of t) caps notes) ∷ [])
  room t h ok = step (ap (λ (c : Contents). too_many c caps notes) (contents_same t h ok)) (λ _. over)

  rising_all : (t : Text nesting s) → rising 2 (all_rules t d caps notes) ≡ true
  unfolding rules_by rising
  rising_all t = refl

  module _ (z : (read_answer s d caps notes).refusal ≡ 0) (t : Text nesting s) where
    both : (misshapen (top t) ≡ false) × (bad_types (file_of t) ≡ false)
    both = accepted_both s d rows_after (λ t. rule 20 (too_many (contents_of t) caps notes) ∷ []) room rising_all (sym read_is ∙ z) t

    summary_read : SummaryBy t d (read_answer s d caps notes)
    summary_read = summary_by t d both.0 both.1 (read_answer s d caps notes) (summary_is s d caps notes z)

    note_read : (i : ℕ) → i < (read_answer s d caps notes).annotations
        → annotation_at (annotations_read s d caps notes) i ≡ annotation_row (end_index (contents_of t) d) (annotation_in (annotation t i))
    note_read i g =
        let w : Annotation = annotation_row (end_index (contents s) d) (annotation_in []) in
        rest_row (annotation_at (annotations_read s d caps notes)) w _ i g ∙ ap (λ (rs : List Annotation). get_or rs i w) (annotations_are s d caps notes z)
        ∙ note_by t d both.0 both.1 i

    label_read : (i : ℕ) → LabelAt s (value "core:label" (annotation t i)) (annotation_in (annotation t i)).texts.label
    label_read i = let p = label_at t both.0 both.1 i in label_is (value "core:label" (annotation t i)) p.0 p.1

    rows_read : RowsBy t d (read_answer s d caps notes) caps notes (captures_read s d caps notes) (annotations_read s d caps notes)
    rows_read = record {
      capture_rows = λ i g. rest_row (capture_at (captures_read s d caps notes)) no_row (read_answer s d caps notes).captures i (omega (arith, g)) ∙ ap (λ (rs : List Capture). get_or rs i no_row) (captures_are s d caps notes z)
          ∙ row_by t d both.0 both.1 i;
      annotation_rows = note_read;
      labels = λ i g. subst (λ (r : Annotation). LabelAt s (value "core:label" (annotation t i)) r.texts.label) (sym (note_read i g)) (label_read i);
      capture_memory = captures_written_lem s d caps notes z;
      annotation_memory = annotations_written s d caps notes z;
    }

module _ (s : List ℕ) (d : ℕ) where
  judged_is : (judged_recording s d).refusal ≡ lowest (read_rules s d ++ [])
  judged_is = judged_number s d ∙ ap lowest (sym (append-nil (read_rules s d)))

  rising_judged : (t : Text nesting s) → rising 2 (rules_of t d ++ []) ≡ true
  unfolding rules_by rising
  rising_judged t = refl

  judged_by : Numbered s d (judged_recording s d).refusal (λ t. rules_of t d)
  unfolding rules_by
  judged_by = rw judged_is (numbered s d [] (λ t. []) (λ t h ok. over) rising_judged)

  judged_summary_lem : (judged_recording s d).refusal ≡ 0 → (t : Text nesting s) → SummaryBy t d (judged_recording s d)
  judged_summary_lem z t =
      let p = accepted_both s d [] (λ t. []) (λ t h ok. over) rising_judged (sym judged_is ∙ z) t in
      summary_by t d p.0 p.1 (judged_recording s d) (unfold judged_recording in rw (sym (judged_number s d) ∙ z))

-- ---- the reader's answer
module _ (s : List ℕ) (d : ℕ) (caps notes : List ℕ) where
  not_zero : ((read_answer s d caps notes).refusal ≡ 0 → ⊥) → eqb (read_refusal s d caps notes) 0 ≡ false
  not_zero h = ne_eqb (read_refusal s d caps notes) 0 (λ z. h (read_number s d caps notes ∙ z))

  read_alone : ((read_answer s d caps notes).refusal ≡ 0 → ⊥) → read_answer s d caps notes ≡ no_table (read_answer s d caps notes).refusal
  unfolding read_answer
  read_alone h = rw (not_zero h)

  read_keeps : ((read_answer s d caps notes).refusal ≡ 0 → ⊥) → (captures_read s d caps notes ≡ caps) × (annotations_read s d caps notes ≡ notes)
  unfolding captures_read annotations_read
  read_keeps h = (rw (not_zero h), rw (not_zero h))

  read_by : ReadBy s d caps notes (read_answer s d caps notes) (captures_read s d caps notes) (annotations_read s d caps notes)
  read_by = record {
    number = subst (λ (n : ℕ). Numbered s d n (λ t. all_rules t d caps notes)) (sym (read_is s d caps notes))
        (numbered s d (rows_after s d caps notes) (λ t. rule 20 (too_many (contents_of t) caps notes) ∷ []) (room s d caps notes) (rising_all s d caps notes));
    summary = summary_read s d caps notes;
    rows = rows_read s d caps notes;
    alone = read_alone;
    keeps = read_keeps;
  }

-- ---- no other answer
once_by : (rs : List Rule) (a b : ℕ) → ByRules a rs → ByRules b rs → a ≡ b
once_by rs a b p q = go (eqb a 0) refl where
  go : (c : Bool) → eqb a 0 ≡ c → a ≡ b
  go true e = eqb-true a 0 e ∙ sym (eqb-true b 0 (q.exactly ∙ sym p.exactly ∙ e))
  go false e =
      let x = p.smallest (eqb-false a 0 e) in
      let y = q.smallest (eqb-false b 0 (q.exactly ∙ sym p.exactly ∙ e)) in
      omega (arith, x.least b y.holds, y.least a x.holds)

module _ (s : List ℕ) (d a b : ℕ) (rules : Text nesting s → List Rule) (p : Numbered s d a rules) (q : Numbered s d b rules) where
  once_numbered : a ≡ b
  once_numbered = go (bad_length s d) refl (is_json s) refl where
    go : (c : Bool) → bad_length s d ≡ c → (j : Bool) → is_json s ≡ j → a ≡ b
    go true h j e = p.one.1 h ∙ sym (q.one.1 h)
    go false h true e = let t = (json_is_grammar s).0 e in once_by (rules t) a b (p.more h t) (q.more h t)
    go false h false e = let f = no_text s e in p.two.1 (h, f) ∙ sym (q.two.1 (h, f))

rows_same : {A : Type 0} (f g : ℕ → A) (n i : ℕ) → ((k : ℕ) → k < i + n → f k ≡ g k) → rows_from f n i ≡ rows_from g n i
unfolding rows_from
rows_same f g zero i h = refl
rows_same f g (suc n) i h = rw (h i (omega arith), rows_same f g n (suc i) (λ k l. h k (omega arith)))

pub all_same : {A : Type 0} (f g : ℕ → A) (n : ℕ) → ((k : ℕ) → k < n → f k ≡ g k) → rest f n 0 ≡ rest g n 0
all_same f g n h = rows_same f g (n - 0) 0 (λ k l. h k (omega arith))

module _ (s : List ℕ) (d : ℕ) (caps notes : List ℕ) (r u : Summary) (m k w x : List ℕ) (p : ReadBy s d caps notes r m k) (q : ReadBy s d caps notes u w x) where
  once_number : r.refusal ≡ u.refusal
  once_number = once_numbered s d r.refusal u.refusal (λ t. all_rules t d caps notes) p.number q.number

  module _ (z : r.refusal ≡ 0) where
    y : u.refusal ≡ 0
    y = sym once_number ∙ z

    t : Text nesting s
    t = p.number.text (λ e. omega (arith, e, z)) (λ e. omega (arith, e, z))

    accepted_once : r ≡ u
    accepted_once = (p.summary z t).numbers ∙ sym (q.summary y t).numbers

    captures_once : m ≡ w
    captures_once =
        (p.rows z t).capture_memory
        ∙ ap (λ (l : List Capture). written (flat capture_numbers l) caps)
        (all_same (capture_at m) (capture_at w) r.captures (λ i l. (p.rows z t).capture_rows i (omega (arith, l)) ∙ sym ((q.rows y t).capture_rows i (omega (arith, l, ap (λ (v : Summary). v.captures) accepted_once))))
        ∙ ap (λ (v : Summary). captures w v.captures) accepted_once)
        ∙ sym (q.rows y t).capture_memory

    annotations_once : k ≡ x
    annotations_once =
        (p.rows z t).annotation_memory
        ∙ ap (λ (l : List Annotation). written (flat annotation_numbers l) notes)
        (all_same (annotation_at k) (annotation_at x) r.annotations (λ i l. (p.rows z t).annotation_rows i (omega (arith, l)) ∙ sym ((q.rows y t).annotation_rows i (omega (arith, l, ap (λ (v : Summary). v.annotations) accepted_once))))
        ∙ ap (λ (v : Summary). annotations x v.annotations) accepted_once)
        ∙ sym (q.rows y t).annotation_memory

  once : (r ≡ u) × (m ≡ w) × (k ≡ x)
  once = go (eqb r.refusal 0) refl where
    go : (c : Bool) → eqb r.refusal 0 ≡ c → (r ≡ u) × (m ≡ w) × (k ≡ x)
    go true e = let z = eqb-true r.refusal 0 e in (accepted_once z, captures_once z, annotations_once z)
    go false e =
        let f = eqb-false r.refusal 0 e in
        let g = p.keeps f in
        let h = q.keeps (λ z. f (once_number ∙ z)) in
        (p.alone f ∙ ap no_table once_number ∙ sym (q.alone (λ z. f (once_number ∙ z))), g.0 ∙ sym h.0, g.1 ∙ sym h.1)

-- demand 2
pub demand_2 : (s : List ℕ) (d : ℕ) (caps notes : List ℕ) → Demand2 s d caps notes
demand_2 s d caps notes = record {
  read = read_by s d caps notes;
  only = λ r m k p. once s d caps notes r _ m k _ _ p (read_by s d caps notes);
  judged = judged_by s d;
  judged_summary = judged_summary_lem s d;
  utf8 = text_utf8;
}
