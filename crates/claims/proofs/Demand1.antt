-- Demand 1 holds of each entry.
use Prim.Native.Nat.{ℕ, ◌*◌}
use mathlib.Core.Path.{◌≡◌, refl, sym, ap, subst, ◌∙◌}
use mathlib.Core.Bool.{Bool, true, false, cond, not, ◌&&◌, ◌||◌}
use mathlib.Core.List.{List, [], ◌∷◌}
use native.Mathlib.Omega.{arith}
use lib.ListN.{length}
use lib.Dec.{leb, ltb, eqb}
use borrow.Author.Tests.{ne_eqb}
use Rattle.limits.specs.Limits.{metadata, nesting}
use Rattle.refusals.specs.Refusals.{Rule, rule, lowest, ByRules, ByOrder}
use Rattle.refusals.proofs.RuleLaws.{rising, lowest_by, numbered, lowest_order}
use Rattle.json_grammar.specs.Grammar.{Text}
use Rattle.json_grammar.specs.ByPlace.{is_json}
use Rattle.json_grammar.proofs.Theorem.{json_is_grammar}
use Rattle.json_judge.specs.Judged.{bad_members, judge_rules}
use Rattle.json_automaton.specs.declared.State.{State}
use Rattle.json_automaton.specs.Reachable.{is_reachable}
use Rattle.json_stream.specs.Stream.{fed_answer, finish_rules}
use Rattle.table.specs.declared.Place.{Place}
use Rattle.table.specs.declared.Summary.{Summary}
use Rattle.table.specs.Rows.{capture_width, annotation_width, annotation_at, annotations_of, Table}
use Rattle.table.specs.Table.{well_formed}
use Rattle.table.specs.Locate.{is_sample, locate_answer}
use Rattle.table.proofs.TableLaws.{formed}
use Rattle.reader_layout.specs.Layout.{Contents, layout_rules, summary_or, judged_layout, layout_refusal, layout_answer, captures_after, annotations_after}
use Rattle.reader_layout.proofs.Theorem.{answer_number_lem}
use Rattle.table_pieces.specs.Pieces.{piece_width, pieces_in, inside, pieces_answer}
use Rattle.table_cuts.specs.Cut.{cut, cut_summary, cut_in, cut_answer}
use Rattle.table_pieces.specs.Copy.{bytes_in, copy_answer}
use Rattle.table.specs.Place.{absent}
use Rattle.listing_labels.specs.Text.{part, stands, text_good}
use Rattle.listing_labels.specs.Label.{Found, no_label, label_found, label_of, label_answer, labels_ok}
use Rattle.listing_labels.specs.Label.{label_refused}
use Rattle.listing.specs.Listing.{listing_of, listing_answer}
use Rattle.writer.specs.Metadata.{metadata_of}
use Rattle.writer.specs.Writer.{rate_ok, writable, writer_answer}
use Rattle.table_stored.specs.Form.{stored_of, table_in}
use Rattle.table_stored.specs.Store.{store_answer}
use Rattle.table_stored.specs.Load.{opens, length_ok, load_answer}
use Rattle.reader.specs.Reading.{read_rules, contents, judged_recording, read_refusal, read_answer, captures_read, annotations_read}
use Rattle.claims_accepted.proofs.Accepted.{or_number, read_number}
use Rattle.claims_derived.specs.Derived.{top}
use Rattle.claims_derived.specs.Rules.{bad_node}
use Rattle.claims_derived.proofs.Refusal3.{bad_same}
use Rattle.export_listing.specs.LabelPlace.{labelled_at, labelled}
use Rattle.claims.specs.Demand1.{AnswerKind, EntryCall, answer_number, Refuses, RefusesBy, RefusesInOrder, summaries, places, counts, labels, JudgedBy, judging, reading, summing, laying, lay_rules, locate_rules, locating, label_rules, labelling, labelling_place, pieces_rules, piecing, cut_rules, cutting, copy_rules, copying, listing_rules, listing, writer_rules, writing, store_rules, storing, load_rules, loading, feds, numbers, feed_rules, feeding, finishing, OfTable, Demand1}

-- ---- answers by rules
-- the number is the lowest of the rules, and stands alone unless it is 0
record By {A : Type 0} (k : AnswerKind A) (rs : List Rule) (x : A) : Type 0 where
  number : k.number x ≡ lowest rs
  alone : (k.number x ≡ 0 → ⊥) → x ≡ k.zeros (k.number x)

-- a call that answers so, by rules in the order of their numbers
refuses : {A : Type 0} (c : EntryCall A) (rs : List Rule) → By c.kind rs c.answer → rising 0 rs ≡ true → ((answer_number c ≡ 0 → ⊥) → c.after ≡ c.before) → RefusesBy rs c
refuses c rs b o k = record { number = subst (λ (n : ℕ). ByRules n rs) (sym b.number) (lowest_by 0 rs o); refusal = record { alone = b.alone; keeps = k } }

-- and by rules in another order
refuses_in_order : {A : Type 0} (c : EntryCall A) (rs : List Rule) → By c.kind rs c.answer → numbered rs ≡ true → ((answer_number c ≡ 0 → ⊥) → c.after ≡ c.before) → RefusesInOrder rs c
refuses_in_order c rs b o k = record { number = subst (λ (n : ℕ). ByOrder n rs) (sym b.number) (lowest_order rs o); refusal = record { alone = b.alone; keeps = k } }

-- a stage refuses with its number, or leaves the answer to what follows
module _ {A : Type 0} (k : AnswerKind A) (its : (n : ℕ) → k.number (k.zeros n) ≡ n) where
  stage : (b c : Bool) → not b ≡ c → (x : A) (n : ℕ) (rs : List Rule) → (b ≡ true → By k rs x) → By k (rule n c ∷ rs) (cond b x (k.zeros n))
  unfolding lowest
  stage true c e x n rs f = record { number = (f refl).number ∙ (rw (sym e)); alone = (f refl).alone }
  stage false c e x n rs f = record { number = its n ∙ (rw (sym e)); alone = λ _. ap k.zeros (sym (its n)) }

-- an acceptance is no refusal
accepted : {A : Type 0} (k : AnswerKind A) (x : A) → k.number x ≡ 0 → By k [] x
unfolding lowest
accepted k x e = record { number = e; alone = λ h. absurd (h e) }

-- not both
either : (a b : Bool) → not (a && b) ≡ not a || not b
either true b = refl
either false b = refl

-- memory that is written only on acceptance
kept : (n : ℕ) (w m : List ℕ) → (n ≡ 0 → ⊥) → cond (eqb n 0) w m ≡ m
kept n w m h = rw (ne_eqb n 0 h)

-- one memory, and two
one_kept : {w m : List ℕ} → w ≡ m → w ∷ [] ≡ m ∷ []
one_kept e = ap (λ (l : List ℕ). l ∷ []) e

both_kept : {w m v k : List ℕ} → w ≡ m → v ≡ k → w ∷ v ∷ [] ≡ m ∷ k ∷ []
both_kept e f = λ i. e i ∷ f i ∷ []

-- ---- the judge of a text
module _ (s : List ℕ) where
  derives : is_json s ≡ true → Text nesting s
  derives = (json_is_grammar s).0

  judge_text_lem : JudgedBy s (lowest (judge_rules s))
  unfolding lowest
  judge_text_lem = record {
    two = (λ e t. not_two (bad_members s) (rw ((json_is_grammar s).1 t) at e), λ f. lost f (is_json s) refl);
    three = λ t. rw ((json_is_grammar s).1 t, bad_same t) (lowest_by 0 (rule 3 (bad_node nesting (top t)) ∷ []) (unfold rising in refl));
  }
    where
      not_two : (b : Bool) → lowest (rule 3 b ∷ []) ≡ 2 → ⊥
      not_two true e = omega (arith, e)
      not_two false e = omega (arith, e)

      lost : (Text nesting s → ⊥) → (b : Bool) → is_json s ≡ b → lowest (rule 2 (not b) ∷ rule 3 (bad_members s) ∷ []) ≡ 2
      lost f true e = absurd (f (derives e))
      lost f false e = refl

-- ---- the reader
or_alone : (n : ℕ) (k : Contents) (d : ℕ) → ((summary_or n k d).refusal ≡ 0 → ⊥) → summary_or n k d ≡ summaries.zeros (summary_or n k d).refusal
or_alone n k d h =
    let e = or_number n k d in
    rw (ne_eqb n 0 (λ z. h (e ∙ z)))

judge : (s : List ℕ) (d : ℕ) → Refuses (judging s d)
unfolding judged_recording
judge s d = record { alone = or_alone (lowest (read_rules s d)) (contents s) d; keeps = λ _. refl }

read : (s : List ℕ) (d : ℕ) (caps notes : List ℕ) → Refuses (reading s d caps notes)
unfolding read_answer captures_read annotations_read
read s d caps notes = record {
  alone = or_alone (read_refusal s d caps notes) (contents s) d;
  keeps = λ h. both_kept (kept _ _ _ (λ z. h (read_number s d caps notes ∙ z))) (kept _ _ _ (λ z. h (read_number s d caps notes ∙ z)));
}

-- ---- a layout, of any contents
module _ (k : Contents) (d : ℕ) where
  or_by : (rs : List Rule) → By summaries rs (summary_or (lowest rs) k d)
  or_by rs = record { number = or_number (lowest rs) k d; alone = or_alone (lowest rs) k d }

  lay_summary : RefusesBy (layout_rules k d) (summing k d)
  unfolding judged_layout rising
  lay_summary = refuses (summing k d) (layout_rules k d) (or_by (layout_rules k d)) refl (λ _. refl)

  lay : (caps notes : List ℕ) → RefusesBy (lay_rules k d caps notes) (laying k d caps notes)
  unfolding layout_refusal layout_answer captures_after annotations_after rising
  lay caps notes = refuses (laying k d caps notes) (lay_rules k d caps notes) (or_by (lay_rules k d caps notes)) refl
      (λ h. both_kept (kept _ _ _ (λ z. h (answer_number_lem k d caps notes ∙ z))) (kept _ _ _ (λ z. h (answer_number_lem k d caps notes ∙ z))))

-- ---- of any table
module _ (t : Table) where
  abbrev well : Bool
  well = well_formed t

  locate : (i : ℕ) → RefusesBy (locate_rules t i) (locating t i)
  unfolding locate_answer rising
  locate i = refuses (locating t i) (locate_rules t i)
      (stage places (λ n. refl) well _ refl _ 18 _ (λ _. stage places (λ n. refl) (is_sample t.summary i) _ refl _ 19 [] (λ _. accepted places _ refl))) refl (λ _. refl)

  -- the label of one annotation: absent, or it stands, or it doesn't
  label_by : (s : List ℕ) (n : ℕ) → By labels (label_rules t s n) (label_answer t s n)
  unfolding label_answer label_of text_good
  label_by s n = go well (ltb n t.summary.annotations) (absent place) (stands s place)
    where
      place : Place
      place = (annotation_at t.annotations n).texts.label

      go : (w i a p : Bool) → By labels (rule 18 (not w || (i && not (a || p))) ∷ rule 19 (not i) ∷ [])
          (cond w (cond i (cond a no_label (cond p (label_found (part s place)) (label_refused 18))) (label_refused 19)) (label_refused 18))
      go false i a p = record { number = unfold lowest in refl; alone = λ _. refl }
      go true false a p = record { number = unfold lowest in refl; alone = λ _. refl }
      go true true true p = record { number = unfold lowest in refl; alone = λ h. absurd (h refl) }
      go true true false true = record { number = unfold lowest in refl; alone = λ h. absurd (h refl) }
      go true true false false = record { number = unfold lowest in refl; alone = λ _. refl }

  label : (s : List ℕ) (n : ℕ) → RefusesBy (label_rules t s n) (labelling t s n)
  unfolding rising
  label s n = refuses (labelling t s n) (label_rules t s n) (label_by s n) refl (λ _. refl)

  label_place_lem : (s : List ℕ) (n : ℕ) → RefusesBy (label_rules t s n) (labelling_place t s n)
  unfolding rising labelled
  label_place_lem s n = refuses (labelling_place t s n) (label_rules t s n)
      (record { number = (label_by s n).number; alone = λ h. ap (λ (f : Found). labelled_at f (annotation_at t.annotations n).texts.label) ((label_by s n).alone h) }) refl (λ _. refl)

  module _ (a b : ℕ) where
    pieces : (m : List ℕ) → RefusesBy (pieces_rules t a b m) (piecing t a b m)
    unfolding pieces_answer rising
    pieces m = refuses (piecing t a b m) (pieces_rules t a b m)
        (stage counts (λ n. refl) well _ refl _ 18 _
        (λ _. stage counts (λ n. refl) (inside t.summary a b) _ refl _ 19 _
        (λ _. stage counts (λ n. refl) (leb (piece_width * length (pieces_in t a b)) (length m)) _ refl _ 20 [] (λ _. accepted counts _ refl))))
        refl (λ h. one_kept (kept _ _ _ h))

    cut_zero : well_formed t ≡ true → (cut_in t a b).summary.refusal ≡ 0
    unfolding cut cut_summary
    cut_zero e = (formed t.summary t.captures t.annotations e).nums.said

    cuts : (m k : List ℕ) → RefusesBy (cut_rules t a b m k) (cutting t a b m k)
    unfolding cut_answer rising
    cuts m k =
        let x = leb (capture_width * length (cut_in t a b).captures) (length m) in
        let y = leb (annotation_width * length (cut_in t a b).annotations) (length k) in
        refuses (cutting t a b m k) (cut_rules t a b m k)
        (stage summaries (λ n. refl) well _ refl _ 18 _
        (λ e. stage summaries (λ n. refl) (inside t.summary a b) _ refl _ 19 _ (λ _. stage summaries (λ n. refl) (x && y) _ (either x y) _ 20 [] (λ _. accepted summaries _ (cut_zero e)))))
        refl (λ h. both_kept (kept _ _ _ h) (kept _ _ _ h))

    copy : (d m : List ℕ) → RefusesBy (copy_rules t d a b m) (copying t d a b m)
    unfolding copy_answer rising
    copy d m = refuses (copying t d a b m) (copy_rules t d a b m)
        (stage counts (λ n. refl) (well && eqb (length d) t.summary.size) _ (either well _) _ 18 _
        (λ _. stage counts (λ n. refl) (inside t.summary a b) _ refl _ 19 _ (λ _. stage counts (λ n. refl) (leb (length (bytes_in t d a b)) (length m)) _ refl _ 20 [] (λ _. accepted counts _ refl))))
        refl (λ h. one_kept (kept _ _ _ h))

  list : (s m : List ℕ) → RefusesBy (listing_rules t s m) (listing t s m)
  unfolding listing_answer rising
  list s m = refuses (listing t s m) (listing_rules t s m)
      (stage counts (λ n. refl) (well && labels_ok s (annotations_of t)) _ (either well _) _ 18 _
      (λ _. stage counts (λ n. refl) (leb (length (listing_of t s)) (length m)) _ refl _ 20 [] (λ _. accepted counts _ refl)))
      refl (λ h. one_kept (kept _ _ _ h))

  all_three : (a b c : Bool) → not (a && b && c) ≡ not a || not b || not c
  all_three true b c = either b c
  all_three false b c = refl

  write : (s m : List ℕ) → RefusesBy (writer_rules t s m) (writing t s m)
  unfolding writer_answer writable rising
  write s m =
      let n = length (metadata_of t s) in
      refuses (writing t s m) (writer_rules t s m)
      (stage counts (λ n. refl) (well && labels_ok s (annotations_of t) && rate_ok s t.summary.rate) _ (all_three well _ _) _ 18 _
      (λ _. stage counts (λ n. refl) (leb n (length m) && leb n metadata) _ (either (leb n (length m)) (leb n metadata)) _ 20 [] (λ _. accepted counts _ refl)))
      refl (λ h. one_kept (kept _ _ _ h))

  store : (m : List ℕ) → RefusesBy (store_rules t m) (storing t m)
  unfolding store_answer rising
  store m = refuses (storing t m) (store_rules t m)
      (stage counts (λ n. refl) well _ refl _ 18 _ (λ _. stage counts (λ n. refl) (leb (length (stored_of t)) (length m)) _ refl _ 20 [] (λ _. accepted counts _ refl)))
      refl (λ h. one_kept (kept _ _ _ h))

  of_table : OfTable t
  of_table = record {
    locate = locate;
    label = label;
    label_place = label_place_lem;
    pieces = pieces;
    cut = cuts;
    copy = λ d a b m. copy a b d m;
    list = list;
    write = write;
    store = store;
  }

-- ---- a stored table
module _ (f caps notes : List ℕ) where
  load : RefusesInOrder (load_rules f caps notes) (loading f caps notes)
  unfolding load_answer table_in numbered
  load =
      let t = (table_in f).summary in
      let x = leb (capture_width * t.captures) (length caps) in
      let y = leb (annotation_width * t.annotations) (length notes) in
      refuses_in_order (loading f caps notes) (load_rules f caps notes)
      (stage summaries (λ n. refl) (opens f) _ refl _ 21 _
      (λ _. stage summaries (λ n. refl) (length_ok f) _ refl _ 22 _
      (λ _. stage summaries (λ n. refl) (well_formed (table_in f)) _ refl _ 18 _
      (λ e. stage summaries (λ n. refl) (x && y) _ (either x y) _ 20 [] (λ _. accepted summaries _ (formed t (table_in f).captures (table_in f).annotations e).nums.said)))))
      refl (λ h. both_kept (kept _ _ _ h) (kept _ _ _ h))

-- ---- a text as it arrives
module _ (st : State) where
  feed : (chunk : List ℕ) → RefusesBy (feed_rules st) (feeding st chunk)
  unfolding fed_answer rising
  feed chunk = refuses (feeding st chunk) (feed_rules st) (stage feds (λ n. refl) (is_reachable st) _ refl _ 18 [] (λ _. accepted feds _ refl)) refl (λ _. refl)

  finish : RefusesInOrder (finish_rules st) (finishing st)
  unfolding numbered
  finish = refuses_in_order (finishing st) (finish_rules st) (record { number = refl; alone = λ _. refl }) refl (λ _. refl)

pub demand_1 : Demand1
demand_1 = record { judge_text = judge_text_lem; judge = judge; read = read; summary = lay_summary; lay = lay; table = of_table; load = load; feed = feed; finish = finish }
