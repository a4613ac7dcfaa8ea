-- Demand 1: any bytes get an answer, and a refusal is zero in every other number and changes no lent row or byte. The definitions
-- answer for all lists of bytes. Document 01, "Refusal numbers", is said once, of any call, and then of the calls of each entry: of all
-- arguments, tables that no reader gave included.
use Rattle.std.specs.Prelude.{◌≡◌, ◌↔◌, Bool, not, ◌&&◌, ◌||◌, List, [], ◌∷◌, ◌++◌, ℕ, ◌*◌, length, eqb, leb, ltb}
use Rattle.limits.specs.Limits.{metadata, nesting}
use Rattle.json_grammar.specs.Grammar.{Text}
use Rattle.refusals.specs.Refusals.{Rule, rule, lowest, ByRules, ByOrder}
use Rattle.json_judge.specs.Judged.{judge_rules}
use Rattle.json_automaton.specs.declared.State.{State}
use Rattle.json_automaton.specs.Reachable.{is_reachable}
use Rattle.json_stream.specs.declared.Fed.{Fed}
use Rattle.json_stream.specs.Stream.{fed_refused, fed_answer, finish_rules, finished}
use Rattle.table.specs.declared.Summary.{Summary}
use Rattle.table.specs.declared.Located.{Located}
use Rattle.table.specs.Place.{nowhere}
use Rattle.table.specs.Rows.{capture_width, annotation_width, annotation_at, Table, annotations_of}
use Rattle.table.specs.Table.{well_formed, no_table}
use Rattle.table.specs.Locate.{located, is_sample, locate_answer}
use Rattle.reader_layout.specs.Layout.{Contents, layout_rules, too_many, judged_layout, layout_answer, captures_after, annotations_after}
use Rattle.table.specs.declared.Wrote.{Wrote}
use Rattle.table.specs.Wrote.{wrote}
use Rattle.table_pieces.specs.Pieces.{piece_width, pieces_in, inside, pieces_answer, pieces_memory}
use Rattle.table_cuts.specs.Cut.{cut_in, cut_answer, cut_capture_memory, cut_annotation_memory}
use Rattle.table_pieces.specs.Copy.{bytes_in, copy_answer, copy_memory}
use Rattle.listing_labels.specs.Label.{Found, label_ok, labels_ok, label_answer}
use Rattle.listing_labels.specs.Label.{label_refused}
use Rattle.listing.specs.Listing.{listing_of, listing_answer, listing_memory}
use Rattle.writer.specs.Metadata.{metadata_of}
use Rattle.writer.specs.Writer.{rate_ok, writer_answer, writer_memory}
use Rattle.table_stored.specs.Form.{stored_of, table_in}
use Rattle.table_stored.specs.Store.{store_answer, store_memory}
use Rattle.table_stored.specs.Load.{opens, length_ok, load_answer, captures_loaded, annotations_loaded}
use Rattle.reader.specs.Reading.{judged_recording, read_answer, captures_read, annotations_read}
use Rattle.claims_derived.specs.Derived.{top}
use Rattle.claims_derived.specs.Rules.{bad_node}
use Rattle.export_listing.specs.declared.Labelled.{Labelled}
use Rattle.export_listing.specs.LabelPlace.{labelled}

-- ---- of any call
-- a kind of answers: the number, and the answer with a number alone
pub record AnswerKind (A : Type 0) : Type 0 where
  pub number : A → ℕ
  pub zeros : ℕ → A

-- a call: its answer, and the memories lent to be written, before the call and after it
pub record EntryCall (A : Type 0) : Type 0 where
  pub kind : AnswerKind A
  pub answer : A
  pub before : List (List ℕ)
  pub after : List (List ℕ)

abbrev pub answer_number : {A : Type 0} → EntryCall A → ℕ
answer_number c = c.kind.number c.answer

pub record Refuses {A : Type 0} (c : EntryCall A) : Type 0 where
  -- "A refusal gives that number, 0 in every other number of the answer and an empty part where a part is handed back"
  pub alone : (answer_number c ≡ 0 → ⊥) → c.answer ≡ c.kind.zeros (answer_number c)
  -- "and every lent row and byte keeps its content"
  pub keeps : (answer_number c ≡ 0 → ⊥) → c.after ≡ c.before

-- by conditions with their numbers
pub record RefusesBy {A : Type 0} (rules : List Rule) (c : EntryCall A) : Type 0 where
  -- "The answer is the smallest number whose condition holds"; "0 is acceptance"
  pub number : ByRules (answer_number c) rules
  pub refusal : Refuses c

-- "Where a later request .. fixes another order .. its functions follow the request, and demand 1 is read so": by conditions in that order
pub record RefusesInOrder {A : Type 0} (rules : List Rule) (c : EntryCall A) : Type 0 where
  pub number : ByOrder (answer_number c) rules
  pub refusal : Refuses c

-- ---- the kinds of answers
abbrev pub summaries : AnswerKind Summary
summaries = record { number = λ t. t.refusal; zeros = no_table }

abbrev pub places : AnswerKind Located
places = record { number = λ r. r.refusal; zeros = λ n. located n 0 }

abbrev pub counts : AnswerKind Wrote
counts = record { number = λ r. r.refusal; zeros = λ n. wrote n 0 }

abbrev pub labels : AnswerKind Found
labels = record { number = λ r. r.refusal; zeros = label_refused }

abbrev pub label_places : AnswerKind Labelled
label_places = record { number = λ r. r.refusal; zeros = λ n. record { refusal = n; present = 0; label = nowhere } }

abbrev pub feds : AnswerKind Fed
feds = record { number = λ r. r.refusal; zeros = fed_refused }

abbrev pub numbers : AnswerKind ℕ
numbers = record { number = λ n. n; zeros = λ n. n }

-- ---- the judge of a text alone, whose answer is a number n: 2 and 3, as the reader's
pub record JudgedBy (s : List ℕ) (n : ℕ) : Type 0 where
  -- 2: "not one JSON value in valid UTF-8, or nested beyond 32"
  pub two : (n ≡ 2) ↔ (Text nesting s → ⊥)
  -- 3: "some object, however deep, has a name twice or over 256 members"
  pub three : (t : Text nesting s) → ByRules n (rule 3 (bad_node nesting (top t)) ∷ [])

-- ---- the reader: its numbers are those of demand 2
abbrev pub judging : List ℕ → ℕ → EntryCall Summary
judging s d = record { kind = summaries; answer = judged_recording s d; before = []; after = [] }

abbrev pub reading : List ℕ → ℕ → List ℕ → List ℕ → EntryCall Summary
reading s d caps notes = record {
  kind = summaries;
  answer = read_answer s d caps notes;
  before = caps ∷ notes ∷ [];
  after = captures_read s d caps notes ∷ annotations_read s d caps notes ∷ [];
}

-- of numbers without a text: 1, 9, 10, 15 to 17, and with rows 20
abbrev pub summing : Contents → ℕ → EntryCall Summary
summing k d = record { kind = summaries; answer = judged_layout k d; before = []; after = [] }

abbrev pub laying : Contents → ℕ → List ℕ → List ℕ → EntryCall Summary
laying k d caps notes = record {
  kind = summaries;
  answer = layout_answer k d caps notes;
  before = caps ∷ notes ∷ [];
  after = captures_after k d caps notes ∷ annotations_after k d caps notes ∷ [];
}

abbrev pub lay_rules : Contents → ℕ → List ℕ → List ℕ → List Rule
lay_rules k d caps notes = layout_rules k d ++ (rule 20 (too_many k caps notes) ∷ [])

-- ---- room
-- 20: "the answer needs more rows, pieces or bytes than the lent memory holds"
abbrev pub short : ℕ → List ℕ → Bool
short n m = not (leb n (length m))

-- ---- of a table t
module _ (t : Table) where
  -- 18: "a table handed back in is not well formed, or doesn't fit the metadata or dataset lent with it"
  abbrev pub malformed : Bool
  malformed = not (well_formed t)

  -- 19: "a sample or range is not inside the recording, a range has a > b, or an annotation number is outside the table"
  abbrev pub no_sample : ℕ → Bool
  no_sample i = not (is_sample t.summary i)

  abbrev pub no_range : ℕ → ℕ → Bool
  no_range a b = not (inside t.summary a b)

  abbrev pub no_annotation : ℕ → Bool
  no_annotation n = not (ltb n t.summary.annotations)

  -- "Locating a sample and looking up a label give 18 or 19"
  abbrev pub locate_rules : ℕ → List Rule
  locate_rules i = rule 18 malformed ∷ rule 19 (no_sample i) ∷ []

  abbrev pub locating : ℕ → EntryCall Located
  locating i = record { kind = places; answer = locate_answer t i; before = []; after = [] }

  -- "Label lookup (for its label) .. also answer 18 unless each present label's place ..": outside the table there is no label
  abbrev pub label_rules : List ℕ → ℕ → List Rule
  label_rules s n = rule 18 (malformed || (ltb n t.summary.annotations && not (label_ok s (annotation_at t.annotations n)))) ∷ rule 19 (no_annotation n) ∷ []

  abbrev pub labelling : List ℕ → ℕ → EntryCall Found
  labelling s n = record { kind = labels; answer = label_answer t s n; before = []; after = [] }

  -- the label's place, as C gets it
  abbrev pub labelling_place : List ℕ → ℕ → EntryCall Labelled
  labelling_place s n = record { kind = label_places; answer = labelled t s n; before = []; after = [] }

  -- "pieces, cuts and copies give 18 to 20"
  abbrev pub pieces_rules : ℕ → ℕ → List ℕ → List Rule
  pieces_rules a b m = rule 18 malformed ∷ rule 19 (no_range a b) ∷ rule 20 (short (piece_width * length (pieces_in t a b)) m) ∷ []

  abbrev pub piecing : ℕ → ℕ → List ℕ → EntryCall Wrote
  piecing a b m = record { kind = counts; answer = pieces_answer t a b (length m); before = m ∷ []; after = pieces_memory t a b m ∷ [] }

  abbrev pub cut_rules : ℕ → ℕ → List ℕ → List ℕ → List Rule
  cut_rules a b m k =
      rule 18 malformed
      ∷ rule 19 (no_range a b)
      ∷ rule 20 (short (capture_width * length (cut_in t a b).captures) m || short (annotation_width * length (cut_in t a b).annotations) k)
      ∷ []

  abbrev pub cutting : ℕ → ℕ → List ℕ → List ℕ → EntryCall Summary
  cutting a b m k = record {
    kind = summaries;
    answer = cut_answer t a b (length m) (length k);
    before = m ∷ k ∷ [];
    after = cut_capture_memory t a b m k ∷ cut_annotation_memory t a b m k ∷ [];
  }

  -- "a lent dataset, whose length must be D (else 18)"
  abbrev pub copy_rules : List ℕ → ℕ → ℕ → List ℕ → List Rule
  copy_rules d a b m = rule 18 (malformed || not (eqb (length d) t.summary.size)) ∷ rule 19 (no_range a b) ∷ rule 20 (short (length (bytes_in t d a b)) m) ∷ []

  abbrev pub copying : List ℕ → ℕ → ℕ → List ℕ → EntryCall Wrote
  copying d a b m = record { kind = counts; answer = copy_answer t d a b (length m); before = m ∷ []; after = copy_memory t d a b m ∷ [] }

  -- "the listing gives 18 or 20"; "the listing (for all) also answer 18 unless each present label's place .."
  abbrev pub listing_rules : List ℕ → List ℕ → List Rule
  listing_rules s m = rule 18 (malformed || not (labels_ok s (annotations_of t))) ∷ rule 20 (short (length (listing_of t s)) m) ∷ []

  abbrev pub listing : List ℕ → List ℕ → EntryCall Wrote
  listing s m = record { kind = counts; answer = listing_answer t s (length m); before = m ∷ []; after = listing_memory t s m ∷ [] }

  -- request P1: "18 as for the listing, and if the sample rate text isn't a JSON number; 20 if the text exceeds the lent room or 61,440 bytes"
  abbrev pub writer_rules : List ℕ → List ℕ → List Rule
  writer_rules s m =
      rule 18 (malformed || not (labels_ok s (annotations_of t)) || not (rate_ok s t.summary.rate))
      ∷ rule 20 (short (length (metadata_of t s)) m || not (leb (length (metadata_of t s)) metadata))
      ∷ []

  abbrev pub writing : List ℕ → List ℕ → EntryCall Wrote
  writing s m = record { kind = counts; answer = writer_answer t s (length m); before = m ∷ []; after = writer_memory t s m ∷ [] }

  -- request P5: "a table that isn't well formed .. is 18 on either path; 20 for room"
  abbrev pub store_rules : List ℕ → List Rule
  store_rules m = rule 18 malformed ∷ rule 20 (short (length (stored_of t)) m) ∷ []

  abbrev pub storing : List ℕ → EntryCall Wrote
  storing m = record { kind = counts; answer = store_answer t (length m); before = m ∷ []; after = store_memory t m ∷ [] }

-- ---- a stored table, f being the bytes of its file; request P5: "Lowest number first, except that 21 and 22 are judged before 18"
-- "21 wrong mark or version, 22 wrong length for its counts"; 18 "on reading, with the file's own rows"
abbrev pub load_rules : List ℕ → List ℕ → List ℕ → List Rule
load_rules f caps notes =
    rule 21 (not (opens f))
    ∷ rule 22 (not (length_ok f))
    ∷ rule 18 (malformed (table_in f))
    ∷ rule 20 (short (capture_width * (table_in f).summary.captures) caps || short (annotation_width * (table_in f).summary.annotations) notes)
    ∷ []

abbrev pub loading : List ℕ → List ℕ → List ℕ → EntryCall Summary
loading f caps notes = record {
  kind = summaries;
  answer = load_answer f (length caps) (length notes);
  before = caps ∷ notes ∷ [];
  after = captures_loaded f caps notes ∷ annotations_loaded f caps notes ∷ [];
}

-- ---- a text judged as it arrives, st being the state handed in; request P6: "A state handed back in gives 18 exactly when no blocks lead to it" (specs/Streamed
-- says which these are). No memory is lent to be written
abbrev pub feed_rules : State → List Rule
feed_rules st = rule 18 (not (is_reachable st)) ∷ []

abbrev pub feeding : State → List ℕ → EntryCall Fed
feeding st chunk = record { kind = feds; answer = fed_answer st chunk; before = []; after = [] }

-- 18 first: a state that nothing leads to has no text that 1 or 2 could be asked of
abbrev pub finishing : State → EntryCall ℕ
finishing st = record { kind = numbers; answer = finished st; before = []; after = [] }

-- ---- the entries; those of `export`, `export_listing`, `export_writer`, `export_stored` and `export_stream` answer and write the same
pub record OfTable (t : Table) : Type 0 where
  pub locate : (i : ℕ) → RefusesBy (locate_rules t i) (locating t i)
  pub label : (s : List ℕ) (n : ℕ) → RefusesBy (label_rules t s n) (labelling t s n)
  pub label_place : (s : List ℕ) (n : ℕ) → RefusesBy (label_rules t s n) (labelling_place t s n)
  pub pieces : (a b : ℕ) (m : List ℕ) → RefusesBy (pieces_rules t a b m) (piecing t a b m)
  pub cut : (a b : ℕ) (m k : List ℕ) → RefusesBy (cut_rules t a b m k) (cutting t a b m k)
  pub copy : (d : List ℕ) (a b : ℕ) (m : List ℕ) → RefusesBy (copy_rules t d a b m) (copying t d a b m)
  pub list : (s m : List ℕ) → RefusesBy (listing_rules t s m) (listing t s m)
  pub write : (s m : List ℕ) → RefusesBy (writer_rules t s m) (writing t s m)
  pub store : (m : List ℕ) → RefusesBy (store_rules t m) (storing t m)

pub record Demand1 : Type 0 where
  pub judge_text : (s : List ℕ) → JudgedBy s (lowest (judge_rules s))
  pub judge : (s : List ℕ) (d : ℕ) → Refuses (judging s d)
  pub read : (s : List ℕ) (d : ℕ) (caps notes : List ℕ) → Refuses (reading s d caps notes)
  pub summary : (k : Contents) (d : ℕ) → RefusesBy (layout_rules k d) (summing k d)
  pub lay : (k : Contents) (d : ℕ) (caps notes : List ℕ) → RefusesBy (lay_rules k d caps notes) (laying k d caps notes)
  pub table : (t : Table) → OfTable t
  pub load : (f caps notes : List ℕ) → RefusesInOrder (load_rules f caps notes) (loading f caps notes)
  pub feed : (st : State) (chunk : List ℕ) → RefusesBy (feed_rules st) (feeding st chunk)
  pub finish : (st : State) → RefusesInOrder (finish_rules st) (finishing st)
