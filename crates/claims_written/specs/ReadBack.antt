-- Request P1's claim: the metadata that is written of a table reads back as that table. t is a table, s the metadata that its texts stand in,
-- m the lent output.
use Rattle.std.specs.Prelude.{◌≡◌, ◌↔◌, true, cond, List, [], ◌∷◌, ℕ, ◌≤◌, length, take}
use Rattle.limits.specs.Limits.{nesting}
use Rattle.json_grammar.specs.Grammar.{Number, Text}
use Rattle.table.specs.declared.Place.{Place}
use Rattle.table.specs.declared.Annotation.{Annotation}
use Rattle.table.specs.declared.Summary.{Summary}
use Rattle.table.specs.Place.{absent}
use Rattle.table.specs.Rows.{Table, table, captures_of, annotations_of}
use Rattle.table.specs.Wrote.{wrote}
use Rattle.table_cuts.specs.Cut.{cut_answer, cut_capture_memory, cut_annotation_memory}
use Rattle.table_steps.specs.Calls.{Held}
use Rattle.table_steps.specs.Steps.{Step, run}
use Rattle.reader.specs.Reading.{read_answer, table_read}
use Rattle.listing_labels.specs.Text.{part}
use Rattle.listing.specs.Listing.{listing_answer, listing_memory}
use Rattle.writer.specs.Metadata.{metadata_of}
use Rattle.writer.specs.Writer.{is_number, writable, text_fits, writer_answer, writer_memory}
use Rattle.claims.specs.Room.{RoomFor}

-- ---- "the same table; only text places may differ, and the texts found there are equal bytes"
-- the text at p in s, and the one at q in w: present together
pub record SameText (s : List ℕ) (p : Place) (w : List ℕ) (q : Place) : Type 0 where
  pub presence : absent q ≡ absent p
  pub len : q.len ≡ p.len
  pub bytes : part w q ≡ part s p

pub record SameAnnotation (s w : List ℕ) (r q : Annotation) : Type 0 where
  pub start : q.start ≡ r.start
  pub end : q.end ≡ r.end
  pub label : SameText s r.texts.label w q.texts.label

-- rows of s and rows of w, one beside the other
pub data SameAnnotations (s w : List ℕ) : List Annotation → List Annotation → Type 0 where
  no_more : SameAnnotations s w [] []
  and_next : {r q : Annotation} {rs qs : List Annotation} → SameAnnotation s w r q → SameAnnotations s w rs qs → SameAnnotations s w (r ∷ rs) (q ∷ qs)

-- the summary, with the sample rate at another place
abbrev pub rate_at : Place → Summary → Summary
rate_at p t = record {
  refusal = t.refusal;
  datatype = t.datatype;
  channels = t.channels;
  width = t.width;
  offset = t.offset;
  trailing = t.trailing;
  samples = t.samples;
  size = t.size;
  captures = t.captures;
  annotations = t.annotations;
  rate = p;
}

-- the table t, whose texts stand in s, and the table b, whose texts stand in w
pub record SameTable (t : Table) (s : List ℕ) (b : Table) (w : List ℕ) : Type 0 where
  pub summary : b.summary ≡ rate_at b.summary.rate t.summary
  pub rate : SameText s t.summary.rate w b.summary.rate
  pub captures : captures_of b ≡ captures_of t
  pub annotations : SameAnnotations s w (annotations_of t) (annotations_of b)

-- "Reading it with the same D": w is read, with rows into caps and notes
abbrev pub table_back : Table → List ℕ → List ℕ → List ℕ → Table
table_back t w caps notes = table_read w t.summary.size caps notes

pub record ReadsBack (t : Table) (s w caps notes : List ℕ) : Type 0 where
  pub accepted : (table_back t w caps notes).summary.refusal ≡ 0
  pub same : SameTable t s (table_back t w caps notes) w

-- ---- what the writer leaves
-- "a writer reports the bytes it wrote": so many, from the front of the lent output
abbrev pub text_written : Table → List ℕ → List ℕ → List ℕ
text_written t s m = take (writer_answer t s (length m)).count (writer_memory t s m)

-- w was written of t, and b is read back from it: b is written again as w, and listed as t, whatever the output k held
pub record Again (t : Table) (s : List ℕ) (b : Table) (w : List ℕ) : Type 0 where
  pub answer : (k : List ℕ) → length w ≤ length k → writer_answer b w (length k) ≡ wrote 0 (length w)
  pub bytes : (k : List ℕ) → length w ≤ length k → text_written b w k ≡ w
  pub listing : (k : List ℕ) → listing_answer b w (length k) ≡ listing_answer t s (length k)
  pub lines : (k : List ℕ) → listing_memory b w k ≡ listing_memory t s k

-- of a call that was not refused
pub record Written (t : Table) (s m : List ℕ) : Type 0 where
  pub count : (writer_answer t s (length m)).count ≡ length (text_written t s m)
  pub text : text_written t s m ≡ metadata_of t s
  -- the grammar of ECMA-404 derives it
  pub derived : Text nesting (text_written t s m)
  pub back : (caps notes : List ℕ) → RoomFor t caps notes → ReadsBack t s (text_written t s m) caps notes
  pub again : (caps notes : List ℕ) → RoomFor t caps notes → Again t s (table_back t (text_written t s m) caps notes) (text_written t s m)

-- ---- "Write the metadata for what we deliver"
-- the table that a cut to [a, b) leaves, with rows into m and k
abbrev pub table_cut : Table → ℕ → ℕ → List ℕ → List ℕ → Table
table_cut t a b m k = table (cut_answer t a b (length m) (length k)) (cut_capture_memory t a b m k) (cut_annotation_memory t a b m k)

-- a recording as it was read from s, a cut of it, a cut of that, and so on
pub data Delivered (s : List ℕ) : Table → Type 0 where
  as_read : (d : ℕ) (caps notes : List ℕ) → (read_answer s d caps notes).refusal ≡ 0 → Delivered s (table_read s d caps notes)
  cut_of : {t : Table} → Delivered s t → (a b : ℕ) (m k : List ℕ) → (cut_answer t a b (length m) (length k)).refusal ≡ 0 → Delivered s (table_cut t a b m k)

-- never 18: 0 if the text fits the room n and 61,440 bytes, else 20
pub record WrittenByRoom (t : Table) (s : List ℕ) : Type 0 where
  pub answer : (n : ℕ) → writer_answer t s n ≡ cond (text_fits (metadata_of t s) n) (wrote 0 (length (metadata_of t s))) (wrote 20 0)
  -- and then, as of every table
  pub fits : (m : List ℕ) → text_fits (metadata_of t s) (length m) ≡ true → Written t s m

-- ---- the claim
pub record WrittenReadsBack : Type 0 where
  -- of every table, whether it comes from a recording or not
  pub every : (t : Table) (s m : List ℕ) → (writer_answer t s (length m)).refusal ≡ 0 → Written t s m
  pub delivered : {s : List ℕ} {t : Table} → Delivered s t → WrittenByRoom t s
  -- after any list of demand 3's steps the table is one that is delivered
  pub steps : {s : List ℕ} (z : Held) → Delivered s z.table → (ks : List Step) → Delivered s (run z ks).table
  -- 18 refuses no cut of a table that it does not refuse
  pub cut : (t : Table) (s : List ℕ) → writable t s ≡ true → (a b : ℕ) (m k : List ℕ) → (cut_answer t a b (length m) (length k)).refusal ≡ 0
      → writable (table_cut t a b m k) s ≡ true
  -- "if the sample rate text isn't a JSON number": the writer's test is the grammar's
  pub number : (x : List ℕ) → (is_number x ≡ true) ↔ Number x
