-- The claim of request P1.
use mathlib.Core.Path.{◌≡◌, refl, sym, ap, subst, ◌∙◌}
use mathlib.Core.Bool.{Bool, true, false, cond}
use mathlib.Core.List.{List, [], ◌∷◌}
use Prim.Native.Nat.{ℕ, ◌≤◌}
use native.Mathlib.Omega.{arith}
use lib.ListN.{length, take, drop}
use lib.Seq.{take_at}
use lib.Dec.{leb, eqb}
use borrow.Author.Tests.{leb-true, le-leb, eqb-true}
use Rattle.limits.specs.Limits.{nesting, metadata}
use Rattle.json_grammar.specs.Grammar.{Text}
use Rattle.table.specs.declared.Wrote.{Wrote}
use Rattle.table.specs.Memory.{written}
use Rattle.table.specs.Rows.{Table}
use Rattle.table.specs.Wrote.{wrote}
use Rattle.table.proofs.Bools.{and_left, and_right}
use Rattle.table_steps.specs.Calls.{Held}
use Rattle.table_steps.specs.Steps.{Step, step_accepted, left, step, run}
use Rattle.listing.specs.Listing.{listing_answer}
use Rattle.writer.specs.Metadata.{metadata_of}
use Rattle.writer.specs.Writer.{writable, text_fits, writer_answer}
use Rattle.claims.specs.Room.{RoomFor}
use Rattle.claims_written.specs.ReadBack.{table_back, ReadsBack, text_written, Again, Written, Delivered, as_read, cut_of, WrittenByRoom, WrittenReadsBack}
use Rattle.claims_written.proofs.Numbers.{number_grammar}
use Rattle.claims_written.proofs.Writable.{Writable, writable_is, is_writable, read_writable, cut_writable}
use Rattle.claims_written.proofs.TextReads.{text_derived, text_reads}
use Rattle.claims_written.proofs.Again.{text_again, listing_again}

-- ---- the answer
passed : (n : ℕ) (b c : Bool) → (cond b (cond c (wrote 0 n) (wrote 20 0)) (wrote 18 0)).refusal ≡ 0 → (b ≡ true) × (c ≡ true)
passed n true true e = (refl, refl)
passed n true false e = absurd (omega (arith, e))
passed n false c e = absurd (omega (arith, e))

by_room : {t : Table} {s : List ℕ} → Writable t s → (n : ℕ) → writer_answer t s n ≡ cond (text_fits (metadata_of t s) n) (wrote 0 (length (metadata_of t s))) (wrote 20 0)
unfolding writer_answer
by_room z n = rw (is_writable z)

-- a writable table's text, with room, at the front of the output
module _ {t : Table} {s : List ℕ} (z : Writable t s) (k : List ℕ) (h : length (metadata_of t s) ≤ length k) (l : length (metadata_of t s) ≤ metadata) where
  answer_is : writer_answer t s (length k) ≡ wrote 0 (length (metadata_of t s))
  answer_is = by_room z (length k) ∙ rw (le-leb _ _ h, le-leb _ _ l)

  text_is : text_written t s k ≡ metadata_of t s
  text_is =
      (λ i. take (answer_is i).count (cond (eqb (answer_is i).refusal 0) (written (metadata_of t s) k) k))
      ∙ take_at (metadata_of t s) (drop (length (metadata_of t s)) k) (length (metadata_of t s)) refl

-- ---- the table read back
module _ {t : Table} {s : List ℕ} (z : Writable t s) (l : length (metadata_of t s) ≤ metadata) (caps notes : List ℕ) (m : RoomFor t caps notes) where
  abbrev w : List ℕ
  w = metadata_of t s

  abbrev b : Table
  b = table_back t w caps notes

  back : ReadsBack t s w caps notes
  back = text_reads t s z l caps notes m

  y : Writable b w
  y = read_writable w t.summary.size caps notes back.accepted

  same : metadata_of b w ≡ w
  same = text_again back.same

  room_again : (k : List ℕ) → length w ≤ length k → length (metadata_of b w) ≤ length k
  room_again k h = subst (λ (x : List ℕ). length x ≤ length k) (sym same) h

  short_again : length (metadata_of b w) ≤ metadata
  short_again = subst (λ (x : List ℕ). length x ≤ metadata) (sym same) l

  listing_same : (n : ℕ) → listing_answer b w n ≡ listing_answer t s n
  unfolding listing_answer
  listing_same n = rw (y.table, y.labels, z.table, z.labels, listing_again back.same)

  again : Again t s b w
  again = record {
    answer = λ k h. answer_is y k (room_again k h) short_again ∙ ap (λ (x : List ℕ). wrote 0 (length x)) same;
    bytes = λ k h. text_is y k (room_again k h) short_again ∙ same;
    listing = λ k. listing_same (length k);
    lines = λ k i. cond (eqb (listing_same (length k) i).refusal 0) (written (listing_again back.same i) k) k;
  }

-- ---- a call that was not refused
module _ (t : Table) (s m : List ℕ) (e : (writer_answer t s (length m)).refusal ≡ 0) where
  both : (writable t s ≡ true) × (text_fits (metadata_of t s) (length m) ≡ true)
  unfolding writer_answer
  both = passed (length (metadata_of t s)) (writable t s) (text_fits (metadata_of t s) (length m)) e

  z : Writable t s
  z = writable_is t s both.0

  room : length (metadata_of t s) ≤ length m
  room = leb-true _ _ (and_left _ _ both.1)

  short : length (metadata_of t s) ≤ metadata
  short = leb-true _ _ (and_right (leb (length (metadata_of t s)) (length m)) _ both.1)

  accepted_written : Written t s m
  accepted_written =
      let q = text_is z m room short in
      record {
        count = ap (λ (r : Wrote). r.count) (answer_is z m room short) ∙ ap length (sym q);
        text = q;
        derived = subst (λ (x : List ℕ). Text nesting x) (sym q) (text_derived t s z);
        back = λ caps notes r. subst (λ (x : List ℕ). ReadsBack t s x caps notes) (sym q) (text_reads t s z short caps notes r);
        again = λ caps notes r. subst (λ (x : List ℕ). Again t s (table_back t x caps notes) x) (sym q) (again z short caps notes r);
      }

-- ---- what is delivered
delivered_writable : {s : List ℕ} {t : Table} → Delivered s t → Writable t s
delivered_writable {s} (as_read d caps notes e) = read_writable s d caps notes e
delivered_writable {s} (cut_of {t} x a b m k e) = cut_writable t s (delivered_writable x) a b m k e

-- refused steps leave the table as it was
step_delivered : {s : List ℕ} (z : Held) (k : Step) → Delivered s z.table → Delivered s (step z k).table
unfolding step step_accepted left
step_delivered {s} z k x = go (step_accepted z k) refl where
  go : (b : Bool) → step_accepted z k ≡ b → Delivered s (cond b (left z k) z).table
  go true e = cut_of x k.from k.to k.captures k.annotations (eqb-true _ _ (and_left _ _ e))
  go false e = x

steps_delivered : {s : List ℕ} (z : Held) → Delivered s z.table → (ks : List Step) → Delivered s (run z ks).table
unfolding run
steps_delivered z x [] = x
steps_delivered z x (k ∷ ks) = steps_delivered (step z k) (step_delivered z k x) ks

by_room_written : {t : Table} {s : List ℕ} → Writable t s → WrittenByRoom t s
by_room_written {t} {s} z = record {
  answer = by_room z;
  fits = λ m h. accepted_written t s m (ap (λ (r : Wrote). r.refusal) (by_room z (length m)) ∙ rw h);
}

pub read_back : WrittenReadsBack
read_back = record {
  every = accepted_written;
  delivered = λ x. by_room_written (delivered_writable x);
  steps = steps_delivered;
  cut = λ t s e a b m k h. is_writable (cut_writable t s (writable_is t s e) a b m k h);
  number = number_grammar;
}
