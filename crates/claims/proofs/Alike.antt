-- Well-formed tables with the same summary and rows answer alike.
use Prim.Native.Nat.{ℕ, ◌-◌, ◌<◌}
use mathlib.Core.Path.{◌≡◌, refl, sym, ap, ◌∙◌}
use mathlib.Core.Bool.{Bool, true, false, cond}
use mathlib.Core.List.{List, [], ◌∷◌}
use lib.ListN.{length, get_or}
use lib.Dec.{ltb, eqb}
use borrow.Author.Tests.{ltb-true}
use Rattle.table.specs.declared.Annotation.{Annotation}
use Rattle.table.specs.declared.Wrote.{Wrote}
use Rattle.table.specs.Memory.{written}
use Rattle.table.specs.Rows.{capture_numbers, annotation_of, annotation_at, annotation_numbers, flat, Table}
use Rattle.table.specs.Samples.{place}
use Rattle.table.specs.Table.{well_formed}
use Rattle.table.specs.Locate.{locate_answer}
use Rattle.table_pieces.specs.Pieces.{piece_numbers, pieces_in, pieces_answer}
use Rattle.table_pieces.specs.Copy.{samples_from, bytes_in, copy_answer}
use Rattle.table_cuts.specs.Cut.{cut, cut_in, cut_answer}
use Rattle.listing_labels.specs.Label.{label_answer}
use Rattle.listing.specs.Listing.{listing_of, listing_answer}
use Rattle.writer.specs.Metadata.{metadata_of}
use Rattle.writer.specs.Writer.{writable, writer_answer}
use Rattle.table_stored.specs.Form.{stored_of}
use Rattle.table_stored.specs.Store.{store_answer}
use Rattle.table_stored.proofs.BackLaws.{same_stored}
use Rattle.export_listing.specs.LabelPlace.{labelled}
use Rattle.claims_accepted.proofs.RowLaws.{rest_row}
use Rattle.claims.specs.Demand1.{EntryCall, summaries, places, counts, labels, label_places}
use Rattle.claims.specs.Stored.{EqualTables, AnswersAlike}

-- a call that writes xs to the front of m if it is accepted
abbrev writes : List ℕ → Wrote → List ℕ → EntryCall Wrote
writes m r xs = record { kind = counts; answer = r; before = m ∷ []; after = cond (eqb r.refusal 0) (written xs m) m ∷ [] }

writes_alike : (m : List ℕ) {r q : Wrote} {xs ys : List ℕ} → r ≡ q → xs ≡ ys → writes m r xs ≡ writes m q ys
writes_alike m e f = λ i. writes m (e i) (f i)

module _ {t b : Table} (x : EqualTables t b) (w : well_formed t ≡ true) (v : well_formed b ≡ true) where
  locate_alike : (i : ℕ) → locate_answer b i ≡ locate_answer t i
  unfolding locate_answer
  locate_alike i = rw (w, v, x.captures, x.summary)

  -- annotation n of both
  notes_alike : (n : ℕ) → n < t.summary.annotations → annotation_at b.annotations n ≡ annotation_at t.annotations n
  notes_alike n h =
      let z = annotation_of [] in
      rest_row (annotation_at b.annotations) z b.summary.annotations n (rw x.summary h)
      ∙ ap (λ (rs : List Annotation). get_or rs n z) x.annotations
      ∙ sym (rest_row (annotation_at t.annotations) z t.summary.annotations n h)

  label_alike : (s : List ℕ) (n : ℕ) → (label_answer b s n ≡ label_answer t s n) × (labelled b s n ≡ labelled t s n)
  unfolding label_answer labelled
  label_alike s n = go (ltb n t.summary.annotations) refl where
    go : (c : Bool) → ltb n t.summary.annotations ≡ c → (label_answer b s n ≡ label_answer t s n) × (labelled b s n ≡ labelled t s n)
    go true q = let e = notes_alike n (ltb-true _ _ q) in (rw (w, v, x.summary, e), rw (w, v, x.summary, e))
    go false q = (rw (w, v, x.summary, q), rw (w, v, x.summary, q))

  pieces_same : (a c : ℕ) → pieces_in b a c ≡ pieces_in t a c
  pieces_same a c = rw (x.captures, x.summary)

  pieces_alike : (a c n : ℕ) → pieces_answer b a c n ≡ pieces_answer t a c n
  unfolding pieces_answer
  pieces_alike a c n = rw (w, v, pieces_same a c, x.summary)

  cut_same : (a c : ℕ) → cut_in b a c ≡ cut_in t a c
  cut_same a c = λ i. cut a c (record { summary = x.summary i; captures = x.captures i; annotations = x.annotations i })

  cut_alike : (a c n k : ℕ) → cut_answer b a c n k ≡ cut_answer t a c n k
  unfolding cut_answer
  cut_alike a c n k = rw (w, v, cut_same a c, x.summary)

  bytes_same : (d : List ℕ) (a c : ℕ) → bytes_in b d a c ≡ bytes_in t d a c
  bytes_same d a c = λ i. samples_from (place (x.summary i).offset (x.summary i).width (x.captures i)) (x.summary i).width d (c - a) a

  copy_alike : (d : List ℕ) (a c n : ℕ) → copy_answer b d a c n ≡ copy_answer t d a c n
  unfolding copy_answer
  copy_alike d a c n = rw (w, v, bytes_same d a c, x.summary)

  listing_same : (s : List ℕ) → listing_of b s ≡ listing_of t s
  unfolding listing_of
  listing_same s = rw (x.captures, x.annotations, x.summary)

  listing_alike : (s : List ℕ) (n : ℕ) → listing_answer b s n ≡ listing_answer t s n
  unfolding listing_answer
  listing_alike s n = rw (w, v, listing_same s, x.annotations)

  metadata_same : (s : List ℕ) → metadata_of b s ≡ metadata_of t s
  unfolding metadata_of
  metadata_same s = rw (x.captures, x.annotations, x.summary)

  writer_alike : (s : List ℕ) (n : ℕ) → writer_answer b s n ≡ writer_answer t s n
  unfolding writer_answer writable
  writer_alike s n = rw (w, v, metadata_same s, x.annotations, x.summary)

  stored_same : stored_of b ≡ stored_of t
  stored_same = same_stored t b x.summary x.captures x.annotations

  store_alike : (n : ℕ) → store_answer b n ≡ store_answer t n
  unfolding store_answer
  store_alike n = rw (w, v, stored_same)

  pub answers_alike : AnswersAlike t b
  answers_alike = record {
    locate = λ i j. record { kind = places; answer = locate_alike i j; before = []; after = [] };
    label = λ s n j. record { kind = labels; answer = (label_alike s n).0 j; before = []; after = [] };
    label_place = λ s n j. record { kind = label_places; answer = (label_alike s n).1 j; before = []; after = [] };
    pieces = λ a c m. writes_alike m (pieces_alike a c (length m)) (ap (flat piece_numbers) (pieces_same a c));
    cut = λ a c m k j. let e = cut_alike a c (length m) (length k) j in record {
      kind = summaries;
      answer = e;
      before = m ∷ k ∷ [];
      after =
          cond (eqb e.refusal 0) (written (flat capture_numbers (cut_same a c j).captures) m) m
          ∷ cond (eqb e.refusal 0) (written (flat annotation_numbers (cut_same a c j).annotations) k) k
          ∷ [];
    };
    copy = λ d a c m. writes_alike m (copy_alike d a c (length m)) (bytes_same d a c);
    list = λ s m. writes_alike m (listing_alike s (length m)) (listing_same s);
    write = λ s m. writes_alike m (writer_alike s (length m)) (metadata_same s);
    store = λ m. writes_alike m (store_alike (length m)) stored_same;
  }
