-- The claim of request P5.
use Prim.Native.Nat.{ℕ, ◌+◌, ◌*◌, ◌≤◌, ◌<◌, ◌^◌}
use mathlib.Core.Path.{◌≡◌, refl, sym, ap, subst, ◌∙◌}
use mathlib.Core.Bool.{Bool, true, false, cond, ◌&&◌}
use mathlib.Core.List.{List, ◌++◌}
use native.Mathlib.Omega.{arith}
use lib.ListN.{length, get_or, take, drop, length-append, length-drop}
use lib.Seq.{take_at, take-append-le, drop-append-le}
use lib.Dec.{leb, eqb}
use borrow.Author.Tests.{le-leb, eq-eqb}
use Rattle.table.specs.declared.Summary.{Summary}
use Rattle.table.specs.Memory.{written, row}
use Rattle.table.specs.Rows.{capture_width, capture_of, capture_at, annotation_width, annotation_of, annotation_at, captures, annotations, Table, captures_of, annotations_of}
use Rattle.table.specs.Table.{well_formed, no_table}
use Rattle.table.specs.Wrote.{wrote}
use Rattle.table.proofs.TableLaws.{Formed, formed}
use Rattle.table_stored.specs.Form.{summary_in, stored_of, table_in}
use Rattle.table_stored.specs.Store.{store_answer, store_memory}
use Rattle.table_stored.specs.Load.{opens, length_ok, load_answer}
use Rattle.table_stored.proofs.FormLaws.{stored_length}
use Rattle.table_stored.proofs.BackLaws.{Loads, own_captures, own_annotations, stored_loads, loaded_stores, same_stored, same_formed}
use Rattle.claims.specs.Room.{RoomFor}
use Rattle.claims.specs.Stored.{EqualTables, file_stored, table_loaded, LoadsBack, Stored, StoredAgain, StoredTables}
use Rattle.claims.proofs.Alike.{answers_alike}
use Rattle.claims.proofs.Demand2.{all_same}

-- ---- a table that is stored with room
module _ (t : Table) (w : well_formed t ≡ true) (m : List ℕ) (h : length (stored_of t) ≤ length m) where
  store_is : store_answer t (length m) ≡ wrote 0 (length (stored_of t))
  unfolding store_answer
  store_is = rw (w, le-leb _ _ h)

  output_is : store_memory t m ≡ written (stored_of t) m
  output_is = λ i. cond (eqb (store_is i).refusal 0) (written (stored_of t) m) m

  file_is : file_stored t m ≡ stored_of t
  file_is = (λ i. take (store_is i).count (output_is i)) ∙ take_at (stored_of t) (drop (length (stored_of t)) m) (length (stored_of t)) refl

-- ---- rows at the front of a memory
front_row : (w : ℕ) (xs ys : List ℕ) (i : ℕ) → w * i + w ≤ length xs → row w (xs ++ ys) i ≡ row w xs i
unfolding row
front_row w xs ys i h =
    let g : w * i + w ≤ length (xs ++ ys) = omega (arith, length-append xs ys) in
    rw (le-leb _ _ g, le-leb _ _ h, drop-append-le (w * i) xs ys (omega arith)) (take-append-le w (drop (w * i) xs) ys (omega (arith, length-drop (w * i) xs)))

module _ (xs ys : List ℕ) (n : ℕ) where
  front_captures : capture_width * n ≤ length xs → captures (xs ++ ys) n ≡ captures xs n
  unfolding capture_at
  front_captures h = all_same (capture_at (xs ++ ys)) (capture_at xs) n (λ k l. ap capture_of (front_row capture_width xs ys k (omega arith)))

  front_annotations : annotation_width * n ≤ length xs → annotations (xs ++ ys) n ≡ annotations xs n
  unfolding annotation_at
  front_annotations h = all_same (annotation_at (xs ++ ys)) (annotation_at xs) n (λ k l. ap annotation_of (front_row annotation_width xs ys k (omega arith)))

-- ---- a file that is loaded
passed : (s : Summary) (a b c d : Bool) → (cond a (cond b (cond c (cond d s (no_table 20)) (no_table 18)) (no_table 22)) (no_table 21)).refusal ≡ 0
    → (a ≡ true) × (b ≡ true) × (c ≡ true) × (d ≡ true)
passed s true true true true e = (refl, refl, refl, refl)
passed s true true true false e = absurd (omega (arith, e))
passed s true true false d e = absurd (omega (arith, e))
passed s true false c d e = absurd (omega (arith, e))
passed s false b c d e = absurd (omega (arith, e))

module _ (f caps notes : List ℕ) (z : (load_answer f (length caps) (length notes)).refusal ≡ 0) where
  abbrev own : Table
  own = table_in f

  abbrev loaded : Table
  loaded = table_loaded f caps notes

  stages : (opens f ≡ true) × (length_ok f ≡ true) × (well_formed own ≡ true)
      × (leb (capture_width * (summary_in f).captures) (length caps) && leb (annotation_width * (summary_in f).annotations) (length notes) ≡ true)
  unfolding load_answer
  stages = passed (summary_in f) (opens f) (length_ok f) (well_formed own) _ z

  own_formed : well_formed own ≡ true
  own_formed = stages.2

  facts : Formed own.summary own.captures own.annotations
  facts = formed own.summary own.captures own.annotations own_formed

  summary_is : loaded.summary ≡ own.summary
  unfolding load_answer table_in
  summary_is = rw (stages.0, stages.1, stages.2, stages.3)

  captures_are : loaded.captures ≡ written own.captures caps
  captures_are = rw (eq-eqb _ 0 z)

  annotations_are : loaded.annotations ≡ written own.annotations notes
  annotations_are = rw (eq-eqb _ 0 z)

  loads_own : EqualTables own loaded
  loads_own = record {
    summary = summary_is;
    captures = (λ i. captures (captures_are i) (summary_is i).captures) ∙ front_captures own.captures _ own.summary.captures facts.laid.fit;
    annotations = (λ i. annotations (annotations_are i) (summary_is i).annotations) ∙ front_annotations own.annotations _ own.summary.annotations facts.noted;
  }

  loaded_formed : well_formed loaded ≡ true
  loaded_formed =
      let c = drop (length own.captures) caps in
      let n = drop (length own.annotations) notes in
      same_formed own loaded summary_is loads_own.captures loads_own.annotations own_formed
      (rw (captures_are, summary_is) (omega (arith, facts.laid.fit, length-append own.captures c)))
      (rw (annotations_are, summary_is) (omega (arith, facts.noted, length-append own.annotations n)))

  -- stored again
  module _ (g : (i : ℕ) → get_or f i 0 < 256) (m : List ℕ) (h : length f ≤ length m) where
    same_bytes : stored_of loaded ≡ f
    same_bytes = same_stored own loaded summary_is loads_own.captures loads_own.annotations ∙ loaded_stores f g stages.0 stages.1

    room : length (stored_of loaded) ≤ length m
    room = rw same_bytes h

    stored_again : StoredAgain f caps notes m
    stored_again = record {
      answer = store_is loaded loaded_formed m room ∙ ap (λ (x : List ℕ). wrote 0 (length x)) same_bytes;
      bytes = file_is loaded loaded_formed m room ∙ same_bytes;
    }

-- ---- a table that is stored, and loaded with room
module _ (t : Table) (w : well_formed t ≡ true) (m : List ℕ) (h : length (stored_of t) ≤ length m) (l : length m < 2 ^ 64) where
  L : Loads t
  L = stored_loads t w (omega (arith, stored_length t)) (omega (arith, stored_length t))

  module _ (caps notes : List ℕ) (r : RoomFor t caps notes) where
    abbrev file : List ℕ
    file = stored_of t

    summary_back : summary_in file ≡ t.summary
    unfolding table_in
    summary_back = ap (λ (b : Table). b.summary) L.read

    room_back : leb (capture_width * (summary_in file).captures) (length caps) && leb (annotation_width * (summary_in file).annotations) (length notes) ≡ true
    room_back = rw (ap (λ (s : Summary). s.captures) summary_back, ap (λ (s : Summary). s.annotations) summary_back, le-leb _ _ r.captures, le-leb _ _ r.annotations)

    answer_is : load_answer file (length caps) (length notes) ≡ t.summary
    unfolding load_answer
    answer_is = rw (L.marked, L.long, L.formed, room_back) summary_back

    accepted : (load_answer file (length caps) (length notes)).refusal ≡ 0
    accepted = ap (λ (s : Summary). s.refusal) answer_is ∙ (formed t.summary t.captures t.annotations w).nums.said

    same : EqualTables t (table_loaded file caps notes)
    same =
        let o = loads_own file caps notes accepted in
        record {
          summary = answer_is;
          captures = o.captures ∙ ap captures_of L.read ∙ own_captures t;
          annotations = o.annotations ∙ ap annotations_of L.read ∙ own_annotations t;
        }

    loads_back : LoadsBack t file caps notes
    loads_back = record {
      accepted = accepted;
      same = same;
      alike = answers_alike same w (loaded_formed file caps notes accepted);
      capture_memory = captures_are file caps notes accepted ∙ ap (λ (b : Table). written b.captures caps) L.read;
      annotation_memory = annotations_are file caps notes accepted ∙ ap (λ (b : Table). written b.annotations notes) L.read;
    }

  stored : Stored t m
  stored = record {
    answer = store_is t w m h;
    output = output_is t w m h;
    file = file_is t w m h;
    back = λ caps notes r. subst (λ (f : List ℕ). LoadsBack t f caps notes) (sym (file_is t w m h)) (loads_back caps notes r);
  }

pub stored_tables : StoredTables
stored_tables = record { every = stored; again = λ f g caps notes z m h. stored_again f caps notes z g m h }
