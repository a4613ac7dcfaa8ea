-- A stored table loads as it was, and a loaded one is stored as it was.
use Prim.Native.Nat.{ℕ, ◌+◌, ◌-◌, ◌*◌, ◌^◌, ◌≤◌, ◌<◌}
use mathlib.Core.Path.{◌≡◌, refl, sym, ap, ◌∙◌}
use mathlib.Core.Bool.{true}
use mathlib.Core.List.{List, [], ◌∷◌, ◌++◌, append_assoc, append-nil}
use native.Mathlib.Omega.{arith}
use native.Mathlib.Nat.{mul-le-mul_right}
use lib.ListN.{length, take, drop, length-append, length-drop, take-append-drop}
use lib.Seq.{take_at, drop_at, take-add, take_all, length-take-le}
use lib.Dec.{leb}
use borrow.Author.Tests.{le-leb, eq-eqb, leb-true, eqb-true}
use Rattle.limits.specs.Limits.{metadata, dataset}
use Rattle.json_names.specs.Same.{same}
use Rattle.json_names.proofs.SameLaws.{same_is}
use Rattle.sigmf_datatypes.proofs.Laws.{counted, listed_below, width_most}
use Rattle.little_endian.specs.LittleEndian.{little_endian, number_width, numbers_of}
use Rattle.little_endian.proofs.NumberLaws.{Bytes, bytes_take, bytes_drop, numbers_length}
use Rattle.table.specs.declared.Place.{Place}
use Rattle.table.specs.declared.Capture.{Capture}
use Rattle.table.specs.declared.Annotation.{Annotation}
use Rattle.table.specs.declared.Summary.{Summary}
use Rattle.table.specs.Rows.{capture_width, capture_numbers, capture_at, annotation_width, annotation_numbers, annotation_at, flat, captures, annotations, Table, table, captures_of, annotations_of}
use Rattle.table.specs.Place.{ends_within}
use Rattle.table.specs.Samples.{header_sum, next_start}
use Rattle.table.specs.Summary.{summary_width, summary_numbers}
use Rattle.table.specs.Table.{own_entries, texts_ok, well_formed}
use Rattle.table.specs.Judge.{captures_ok, annotations_ok}
use Rattle.table.proofs.Bools.{and_right}
use Rattle.table.proofs.ObeyLaws.{row_good, note_good}
use Rattle.table.proofs.RowLaws.{rest_length, captures_back, annotations_back}
use Rattle.table.proofs.TableLaws.{format_facts, Numbers, formed, well_formed_lem}
use Rattle.table.proofs.SummaryLaws as Summaries
use Rattle.table_stored.specs.Form.{opening, opening_size, head_size, eight_each, summary_in, capture_bytes, annotation_bytes, stored_of, table_in}
use Rattle.table_stored.specs.Load.{opens, length_ok}
use Rattle.table_stored.proofs.FormLaws.{Small, small_append, numbers_exact, numbers_back, eight_back, captures_front, annotations_front, opening_length, summary_length, captures_length, annotations_length, capture_bytes_lem, stored_length}

-- ---- the numbers of a well-formed table fit in eight bytes
place_ends : (p : Place) → ends_within p ≡ true → p.at + p.len ≤ metadata
unfolding ends_within
place_ends p e = leb-true _ _ e

summary_small : (t : Summary) → Numbers t → t.trailing ≤ dataset → t.captures < 2 ^ 64 → t.annotations < 2 ^ 64 → Small (summary_numbers t)
summary_small t N h x y =
    let F = format_facts t N.format in
    let c = listed_below t.datatype F.code in
    let w = width_most t.datatype t.channels F.few in
    let r = place_ends t.rate N.rate in
    omega (arith, N.said, counted, F.few, F.wide, N.ends, N.small)

next_most : (o e w s h : ℕ) (rs : List Capture) → captures_ok o e w s h rs ≡ true → next_start e (own_entries rs) ≤ e
unfolding next_start
next_most o e w s h [] q = omega arith
next_most o e w s h (r ∷ t) q = (row_good o e w s h r t q).upto

captures_small : (o e w s h : ℕ) (rs : List Capture) → e < 2 ^ 64 → (e - o) * w + (h + header_sum (own_entries rs)) < 2 ^ 64 → captures_ok o e w s h rs ≡ true → Small (flat capture_numbers rs)
unfolding flat header_sum
captures_small o e w s h [] a b q = tt
captures_small o e w s h (r ∷ t) a b q =
    let G = row_good o e w s h r t q in
    let k : r.start - o ≤ e - o = omega (arith, G.upto) in
    let m = mul-le-mul_right w k in
    let n = next_most o e w r.start (h + r.header) t G.then in
    let x : Small (capture_numbers r) = omega (arith, G.upto, G.ends, n, G.first, m) in
    small_append (capture_numbers r) (flat capture_numbers t) x (captures_small o e w r.start (h + r.header) t a (omega arith) G.then)

annotations_small : (e s : ℕ) (rs : List Annotation) → e < 2 ^ 64 → annotations_ok e s rs ≡ true → Small (flat annotation_numbers rs)
unfolding flat texts_ok
annotations_small e s [] a q = tt
annotations_small e s (r ∷ t) a q =
    let G = note_good e s r t q in
    let p = place_ends r.texts.label G.texts in
    let x : Small (annotation_numbers r) = omega (arith, G.up, G.upto) in
    small_append (annotation_numbers r) (flat annotation_numbers t) x (annotations_small e r.start t a G.then)

-- all of them
pub record Storable (t : Table) : Type 0 where
  pub head : Small (summary_numbers t.summary)
  pub capture_rows : Small (flat capture_numbers (captures_of t))
  pub annotation_rows : Small (flat annotation_numbers (annotations_of t))

pub formed_numbers : (t : Table) → well_formed t ≡ true → t.summary.captures < 2 ^ 64 → t.summary.annotations < 2 ^ 64 → Storable t
formed_numbers t w c n =
    let s = t.summary in
    let F = formed s t.captures t.annotations w in
    let L = F.laid in
    let e : s.offset + s.samples < 2 ^ 64 = omega (arith, L.ends) in
    let z : s.offset + s.samples - s.offset ≡ s.samples = omega arith in
    let b : (s.offset + s.samples - s.offset) * s.width + (0 + header_sum (own_entries (captures_of t))) < 2 ^ 64 = rw z (omega (arith, L.total, L.small)) in
    record {
      head = summary_small s F.nums (omega (arith, L.total, L.small)) c n;
      capture_rows = captures_small s.offset (s.offset + s.samples) s.width s.offset 0 (captures_of t) e b L.in_order;
      annotation_rows = annotations_small (s.offset + s.samples) s.offset (annotations_of t) e F.in_order;
    }

-- ---- four parts one after the other: their places, and the whole
record Parts (f a b c d : List ℕ) (i j k : ℕ) : Type 0 where
  first : take i f ≡ a
  second : take j (drop i f) ≡ b
  third : take k (drop (i + j) f) ≡ c
  last : drop (i + j + k) f ≡ d

apart : (a b c d : List ℕ) (i j k : ℕ) → length a ≡ i → length b ≡ j → length c ≡ k → Parts (a ++ b ++ c ++ d) a b c d i j k
apart a b c d i j k x y z =
    let e : a ++ b ++ c ++ d ≡ a ++ b ++ (c ++ d) = append_assoc (a ++ b) c d in
    let g : a ++ b ++ (c ++ d) ≡ a ++ (b ++ (c ++ d)) = append_assoc a b (c ++ d) in
    let m : length (a ++ b) ≡ i + j = omega (arith, length-append a b) in
    let n : length (a ++ b ++ c) ≡ i + j + k = omega (arith, length-append (a ++ b) c) in
    record {
      first = rw (e, g) (take_at a (b ++ (c ++ d)) i x);
      second = rw (e, g, drop_at a (b ++ (c ++ d)) i x) (take_at b (c ++ d) j y);
      third = rw (e, drop_at (a ++ b) (c ++ d) (i + j) m) (take_at c d k z);
      last = drop_at (a ++ b ++ c) d (i + j + k) n;
    }

together : (f a b c d : List ℕ) (i j k : ℕ) → Parts f a b c d i j k → a ++ b ++ c ++ d ≡ f
together f a b c d i j k P = rw (← P.first, ← P.second, ← P.third, ← P.last, ← take-add i j f, ← take-add (i + j) k f) (take-append-drop (i + j + k) f)

-- ---- tables of the same summary and rows
module _ (t b : Table) (s : b.summary ≡ t.summary) (c : captures_of b ≡ captures_of t) (n : annotations_of b ≡ annotations_of t) where
  pub same_stored : stored_of b ≡ stored_of t
  unfolding stored_of
  same_stored = rw (c, n, s)

  pub same_formed : well_formed t ≡ true → capture_width * b.summary.captures ≤ length b.captures → annotation_width * b.summary.annotations ≤ length b.annotations → well_formed b ≡ true
  same_formed w x y =
      let F = formed t.summary t.captures t.annotations w in
      well_formed_lem b.summary b.captures b.annotations (record {
        nums = rw s F.nums;
        laid = record { fit = x; total = rw (c, s) F.laid.total; small = rw s F.laid.small; ends = rw s F.laid.ends; in_order = rw (c, s) F.laid.in_order };
        noted = y;
        in_order = rw (n, s) F.in_order;
      })

-- ---- a stored table loads as it was
-- the table with its own rows alone
abbrev pub own_rows : Table → Table
own_rows t = table t.summary (flat capture_numbers (captures_of t)) (flat annotation_numbers (annotations_of t))

pub record Loads (t : Table) : Type 0 where
  pub marked : opens (stored_of t) ≡ true
  pub long : length_ok (stored_of t) ≡ true
  pub read : table_in (stored_of t) ≡ own_rows t
  pub formed : well_formed (table_in (stored_of t)) ≡ true

module _ (t : Table) where
  pub own_captures : captures_of (own_rows t) ≡ captures_of t
  own_captures = rw (rest_length (capture_at t.captures) t.summary.captures, append-nil (flat capture_numbers (captures_of t))) at (captures_back (captures_of t) [])

  pub own_annotations : annotations_of (own_rows t) ≡ annotations_of t
  own_annotations = rw (rest_length (annotation_at t.annotations) t.summary.annotations, append-nil (flat annotation_numbers (annotations_of t))) at (annotations_back (annotations_of t) [])

  own_formed : well_formed t ≡ true → well_formed (own_rows t) ≡ true
  own_formed w = same_formed t (own_rows t) refl own_captures own_annotations w (omega (arith, captures_length t)) (omega (arith, annotations_length t))

  parts : Parts (stored_of t) opening (eight_each (summary_numbers t.summary)) (eight_each (flat capture_numbers (captures_of t))) (eight_each (flat annotation_numbers (annotations_of t)))
      opening_size (number_width * summary_width) (capture_bytes t.summary.captures)
  unfolding stored_of
  parts = apart opening _ _ _ opening_size (number_width * summary_width) _ opening_length (summary_length t.summary) (capture_bytes_lem t)

  stored_marked : opens (stored_of t) ≡ true
  unfolding opens same little_endian
  stored_marked = rw parts.first

  module _ (S : Storable t) where
    summary_read : summary_in (stored_of t) ≡ t.summary
    summary_read = rw (parts.second, numbers_back (summary_numbers t.summary) S.head) (Summaries.summary_back t.summary)

    count_read : (summary_in (stored_of t)).captures ≡ t.summary.captures
    count_read = ap (λ (s : Summary). s.captures) summary_read

    table_read_lem : table_in (stored_of t) ≡ own_rows t
    unfolding table_in
    table_read_lem =
        rw (summary_read, count_read, parts.third, parts.last, numbers_back (flat capture_numbers (captures_of t)) S.capture_rows, numbers_back (flat annotation_numbers (annotations_of t)) S.annotation_rows)

    stored_long : length_ok (stored_of t) ≡ true
    unfolding length_ok
    stored_long =
        let h : head_size ≤ length (stored_of t) = omega (arith, stored_length t) in
        rw (count_read, ap (λ (s : Summary). s.annotations) summary_read, le-leb _ _ h, eq-eqb _ _ (stored_length t))

pub stored_loads : (t : Table) → well_formed t ≡ true → t.summary.captures < 2 ^ 64 → t.summary.annotations < 2 ^ 64 → Loads t
stored_loads t w c n =
    let S = formed_numbers t w c n in
    record { marked = stored_marked t; long = stored_long t S; read = table_read_lem t S; formed = rw (table_read_lem t S) (own_formed t w) }

-- ---- a loaded table is stored as it was
-- bytes that are n numbers: their numbers, in eight bytes each, are those bytes
bytes_whole : (n : ℕ) (l : List ℕ) → length l ≡ number_width * n → Bytes l → (length (numbers_of l) ≡ n) × (eight_each (numbers_of l) ≡ l)
bytes_whole n l e h = rw (numbers_exact n l e) (numbers_length n l, eight_back n l e h)

-- the same of n rows, each w numbers wide; F gives the numbers of the rows that a memory holds
rows_whole : (w n : ℕ) (F : List ℕ → List ℕ) → ((m : List ℕ) → w * n ≤ length m → F m ≡ take (w * n) m) → (l : List ℕ) → length l ≡ number_width * (w * n) → Bytes l → eight_each (F (numbers_of l)) ≡ l
rows_whole w n F f l e h =
    let k = bytes_whole (w * n) l e h in
    ap eight_each (f (numbers_of l) (omega (arith, k.0)) ∙ take_all (w * n) (numbers_of l) (omega (arith, k.0))) ∙ k.1

module _ (f : List ℕ) (h : Bytes f) (o : opens f ≡ true) (l : length_ok f ≡ true) where
  long : length f ≡ head_size + capture_bytes (summary_in f).captures + annotation_bytes (summary_in f).annotations
  unfolding length_ok
  long = eqb-true _ _ (and_right (leb head_size (length f)) _ l)

  opening_back : take opening_size f ≡ opening
  unfolding opens
  opening_back = same_is (take opening_size f) opening o

  summary_back : eight_each (summary_numbers (summary_in f)) ≡ take (number_width * summary_width) (drop opening_size f)
  summary_back =
      let d = drop opening_size f in
      let e = length-take-le (number_width * summary_width) d (omega (arith, length-drop opening_size f, long)) in
      let k = bytes_whole summary_width (take (number_width * summary_width) d) e (bytes_take (number_width * summary_width) d (bytes_drop opening_size f h)) in
      ap eight_each (Summaries.numbers_back _ k.0) ∙ k.1

  captures_stored : eight_each (flat capture_numbers (captures_of (table_in f))) ≡ take (capture_bytes (summary_in f).captures) (drop head_size f)
  unfolding table_in
  captures_stored =
      let n = (summary_in f).captures in
      let d = drop head_size f in
      rows_whole capture_width n (λ m. flat capture_numbers (captures m n)) (λ m. captures_front m n) (take (capture_bytes n) d)
      (length-take-le (capture_bytes n) d (omega (arith, length-drop head_size f, long))) (bytes_take (capture_bytes n) d (bytes_drop head_size f h))

  annotations_stored : eight_each (flat annotation_numbers (annotations_of (table_in f))) ≡ drop (head_size + capture_bytes (summary_in f).captures) f
  unfolding table_in
  annotations_stored =
      let n = (summary_in f).annotations in
      let i = head_size + capture_bytes (summary_in f).captures in
      rows_whole annotation_width n (λ m. flat annotation_numbers (annotations m n)) (λ m. annotations_front m n) (drop i f) (omega (arith, length-drop i f, long)) (bytes_drop i f h)

  pub loaded_stores : stored_of (table_in f) ≡ f
  unfolding stored_of table_in
  loaded_stores =
      together f opening (eight_each (summary_numbers (summary_in f))) _ _ opening_size (number_width * summary_width) (capture_bytes (summary_in f).captures)
      (record { first = opening_back; second = sym summary_back; third = sym captures_stored; last = sym annotations_stored })
