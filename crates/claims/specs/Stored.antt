-- Request P5's claim: "Reading what was written gives the table back, and a stored file that is read and written again is the same bytes".
-- t is a table, m the output lent to store it, f the bytes of a file, and caps and notes the memories lent for the rows that are loaded.
use Rattle.std.specs.Prelude.{◌≡◌, true, List, ℕ, ◌≤◌, ◌<◌, ◌^◌, length, get_or, take}
use Rattle.table.specs.Memory.{written}
use Rattle.table.specs.Rows.{capture_numbers, annotation_numbers, flat, Table, table, captures_of, annotations_of}
use Rattle.table.specs.Table.{well_formed}
use Rattle.table.specs.Wrote.{wrote}
use Rattle.table_stored.specs.Form.{stored_of}
use Rattle.table_stored.specs.Store.{store_answer, store_memory}
use Rattle.table_stored.specs.Load.{load_answer, captures_loaded, annotations_loaded}
use Rattle.claims.specs.Room.{RoomFor}
use Rattle.claims.specs.Demand1.{locating, labelling, labelling_place, piecing, cutting, copying, listing, writing, storing}

-- ---- "the table back"
pub record EqualTables (t b : Table) : Type 0 where
  pub summary : b.summary ≡ t.summary
  pub captures : captures_of b ≡ captures_of t
  pub annotations : annotations_of b ≡ annotations_of t

-- each call of demand 1 answers of b as of t and leaves the same in lent memory, for all arguments; s is the metadata: "Label texts stay in
-- the metadata file"
pub record AnswersAlike (t b : Table) : Type 0 where
  pub locate : (i : ℕ) → locating b i ≡ locating t i
  pub label : (s : List ℕ) (n : ℕ) → labelling b s n ≡ labelling t s n
  pub label_place : (s : List ℕ) (n : ℕ) → labelling_place b s n ≡ labelling_place t s n
  pub pieces : (x y : ℕ) (m : List ℕ) → piecing b x y m ≡ piecing t x y m
  pub cut : (x y : ℕ) (m k : List ℕ) → cutting b x y m k ≡ cutting t x y m k
  pub copy : (d : List ℕ) (x y : ℕ) (m : List ℕ) → copying b d x y m ≡ copying t d x y m
  pub list : (s m : List ℕ) → listing b s m ≡ listing t s m
  pub write : (s m : List ℕ) → writing b s m ≡ writing t s m
  pub store : (m : List ℕ) → storing b m ≡ storing t m

-- ---- what the calls leave
-- the file, "a writer reports the bytes it wrote": so many, from the front of the lent output
abbrev pub file_stored : Table → List ℕ → List ℕ
file_stored t m = take (store_answer t (length m)).count (store_memory t m)

-- the table, with its rows in the lent memories
abbrev pub table_loaded : List ℕ → List ℕ → List ℕ → Table
table_loaded f caps notes = table (load_answer f (length caps) (length notes)) (captures_loaded f caps notes) (annotations_loaded f caps notes)

-- ---- "Reading what was written gives the table back"
pub record LoadsBack (t : Table) (f caps notes : List ℕ) : Type 0 where
  pub accepted : (load_answer f (length caps) (length notes)).refusal ≡ 0
  pub same : EqualTables t (table_loaded f caps notes)
  pub alike : AnswersAlike t (table_loaded f caps notes)
  -- "from the front of the lent memory; beyond them nothing changes"
  pub capture_memory : captures_loaded f caps notes ≡ written (flat capture_numbers (captures_of t)) caps
  pub annotation_memory : annotations_loaded f caps notes ≡ written (flat annotation_numbers (annotations_of t)) notes

pub record Stored (t : Table) (m : List ℕ) : Type 0 where
  pub answer : store_answer t (length m) ≡ wrote 0 (length (stored_of t))
  pub output : store_memory t m ≡ written (stored_of t) m
  pub file : file_stored t m ≡ stored_of t
  pub back : (caps notes : List ℕ) → RoomFor t caps notes → LoadsBack t (file_stored t m) caps notes

-- ---- "a stored file that is read and written again is the same bytes"
pub record StoredAgain (f caps notes m : List ℕ) : Type 0 where
  pub answer : store_answer (table_loaded f caps notes) (length m) ≡ wrote 0 (length f)
  pub bytes : file_stored (table_loaded f caps notes) m ≡ f

-- ---- the claim
pub record StoredTables : Type 0 where
  -- of every well-formed table, whether it comes from a recording or not, with room; no memory has 2^64 bytes
  pub every : (t : Table) → well_formed t ≡ true → (m : List ℕ) → length (stored_of t) ≤ length m → length m < 2 ^ 64 → Stored t m
  -- of every file that is loaded, whether it was stored here or not
  pub again : (f : List ℕ) → ((i : ℕ) → get_or f i 0 < 256) → (caps notes : List ℕ) → (load_answer f (length caps) (length notes)).refusal ≡ 0
      → (m : List ℕ) → length f ≤ length m → StoredAgain f caps notes m
