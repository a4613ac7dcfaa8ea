-- The calls that demand 3 speaks of, as the contracts of crates/table_pieces/src/lib.rt say them: what is answered, what lent memory holds after
-- the call, and what is read back off it.
use Rattle.std.specs.Prelude.{ℕ, List, length, take}
use Rattle.table.specs.Rows.{Table, table}
use Rattle.table.specs.Locate.{place_in}
use Rattle.table.specs.declared.Wrote.{Wrote}
use Rattle.table_pieces.specs.Pieces.{Piece, pieces_read, pieces_answer, pieces_memory}
use Rattle.table_cuts.specs.Cut.{Rows, rows_of, cut, cut_answer, cut_capture_memory, cut_annotation_memory}
use Rattle.table_pieces.specs.Copy.{sample_in, bytes_in, copy_answer, copy_memory}

-- a table and a dataset
pub record Held : Type 0 where
  pub table : Table
  pub bytes : List ℕ

-- ---- the calls
-- "Pieces, copies and the listing report how many pieces or bytes they wrote"
pub record Call : Type 0 where
  pub answer : Wrote
  pub memory : List ℕ

-- pieces of a to b into m
abbrev pub pieces_call : Held → ℕ → ℕ → List ℕ → Call
pieces_call z a b m = record { answer = pieces_answer z.table a b (length m); memory = pieces_memory z.table a b m }

-- the cut to a to b, its rows into m and k: the answer and both memories are a table
abbrev pub cut_call : Held → ℕ → ℕ → List ℕ → List ℕ → Table
cut_call z a b m k = table (cut_answer z.table a b (length m) (length k)) (cut_capture_memory z.table a b m k) (cut_annotation_memory z.table a b m k)

-- the copy of a to b into m
abbrev pub copy_call : Held → ℕ → ℕ → List ℕ → Call
copy_call z a b m = record { answer = copy_answer z.table z.bytes a b (length m); memory = copy_memory z.table z.bytes a b m }

-- ---- what is read back off the memories of a call
abbrev pub pieces_back : Held → ℕ → ℕ → List ℕ → List Piece
pieces_back z a b m = pieces_read (pieces_call z a b m).memory (pieces_call z a b m).answer.count

abbrev pub cut_back : Held → ℕ → ℕ → List ℕ → List ℕ → Rows
cut_back z a b m k = rows_of (cut_call z a b m k)

abbrev pub copy_back : Held → ℕ → ℕ → List ℕ → List ℕ
copy_back z a b m = take (copy_call z a b m).answer.count (copy_call z a b m).memory

-- the cut's table, with a dataset d
abbrev pub cut_held : Held → ℕ → ℕ → List ℕ → List ℕ → List ℕ → Held
cut_held z a b m k d = record { table = cut_call z a b m k; bytes = d }

-- ---- what document 01 says that they are
-- the cut to a to b, and the bytes of samples a to b
abbrev pub the_cut : Held → ℕ → ℕ → Rows
the_cut z a b = cut a b (rows_of z.table)

abbrev pub the_copy : Held → ℕ → ℕ → List ℕ
the_copy z a b = bytes_in z.table z.bytes a b

-- where sample i starts, and its bytes
abbrev pub sample_place : Held → ℕ → ℕ
sample_place z i = place_in z.table i

abbrev pub sample_of : Held → ℕ → List ℕ
sample_of z i = sample_in z.table z.bytes i
