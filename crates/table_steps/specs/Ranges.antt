-- Document 01, "Rows, pieces, cuts": what holds of the calls of pieces, cut and copy for a range of samples a to b (demand 3).
use Rattle.std.specs.Prelude.{ℕ, ◌+◌, ◌-◌, ◌*◌, ◌≤◌, ◌<◌, ◌≡◌, true, ◌⊎◌, List, length}
use Rattle.table.specs.declared.Capture.{Capture}
use Rattle.table.specs.Memory.{written}
use Rattle.table.specs.Rows.{capture_width, capture_numbers, annotation_width, annotation_numbers, flat, captures_of}
use Rattle.table.specs.Table.{well_formed, no_table}
use Rattle.table.specs.Wrote.{wrote}
use Rattle.table_pieces.specs.Pieces.{Piece, piece_width, piece_numbers, followed}
use Rattle.table_pieces.specs.Copy.{bytes_in, bytes_of}
use Rattle.table_pieces.specs.Bytes.{Among, OfSample, RowIn, OfHeader, Ascending}
use Rattle.table_steps.specs.Calls.{Held, pieces_call, cut_call, copy_call, pieces_back, cut_back, copy_back, cut_held, the_cut, the_copy, sample_place}

-- ---- pieces
-- "maximal runs of consecutive bytes, each first byte and length, ascending"
pub record Runs (z : Held) (a b : ℕ) (ps : List Piece) : Type 0 where
  -- none is empty, and no two touch
  pub ascending : Ascending ps
  -- each byte of a sample of the range is in a piece, and each byte of a piece is one of a sample of the range
  pub each : (x : ℕ) → OfSample (sample_place z) z.table.summary.width a b x → Among x ps
  pub only : (x : ℕ) → Among x ps → OfSample (sample_place z) z.table.summary.width a b x

-- the pieces of a to b
pub record Pieces (z : Held) (a b : ℕ) : Type 0 where
  pub list : List Piece
  pub runs : Runs z a b list
  pub unique : (ps : List Piece) → Runs z a b ps → ps ≡ list
  -- in order: of any dataset, the bytes of the pieces are those of the samples one after the other
  pub bytes : (d : List ℕ) → bytes_of d list ≡ bytes_in z.table d a b
  pub no_header : (x : ℕ) → Among x list → (r : Capture) → RowIn r (captures_of z.table) → OfHeader r x → ⊥
  pub no_trailer : (x : ℕ) → Among x list → x + z.table.summary.trailing < z.table.summary.size
  -- one more than the captures at most
  pub few : length list ≤ z.table.summary.captures + 1
  -- memory that has room for them holds them after the call, and they are read back
  pub done : (m : List ℕ) → piece_width * length list ≤ length m
      → pieces_call z a b m ≡ record { answer = wrote 0 (length list); memory = written (flat piece_numbers list) m }
  pub back : (m : List ℕ) → piece_width * length list ≤ length m → pieces_back z a b m ≡ list
  -- 20 otherwise
  pub short : (m : List ℕ) → length m < piece_width * length list → pieces_call z a b m ≡ record { answer = wrote 20 0; memory = m }

-- memory with room for them
pub record Room (z : Held) (a b : ℕ) (m : List ℕ) : Type 0 where
  pub list : List Piece
  pub runs : Runs z a b list
  pub room : piece_width * length list ≤ length m

-- pieces of a to b into l, of b to c into m and of a to c into n
pub record Joined (z : Held) (a b c : ℕ) (l m n : List ℕ) : Type 0 where
  pub first : (pieces_call z a b l).answer.refusal ≡ 0
  pub second : (pieces_call z b c m).answer.refusal ≡ 0
  pub whole : (pieces_call z a c n).answer.refusal ≡ 0
  -- as read back off the three memories: the first followed by the second, a touching pair joined, are the whole
  pub follow : followed (pieces_back z a b l) (pieces_back z b c m) ≡ pieces_back z a c n

-- ---- cuts
pub record Cuts (z : Held) (a b : ℕ) : Type 0 where
  -- as many rows as the table has at most
  pub few_captures : length (the_cut z a b).captures ≤ z.table.summary.captures
  pub few_annotations : length (the_cut z a b).annotations ≤ z.table.summary.annotations
  -- memories that have room for its rows hold them after the call
  pub done : (m k : List ℕ) → capture_width * length (the_cut z a b).captures ≤ length m → annotation_width * length (the_cut z a b).annotations ≤ length k
      → cut_call z a b m k
      ≡ record { summary = (the_cut z a b).summary; captures = written (flat capture_numbers (the_cut z a b).captures) m; annotations = written (flat annotation_numbers (the_cut z a b).annotations) k }
  -- 20 otherwise
  pub short : (m k : List ℕ) → (length m < capture_width * length (the_cut z a b).captures) ⊎ (length k < annotation_width * length (the_cut z a b).annotations)
      → cut_call z a b m k ≡ record { summary = no_table 20; captures = m; annotations = k }
  -- the summary with the rows read back off the memories is the cut, and a well-formed table
  pub back : (m k : List ℕ) → (cut_call z a b m k).summary.refusal ≡ 0 → cut_back z a b m k ≡ the_cut z a b
  pub formed : (m k : List ℕ) → (cut_call z a b m k).summary.refusal ≡ 0
      → well_formed (cut_call z a b m k) ≡ true
  -- a cut of a cut is the direct cut, in answer and memories of any size
  pub again : (m k : List ℕ) → (cut_call z a b m k).summary.refusal ≡ 0 → (d : List ℕ) (c e : ℕ) → a ≤ c → c ≤ e → e ≤ b
      → (m' k' : List ℕ) → cut_call (cut_held z a b m k d) c e m' k' ≡ cut_call z c e m' k'

-- ---- copies
pub record Copies (z : Held) (a b : ℕ) : Type 0 where
  -- W bytes a sample
  pub long : length (the_copy z a b) ≡ (b - a) * z.table.summary.width
  -- an output that has room for them holds them after the call
  pub done : (m : List ℕ) → (b - a) * z.table.summary.width ≤ length m
      → copy_call z a b m ≡ record { answer = wrote 0 ((b - a) * z.table.summary.width); memory = written (the_copy z a b) m }
  pub back : (m : List ℕ) → (b - a) * z.table.summary.width ≤ length m → copy_back z a b m ≡ the_copy z a b
  -- 20 otherwise
  pub short : (m : List ℕ) → length m < (b - a) * z.table.summary.width → copy_call z a b m ≡ record { answer = wrote 20 0; memory = m }
  -- a copy of a copy is the direct copy, in answer and memory of any size
  pub again : (m k y : List ℕ) → (cut_call z a b m k).summary.refusal ≡ 0 → (copy_call z a b y).answer.refusal ≡ 0 → (c e : ℕ) → a ≤ c → c ≤ e → e ≤ b
      → (y' : List ℕ) → copy_call (cut_held z a b m k (copy_back z a b y)) c e y' ≡ copy_call z c e y'

-- ---- 19 where a to b is no range of the recording
pub record Outside (z : Held) (a b : ℕ) : Type 0 where
  pub pieces : (m : List ℕ) → pieces_call z a b m ≡ record { answer = wrote 19 0; memory = m }
  pub cut : (m k : List ℕ) → cut_call z a b m k ≡ record { summary = no_table 19; captures = m; annotations = k }
  pub copy : (m : List ℕ) → copy_call z a b m ≡ record { answer = wrote 19 0; memory = m }
