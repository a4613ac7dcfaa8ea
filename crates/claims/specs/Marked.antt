-- Document 01, "Marked examples, on this recording": the P lines, as one table. Each is said of the answer that a contract cites, and of the lent
-- memory afterwards.
use Rattle.std.specs.Prelude.{Bool, true, ◌&&◌, List, [], ◌∷◌, ◌++◌, ℕ, length, replicate}
use Prim.Native.String.{String}
use Rattle.json_blocks.specs.TextBytes.{ascii}
use Rattle.json_names.specs.Same.{same}
use Rattle.table.specs.declared.Summary.{Summary}
use Rattle.table.specs.Summary.{summary_numbers}
use Rattle.table.specs.Rows.{Table, table}
use Rattle.table_pieces.specs.Pieces.{pieces_answer, pieces_memory}
use Rattle.table_cuts.specs.Cut.{cut_answer, cut_capture_memory, cut_annotation_memory}
use Rattle.reader.specs.Reading.{read_answer, captures_read, annotations_read}

-- 01's recording, with a count for its annotation, and with more at the end of its top level
unfoldable pub metadata_with : String → List ℕ → List ℕ
metadata_with count more =
    ascii "{\"global\":{\"core:datatype\":\"ci16_le\",\"core:version\":\"1.0.0\"},\"captures\":[{\"core:sample_start\":0},{\"core:sample_start\":10,\"core:header_bytes\":8}],\"annotations\":[{\"core:sample_start\":4,\"core:sample_count\":"
    ++ ascii count
    ++ ascii ",\"core:label\":\"gate\\nannotation 6 8 \\\"gate\\\"\"}]"
    ++ more
    ++ ascii "}"

abbrev pub with_count : String → List ℕ
with_count count = metadata_with count []

-- "Other top-level members are allowed and ignored": one more, of k arrays in each other; they stand in the top level's object
abbrev pub nested : ℕ → List ℕ
nested k = metadata_with "2" (ascii ",\"x\":" ++ replicate k 0x5B ++ replicate k 0x5D)

-- lent memory, with more room than the answers need; 7 in each place
abbrev pub captures_lent : List ℕ
captures_lent = replicate 10 7

abbrev pub annotations_lent : List ℕ
annotations_lent = replicate 6 7

abbrev pub pieces_lent : List ℕ
pieces_lent = replicate 6 7

-- ---- reading
unfoldable pub answer : List ℕ → ℕ → Summary
answer s d = read_answer s d captures_lent annotations_lent

unfoldable pub capture_memory : List ℕ → ℕ → List ℕ
capture_memory s d = captures_read s d captures_lent annotations_lent

unfoldable pub annotation_memory : List ℕ → ℕ → List ℕ
annotation_memory s d = annotations_read s d captures_lent annotations_lent

-- the summary and both memories afterwards
unfoldable pub reads : List ℕ → ℕ → List ℕ → List ℕ → List ℕ → Bool
reads s d t caps notes = same (summary_numbers (answer s d)) t && same (capture_memory s d) caps && same (annotation_memory s d) notes

unfoldable pub gives : List ℕ → ℕ → ℕ → Bool
gives s d n = reads s d (n ∷ replicate 11 0) captures_lent annotations_lent

-- ---- pieces and cuts of a table
-- from a to b: the refusal n, the count c, and the memory m afterwards
unfoldable pub pieces : ℕ → ℕ → ℕ → ℕ → List ℕ → Table → Bool
pieces a b n c m t =
    let r = pieces_answer t a b (length pieces_lent) in
    same (r.refusal ∷ r.count ∷ []) (n ∷ c ∷ []) && same (pieces_memory t a b pieces_lent) m

-- the summary r, and both memories m and k afterwards
unfoldable pub cuts : ℕ → ℕ → List ℕ → List ℕ → List ℕ → Table → Bool
cuts a b r m k t =
    same (summary_numbers (cut_answer t a b (length captures_lent) (length annotations_lent))) r
    && same (cut_capture_memory t a b captures_lent annotations_lent) m && same (cut_annotation_memory t a b captures_lent annotations_lent) k

-- of the recording, as it was read
abbrev pub of_recording : (Table → Bool) → Bool
of_recording f = f (table (answer (with_count "2") 108) (capture_memory (with_count "2") 108) (annotation_memory (with_count "2") 108))

-- each P line holds
unfoldable pub marked : List Bool
marked =
    -- the recording itself
    reads (with_count "2") 108 (0 ∷ 16 ∷ 1 ∷ 4 ∷ 0 ∷ 0 ∷ 25 ∷ 108 ∷ 2 ∷ 1 ∷ 0 ∷ 0 ∷ []) (0 ∷ 10 ∷ 0 ∷ 0 ∷ 10 ∷ 25 ∷ 48 ∷ 8 ∷ 7 ∷ 7 ∷ []) (4 ∷ 6 ∷ 219 ∷ 29 ∷ 7 ∷ 7 ∷ [])
    -- "D = 107 gives 16. P: D = 7 gives 16."
    ∷ gives (with_count "2") 107 16
    ∷ gives (with_count "2") 7 16
    -- "D = 48 gives N = 10, second capture empty."
    ∷ reads (with_count "2") 48 (0 ∷ 16 ∷ 1 ∷ 4 ∷ 0 ∷ 0 ∷ 10 ∷ 48 ∷ 2 ∷ 1 ∷ 0 ∷ 0 ∷ []) (0 ∷ 10 ∷ 0 ∷ 0 ∷ 10 ∷ 10 ∷ 48 ∷ 8 ∷ 7 ∷ 7 ∷ []) (4 ∷ 6 ∷ 219 ∷ 29 ∷ 7 ∷ 7 ∷ [])
    -- "D = 44 gives 17."
    ∷ gives (with_count "2") 44 17
    -- "pieces 4 to 12 are (16, 24), (48, 8)", "0 to 10 are (0, 40)", "25 to 25 none", "25 to 26 give 19"
    ∷ of_recording (pieces 4 12 0 2 (16 ∷ 24 ∷ 48 ∷ 8 ∷ 7 ∷ 7 ∷ []))
    ∷ of_recording (pieces 0 10 0 1 (0 ∷ 40 ∷ 7 ∷ 7 ∷ 7 ∷ 7 ∷ []))
    ∷ of_recording (pieces 25 25 0 0 pieces_lent)
    ∷ of_recording (pieces 25 26 19 0 pieces_lent)
    -- "cut 4 to 12 has capture rows 4 10 0 0 and 10 12 24 0"
    ∷ of_recording (cuts 4 12 (0 ∷ 16 ∷ 1 ∷ 4 ∷ 4 ∷ 0 ∷ 8 ∷ 32 ∷ 2 ∷ 1 ∷ 0 ∷ 0 ∷ []) (4 ∷ 10 ∷ 0 ∷ 0 ∷ 10 ∷ 12 ∷ 24 ∷ 0 ∷ 7 ∷ 7 ∷ []) (4 ∷ 6 ∷ 219 ∷ 29 ∷ 7 ∷ 7 ∷ []))
    -- "count 22 gives 17; 21 is accepted"
    ∷ gives (with_count "22") 108 17
    ∷ reads (with_count "21") 108 (0 ∷ 16 ∷ 1 ∷ 4 ∷ 0 ∷ 0 ∷ 25 ∷ 108 ∷ 2 ∷ 1 ∷ 0 ∷ 0 ∷ []) (0 ∷ 10 ∷ 0 ∷ 0 ∷ 10 ∷ 25 ∷ 48 ∷ 8 ∷ 7 ∷ 7 ∷ []) (4 ∷ 25 ∷ 220 ∷ 29 ∷ 7 ∷ 7 ∷ [])
    -- "depth 33 gives 2"; 32 is accepted
    ∷ gives (nested 32) 108 2
    ∷ reads (nested 31) 108 (0 ∷ 16 ∷ 1 ∷ 4 ∷ 0 ∷ 0 ∷ 25 ∷ 108 ∷ 2 ∷ 1 ∷ 0 ∷ 0 ∷ []) (0 ∷ 10 ∷ 0 ∷ 0 ∷ 10 ∷ 25 ∷ 48 ∷ 8 ∷ 7 ∷ 7 ∷ []) (4 ∷ 6 ∷ 219 ∷ 29 ∷ 7 ∷ 7 ∷ [])
    ∷ []

unfoldable pub all_hold : List Bool → Bool
all_hold [] = true
all_hold (b ∷ bs) = b && all_hold bs
