-- Request P5: the stored form of a table.
use Rattle.std.specs.Prelude.{ℕ, ◌+◌, ◌*◌, List, ◌++◌, take, drop}
use Rattle.json_blocks.specs.TextBytes.{ascii}
use Rattle.little_endian.specs.LittleEndian.{little_endian, number_width, numbers_of}
use Rattle.table.specs.declared.Summary.{Summary}
use Rattle.table.specs.Rows.{capture_width, capture_numbers, annotation_width, annotation_numbers, flat, Table, table, captures_of, annotations_of}
use Rattle.table.specs.Summary.{summary_width, summary_numbers, summary_of}

-- "mark `SGT`, a 16-bit version 1"
abbrev pub opening : List ℕ
opening = ascii "SGT" ++ little_endian 2 1

-- numbers, "each as eight bytes"
abbrev pub eight_each : List ℕ → List ℕ
eight_each xs = flat (little_endian number_width) xs

-- "mark `SGT`, a 16-bit version 1, summary numbers in 01's order, captures counted first, each as eight bytes, then capture rows, then
-- annotation rows, all little-endian, nothing after"
unfoldable pub stored_of : Table → List ℕ
stored_of t =
    opening
    ++ eight_each (summary_numbers t.summary)
    ++ eight_each (flat capture_numbers (captures_of t))
    ++ eight_each (flat annotation_numbers (annotations_of t))

-- ---- the parts of a file f
-- mark and version, then the summary: where the rows begin
abbrev pub opening_size : ℕ
opening_size = 5

abbrev pub head_size : ℕ
head_size = opening_size + number_width * summary_width

abbrev pub summary_in : List ℕ → Summary
summary_in f = summary_of (numbers_of (take (number_width * summary_width) (drop opening_size f)))

-- the bytes of n capture rows, and of n annotation rows
abbrev pub capture_bytes : ℕ → ℕ
capture_bytes n = number_width * (capture_width * n)

abbrev pub annotation_bytes : ℕ → ℕ
annotation_bytes n = number_width * (annotation_width * n)

-- the table, "with the file's own rows"
unfoldable pub table_in : List ℕ → Table
table_in f =
    table (summary_in f)
    (numbers_of (take (capture_bytes (summary_in f).captures) (drop head_size f)))
    (numbers_of (drop (head_size + capture_bytes (summary_in f).captures) f))
