-- Document 01: the place of a sample; 18, 19.
use Rattle.std.specs.Prelude.{ℕ, ◌+◌, Bool, ◌&&◌, cond, leb, ltb}
use Rattle.table.specs.declared.Summary.{Summary}
use Rattle.table.specs.declared.Located.{Located}
use Rattle.table.specs.Rows.{Table, captures_of}
use Rattle.table.specs.Samples.{place}
use Rattle.table.specs.Table.{well_formed}

abbrev pub located : ℕ → ℕ → Located
located n byte = record { refusal = n; byte = byte }

-- "A single sample has O ≤ i < O + N"
unfoldable pub is_sample : Summary → ℕ → Bool
is_sample t i = leb t.offset i && ltb i (t.offset + t.samples)

-- the byte at which a sample of the table starts
abbrev pub place_in : Table → ℕ → ℕ
place_in t i = place t.summary.offset t.summary.width (captures_of t) i

unfoldable pub locate_answer : Table → ℕ → Located
locate_answer t i =
    cond (well_formed t)
    (cond (is_sample t.summary i)
    (located 0 (place_in t i))
    (located 19 0))
    (located 18 0)
