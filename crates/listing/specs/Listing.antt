-- Document 01, "The listing": the whole; 18, 20.
use Rattle.std.specs.Prelude.{ℕ, ◌&&◌, cond, List, ◌++◌, length, leb, eqb}
use Rattle.table.specs.Memory.{written}
use Rattle.table.specs.Rows.{flat, Table, captures_of, annotations_of}
use Rattle.table.specs.Table.{well_formed}
use Rattle.table.specs.declared.Wrote.{Wrote}
use Rattle.listing_labels.specs.Label.{labels_ok}
use Rattle.listing.specs.Lines.{recording_line, capture_line, annotation_line}
use Rattle.table.specs.Wrote.{wrote}

-- the recording, the captures, the annotations: a line each, in file order
unfoldable pub listing_of : Table → List ℕ → List ℕ
listing_of t s = recording_line t.summary ++ flat capture_line (captures_of t) ++ flat (annotation_line s) (annotations_of t)

-- room: how many bytes the lent output holds; "the listing (for all) also answer 18 unless each present label's place .."
unfoldable pub listing_answer : Table → List ℕ → ℕ → Wrote
listing_answer t s room =
    cond (well_formed t && labels_ok s (annotations_of t))
    (cond (leb (length (listing_of t s)) room)
    (wrote 0 (length (listing_of t s)))
    (wrote 20 0))
    (wrote 18 0)

-- the lent output m after the call
abbrev pub listing_memory : Table → List ℕ → List ℕ → List ℕ
listing_memory t s m = cond (eqb (listing_answer t s (length m)).refusal 0) (written (listing_of t s) m) m
