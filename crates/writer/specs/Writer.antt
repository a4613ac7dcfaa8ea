-- Request P1: when a table is written, and what the writer answers; 18, 20.
use Rattle.json_blocks.specs.declared.Cursor.{Cursor}
use Rattle.std.specs.Prelude.{ℕ, ◌+◌, Bool, false, cond, ◌&&◌, ◌||◌, List, length, leb, eqb, None, Option, Some}
use Rattle.limits.specs.Limits.{metadata}
use Rattle.json_tokens.specs.Number.{number_at}
use Rattle.table.specs.declared.Place.{Place}
use Rattle.table.specs.declared.Wrote.{Wrote}
use Rattle.table.specs.Memory.{written}
use Rattle.table.specs.Place.{absent}
use Rattle.table.specs.Rows.{Table, annotations_of}
use Rattle.table.specs.Table.{well_formed}
use Rattle.table.specs.Wrote.{wrote}
use Rattle.listing_labels.specs.Label.{labels_ok}
use Rattle.listing_labels.specs.Text.{part}
use Rattle.writer.specs.Metadata.{metadata_of}

-- ---- 18: "as for the listing, and if the sample rate text isn't a JSON number"
-- a read that got to the place n
abbrev pub got_to : ℕ → Option Cursor → Bool
got_to n (Some c) = eqb c.at n
got_to n None = false

-- x is one JSON number and nothing else
unfoldable pub is_number : List ℕ → Bool
is_number x = got_to (length x) (number_at x 0)

-- a sample rate is absent, or stands inside s and is one number
unfoldable pub rate_ok : List ℕ → Place → Bool
rate_ok s p = absent p || (leb (p.at + p.len) (length s) && is_number (part s p))

unfoldable pub writable : Table → List ℕ → Bool
writable t s = well_formed t && labels_ok s (annotations_of t) && rate_ok s t.summary.rate

-- ---- 20: "if the text exceeds the lent room or 61,440 bytes"
abbrev pub text_fits : List ℕ → ℕ → Bool
text_fits w room = leb (length w) room && leb (length w) metadata

-- ---- the answer: "a writer reports the bytes it wrote"; room: how many bytes the lent output holds
unfoldable pub writer_answer : Table → List ℕ → ℕ → Wrote
writer_answer t s room =
    cond (writable t s)
    (cond (text_fits (metadata_of t s) room)
    (wrote 0 (length (metadata_of t s)))
    (wrote 20 0))
    (wrote 18 0)

-- the lent output m after the call
abbrev pub writer_memory : Table → List ℕ → List ℕ → List ℕ
writer_memory t s m = cond (eqb (writer_answer t s (length m)).refusal 0) (written (metadata_of t s) m) m
