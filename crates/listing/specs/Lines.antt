-- Document 01, "The listing": its lines.
use Rattle.std.specs.Prelude.{ℕ, List, ◌++◌}
use Rattle.json_blocks.specs.TextBytes.{ascii}
use Rattle.sigmf_datatypes.specs.Datatypes.{datatype_name}
use Rattle.table.specs.declared.Annotation.{Annotation}
use Rattle.table.specs.declared.Capture.{Capture}
use Rattle.table.specs.declared.Summary.{Summary}
use Rattle.decimal.specs.Decimal.{field}
use Rattle.listing_text.specs.Shown.{shown_text}

-- "Each line ends in one line feed"
abbrev pub feed : List ℕ
feed = ascii "\n"

-- `recording ci16_le channels 1 offset 0 samples 25`
unfoldable pub recording_line : Summary → List ℕ
recording_line t =
    ascii "recording " ++ datatype_name t.datatype ++ field (ascii " channels ") t.channels ++ field (ascii " offset ") t.offset
    ++ field (ascii " samples ") t.samples ++ feed

-- `capture 10 25 48 8`: "the row's four"
unfoldable pub capture_line : Capture → List ℕ
capture_line r =
    field (ascii "capture ") r.start ++ field (ascii " ") r.end ++ field (ascii " ") r.first ++ field (ascii " ") r.header ++ feed

-- `annotation 4 6 "gate"`: "annotation numbers start and end", then the label
unfoldable pub annotation_line : List ℕ → Annotation → List ℕ
annotation_line s r =
    field (ascii "annotation ") r.start ++ field (ascii " ") r.end ++ ascii " " ++ shown_text s r.texts.label ++ feed
