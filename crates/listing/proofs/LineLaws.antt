-- Laws of the lines.
use Prim.Native.Nat.{ℕ, ◌+◌}
use mathlib.Core.Path.{◌≡◌, ◌∙◌}
use mathlib.Core.List.{List, [], ◌∷◌, ◌++◌}
use native.Mathlib.Omega.{arith}
use lib.ListN.{length}
use Rattle.json_blocks.specs.TextBytes.{ascii}
use Rattle.sigmf_datatypes.specs.Datatypes.{datatype_name}
use Rattle.table.specs.declared.Annotation.{Annotation}
use Rattle.table.specs.declared.Capture.{Capture}
use Rattle.table.specs.declared.Place.{Place}
use Rattle.table.specs.declared.Summary.{Summary}
use Rattle.output.proofs.Writing.{Parts, parts_of, parts_long, pair_parts, parts_pair, parts_pair_next}
use Rattle.decimal.specs.Decimal.{digits_of, field}
use Rattle.decimal.proofs.PutLaws.{field_long}
use Rattle.listing_text.specs.Shown.{shown_text}
use Rattle.listing.specs.Lines.{feed, recording_line, capture_line, annotation_line}
use Rattle.listing.specs.LineParts.{two_fields, last_text}

-- ---- their parts, and the parts that they are written in
pub two_parts : (w : List ℕ) (a : ℕ) (v : List ℕ) (b : ℕ) → Parts (two_fields w a v b) (field w a ∷ field v b ∷ [])
two_parts w a v b = pair_parts (field w a) (field v b)

pub last_parts : (s : List ℕ) (p : Place) → Parts (last_text s p) (ascii " " ∷ shown_text s p ∷ feed ∷ [])
last_parts s p = parts_of (ascii " ") (shown_text s p ∷ feed ∷ [])

recording_all : (t : Summary) → Parts (recording_line t)
    (ascii "recording " ∷ datatype_name t.datatype ∷ field (ascii " channels ") t.channels ∷ field (ascii " offset ") t.offset ∷ field (ascii " samples ") t.samples ∷ feed ∷ [])
unfolding recording_line
recording_all t = parts_of (ascii "recording ") (datatype_name t.datatype ∷ field (ascii " channels ") t.channels ∷ field (ascii " offset ") t.offset ∷ field (ascii " samples ") t.samples ∷ feed ∷ [])

pub recording_parts : (t : Summary) → Parts (recording_line t)
    ((ascii "recording " ++ datatype_name t.datatype) ∷ two_fields (ascii " channels ") t.channels (ascii " offset ") t.offset ∷ field (ascii " samples ") t.samples ∷ feed ∷ [])
recording_parts t = parts_pair_next (parts_pair (recording_all t))

capture_all : (r : Capture) → Parts (capture_line r)
    (field (ascii "capture ") r.start ∷ field (ascii " ") r.end ∷ field (ascii " ") r.first ∷ field (ascii " ") r.header ∷ feed ∷ [])
unfolding capture_line
capture_all r = parts_of (field (ascii "capture ") r.start) (field (ascii " ") r.end ∷ field (ascii " ") r.first ∷ field (ascii " ") r.header ∷ feed ∷ [])

pub capture_parts : (r : Capture) → Parts (capture_line r)
    (two_fields (ascii "capture ") r.start (ascii " ") r.end ∷ two_fields (ascii " ") r.first (ascii " ") r.header ∷ feed ∷ [])
capture_parts r = parts_pair_next (parts_pair (capture_all r))

annotation_all : (s : List ℕ) (r : Annotation) → Parts (annotation_line s r)
    (field (ascii "annotation ") r.start ∷ field (ascii " ") r.end ∷ ascii " " ∷ shown_text s r.texts.label ∷ feed ∷ [])
unfolding annotation_line
annotation_all s r = parts_of (field (ascii "annotation ") r.start) (field (ascii " ") r.end ∷ ascii " " ∷ shown_text s r.texts.label ∷ feed ∷ [])

pub annotation_parts : (s : List ℕ) (r : Annotation) → Parts (annotation_line s r)
    (two_fields (ascii "annotation ") r.start (ascii " ") r.end ∷ last_text s r.texts.label ∷ [])
annotation_parts s r = parts_pair_next (parts_pair_next (parts_pair (annotation_all s r)))

-- ---- how long they are
pub recording_long : (t : Summary) → length (recording_line t)
    ≡ 38 + length (datatype_name t.datatype) + length (digits_of t.channels) + length (digits_of t.offset) + length (digits_of t.samples)
recording_long t =
    omega (arith, parts_long (recording_all t), field_long (ascii " channels ") t.channels, field_long (ascii " offset ") t.offset, field_long (ascii " samples ") t.samples)

pub capture_long : (r : Capture) → length (capture_line r)
    ≡ 12 + length (digits_of r.start) + length (digits_of r.end) + length (digits_of r.first) + length (digits_of r.header)
capture_long r =
    omega (arith, parts_long (capture_all r), field_long (ascii "capture ") r.start, field_long (ascii " ") r.end, field_long (ascii " ") r.first, field_long (ascii " ") r.header)

pub annotation_long : (s : List ℕ) (r : Annotation) → length (annotation_line s r)
    ≡ 14 + length (digits_of r.start) + length (digits_of r.end) + length (shown_text s r.texts.label)
annotation_long s r = omega (arith, parts_long (annotation_all s r), field_long (ascii "annotation ") r.start, field_long (ascii " ") r.end)

pub two_long : (w : List ℕ) (a : ℕ) (v : List ℕ) (b : ℕ) → length (two_fields w a v b) ≡ length (field w a) + length (field v b)
two_long w a v b = parts_long (two_parts w a v b) ∙ omega arith

pub last_long : (s : List ℕ) (p : Place) → length (last_text s p) ≡ 2 + length (shown_text s p)
last_long s p = parts_long (last_parts s p) ∙ omega arith
