-- How long the parts are, and what they leave of a room.
use Prim.Native.Nat.{ℕ, zero, suc, ◌+◌, ◌-◌}
use mathlib.Core.Path.{◌≡◌, refl, ◌∙◌}
use mathlib.Core.Bool.{Bool, true, false, cond}
use mathlib.Core.List.{List, [], ◌++◌}
use native.Mathlib.Omega.{arith}
use lib.ListN.{length, length-append}
use Rattle.json_blocks.specs.TextBytes.{ascii}
use Rattle.sigmf_datatypes.specs.Datatypes.{datatype_name}
use Rattle.table.specs.declared.Annotation.{Annotation}
use Rattle.table.specs.declared.Capture.{Capture}
use Rattle.table.specs.declared.Place.{Place}
use Rattle.table.specs.declared.Summary.{Summary}
use Rattle.table.specs.Place.{absent}
use Rattle.table.specs.Rows.{capture_at, annotation_at, table}
use Rattle.decimal.specs.Decimal.{digits_of, field}
use Rattle.decimal.proofs.PutLaws.{field_long}
use Rattle.output.proofs.Writing.{parts_long}
use Rattle.listing_labels.specs.Text.{part}
use Rattle.writer.specs.Metadata.{capture_text, annotation_text, metadata_of}
use Rattle.writer.specs.TextParts.{raw_member, raw_length, comma_before, format_text, head_text, items}
use Rattle.writer.proofs.TextLaws.{capture_parts, annotation_parts, head_parts, head_in_parts, item_parts, metadata_parts}

-- ---- a comma
pub comma_none : (k : ℕ) → k ≡ 0 → 0 ≡ length (comma_before k)
unfolding comma_before
comma_none k e = rw e

pub comma_one : (k : ℕ) → (k ≡ 0 → ⊥) → 1 ≡ length (comma_before k)
unfolding comma_before
comma_one zero h = absurd (h refl)
comma_one (suc k) h = refl

-- ---- a raw text
raw_long : (before s : List ℕ) (p : Place) (z : List ℕ) → length (raw_member before s p z) ≡ raw_length (length before + length z) s p
unfolding raw_member raw_length
raw_long before s p z = go (absent p) where
  go : (b : Bool) → length (cond b [] (before ++ part s p ++ z)) ≡ cond b 0 (length before + length z + length (part s p))
  go true = refl
  go false = omega (arith, length-append (before ++ part s p) z, length-append before (part s p))

-- ---- a capture
pub capture_long : (k : ℕ) (r : Capture) → length (comma_before k ++ capture_text r)
    ≡ 43 + length (comma_before k) + length (digits_of r.start) + length (digits_of r.header)
capture_long k r =
    omega (arith, length-append (comma_before k) (capture_text r), parts_long (capture_parts r), field_long (ascii "{\"core:sample_start\":") r.start, field_long (ascii ",\"core:header_bytes\":") r.header)

-- ---- an annotation
pub annotation_long : (k : ℕ) (s : List ℕ) (r : Annotation) → length (comma_before k ++ annotation_text s r)
    ≡ 43 + length (comma_before k) + length (digits_of r.start) + length (digits_of (r.end - r.start)) + raw_length 16 s r.texts.label
annotation_long k s r =
    omega (
      arith,
      length-append (comma_before k) (annotation_text s r),
      parts_long (annotation_parts s r),
      field_long (ascii "{\"core:sample_start\":") r.start,
      field_long (ascii ",\"core:sample_count\":") (r.end - r.start),
      raw_long (ascii ",\"core:label\":\"") s r.texts.label (ascii "\""),
    )

-- ---- what comes before the captures
pub head_long : (s : List ℕ) (t : Summary) → length (head_text s t)
    ≡ 112 + length (datatype_name t.datatype) + length (digits_of t.channels) + length (digits_of t.offset) + length (digits_of t.trailing) + raw_length 20 s t.rate
head_long s t =
    omega (
      arith,
      parts_long (head_parts s t),
      field_long (ascii "\",\"core:version\":\"1.0.0\",\"core:num_channels\":") t.channels,
      field_long (ascii ",\"core:offset\":") t.offset,
      field_long (ascii ",\"core:trailing_bytes\":") t.trailing,
      raw_long (ascii ",\"core:sample_rate\":") s t.rate [],
    )

-- ---- the whole
pub text_long : (t : Summary) (caps notes s : List ℕ) → length (metadata_of (table t caps notes) s)
    ≡ 32 + length (head_text s t) + length (items capture_text (capture_at caps) t.captures) + length (items (annotation_text s) (annotation_at notes) t.annotations)
text_long t caps notes s = omega (arith, parts_long (metadata_parts t caps notes s))

-- ---- the same by the parts that are written one after the other
pub head_in_long : (s : List ℕ) (t : Summary) → length (head_text s t)
    ≡ length (format_text t) + length (field (ascii ",\"core:offset\":") t.offset) + length (field (ascii ",\"core:trailing_bytes\":") t.trailing) + length (raw_member (ascii ",\"core:sample_rate\":") s t.rate []) + 1
head_in_long s t = parts_long (head_in_parts s t) ∙ omega arith

pub capture_in_long : (k : ℕ) (r : Capture) → length (comma_before k ++ capture_text r)
    ≡ length (comma_before k) + length (field (ascii "{\"core:sample_start\":") r.start) + length (field (ascii ",\"core:header_bytes\":") r.header) + 1
capture_in_long k r = parts_long (item_parts k (capture_parts r)) ∙ omega arith

pub annotation_in_long : (k : ℕ) (s : List ℕ) (r : Annotation) → length (comma_before k ++ annotation_text s r)
    ≡ length (comma_before k) + length (field (ascii "{\"core:sample_start\":") r.start) + length (field (ascii ",\"core:sample_count\":") (r.end - r.start))
    + length (raw_member (ascii ",\"core:label\":\"") s r.texts.label (ascii "\"")) + 1
annotation_in_long k s r = parts_long (item_parts k (annotation_parts s r)) ∙ omega arith
