-- Contents that agree with a well-formed table are laid out as the table, and neither 15, 16, 17 nor 20 holds.
use mathlib.Core.Path.{◌≡◌, ◌∙◌}
use mathlib.Core.Bool.{false}
use mathlib.Core.List.{List}
use Prim.Native.Nat.{ℕ, ◌+◌, ◌-◌, ◌*◌, ◌^◌}
use native.Mathlib.Omega.{arith}
use native.Mathlib.Nat.{mul-div_cancel, mul-mod_left}
use lib.ListN.{length, length-map}
use borrow.Author.Tests.{le-leb, le-ltb}
use Rattle.refusals.specs.Refusals.{lowest}
use Rattle.table.specs.declared.Capture.{Capture}
use Rattle.table.specs.declared.Summary.{Summary}
use Rattle.table.specs.Rows.{capture_at, annotation_at, Table, captures_of, annotations_of}
use Rattle.table.specs.Samples.{header_sum}
use Rattle.table.specs.Table.{own_entry, own_entries}
use Rattle.table.proofs.TableLaws.{Formed}
use Rattle.reader_layout.specs.Layout.{Contents, width_in, headers_and_trailer, samples_in, end_index, unordered, not_whole, index_outside, sample_rules, captures_in, annotations_in, summary_in, too_many}
use Rattle.table.proofs.RowLaws.{rest_length}
use Rattle.claims_derived.proofs.Nodes.{Both}
use Rattle.claims.specs.Room.{RoomFor}
use Rattle.claims_written.specs.ReadBack.{SameText, SameAnnotations, rate_at}
use Rattle.claims_written.proofs.TableBack.{NoteRead, captures_up_lem, captures_inside, captures_same, notes_up_lem, notes_inside, notes_same, both_length}

pub record Agrees (t : Table) (s w : List ℕ) (k : Contents) : Type 0 where
  pub code : k.globals.datatype ≡ t.summary.datatype
  pub channels : k.globals.channels ≡ t.summary.channels
  pub offset : k.globals.offset ≡ t.summary.offset
  pub trailing : k.globals.trailing ≡ t.summary.trailing
  pub width : width_in k.globals ≡ t.summary.width
  pub rate : SameText s t.summary.rate w k.globals.rate
  pub captures : k.captures ≡ own_entries (captures_of t)
  pub annotations : Both (NoteRead s w) (annotations_of t) k.annotations

module _ {t : Table} {s w : List ℕ} {k : Contents} (F : Formed t.summary t.captures t.annotations) (a : Agrees t s w k) where
  abbrev S : Summary
  S = t.summary

  abbrev cs : List Capture
  cs = captures_of t

  abbrev e : ℕ
  e = S.offset + S.samples

  taken_is : headers_and_trailer k ≡ S.trailing + header_sum (own_entries cs)
  taken_is = rw (a.trailing, a.captures)

  left_is : S.size - headers_and_trailer k ≡ S.samples * S.width
  left_is = rw taken_is (omega (arith, F.laid.total))

  samples_is : samples_in k S.size ≡ S.samples
  unfolding samples_in
  samples_is = rw (left_is, a.width) (mul-div_cancel S.samples F.nums.wide)

  end_is : end_index k S.size ≡ e
  end_is = rw (samples_is, a.offset)

  ordered : unordered k ≡ false
  unfolding unordered
  ordered = rw (a.captures, captures_up_lem S.offset e S.width cs F.laid.in_order, notes_up_lem s w e S.offset 0 (omega arith) F.in_order a.annotations)

  whole : not_whole k S.size ≡ false
  unfolding not_whole
  whole = rw (le-ltb S.size (headers_and_trailer k) (rw taken_is (omega (arith, F.laid.total))), left_is, a.width, mul-mod_left S.samples S.width)

  inside : index_outside k S.size ≡ false
  unfolding index_outside
  inside =
      rw (
        end_is,
        a.offset,
        a.captures,
        le-leb e (2 ^ 64 - 1) F.nums.ends,
        captures_inside S.offset e S.width cs F.laid.in_order,
        notes_inside s w S.offset e S.offset (omega arith) F.in_order a.annotations,
      )

  pub samples_fit : lowest (sample_rules k S.size) ≡ 0
  unfolding lowest
  samples_fit = rw (ordered, whole, inside)

  pub captures_laid : captures_in k S.size ≡ cs
  captures_laid = rw (end_is, a.offset, a.width, a.captures) (captures_same S.offset e S.width cs F.laid.in_order)

  pub notes_laid : SameAnnotations s w (annotations_of t) (annotations_in k S.size)
  notes_laid = rw end_is (notes_same s w e S.offset F.in_order a.annotations)

  captures_count : length k.captures ≡ S.captures
  captures_count = rw a.captures (length-map cs own_entry ∙ rest_length (capture_at t.captures) S.captures)

  notes_count : length k.annotations ≡ S.annotations
  notes_count = both_length a.annotations ∙ rest_length (annotation_at t.annotations) S.annotations

  pub room : (caps notes : List ℕ) → RoomFor t caps notes → too_many k caps notes ≡ false
  unfolding too_many
  room caps notes r = rw (captures_count, notes_count, le-leb _ _ r.captures, le-leb _ _ r.annotations)

  pub summary_laid : summary_in k S.size ≡ rate_at k.globals.rate S
  unfolding summary_in
  summary_laid = rw (F.nums.said, samples_is, a.width, a.code, a.channels, a.offset, a.trailing, captures_count, notes_count)
