-- A table read back is written and listed as the one that it was written from.
use mathlib.Core.Path.{◌≡◌, refl, ap, ◌∙◌}
use mathlib.Core.List.{List, map}
use Rattle.table.specs.declared.Annotation.{Annotation}
use Rattle.table.specs.declared.Place.{Place}
use Rattle.table.specs.declared.Summary.{Summary}
use Prim.Native.Nat.{ℕ}
use Rattle.table.specs.Rows.{flat, Table}
use Rattle.listing_text.specs.Shown.{shown_text}
use Rattle.listing.specs.Lines.{recording_line, annotation_line}
use Rattle.listing.specs.Listing.{listing_of}
use Rattle.writer.specs.Metadata.{rate_member, global_text, label_member, annotation_text, metadata_of}
use Rattle.claims_written.specs.ReadBack.{SameText, SameAnnotation, SameAnnotations, no_more, and_next, rate_at, SameTable}

module _ (s w : List ℕ) where
  annotation_same : (r q : Annotation) → SameAnnotation s w r q → annotation_text w q ≡ annotation_text s r
  unfolding annotation_text label_member
  annotation_same r q n = rw (n.start, n.end, n.label.presence, n.label.bytes)

  annotations_same : {rs qs : List Annotation} → SameAnnotations s w rs qs → map (annotation_text w) qs ≡ map (annotation_text s) rs
  annotations_same no_more = refl
  annotations_same (and_next {r} {q} n ns) = rw (annotation_same r q n, annotations_same ns)

  line_same : (r q : Annotation) → SameAnnotation s w r q → annotation_line w q ≡ annotation_line s r
  unfolding annotation_line shown_text
  line_same r q n = rw (n.start, n.end, n.label.presence, n.label.bytes)

  lines_same : {rs qs : List Annotation} → SameAnnotations s w rs qs → flat (annotation_line w) qs ≡ flat (annotation_line s) rs
  unfolding flat
  lines_same no_more = refl
  lines_same (and_next {r} {q} n ns) = rw (line_same r q n, lines_same ns)

  global_same : (t : Summary) (p : Place) → SameText s t.rate w p → global_text w (rate_at p t) ≡ global_text s t
  unfolding global_text rate_member
  global_same t p x = rw (x.presence, x.bytes)

module _ {t : Table} {s : List ℕ} {b : Table} {w : List ℕ} (x : SameTable t s b w) where
  global_back : global_text w b.summary ≡ global_text s t.summary
  global_back = ap (global_text w) x.summary ∙ global_same s w t.summary b.summary.rate x.rate

  pub text_again : metadata_of b w ≡ metadata_of t s
  unfolding metadata_of
  text_again = rw (global_back, x.captures, annotations_same s w x.annotations)

  recording_back : recording_line b.summary ≡ recording_line t.summary
  unfolding recording_line
  recording_back = ap recording_line x.summary

  pub listing_again : listing_of b w ≡ listing_of t s
  unfolding listing_of
  listing_again = rw (recording_back, x.captures, lines_same s w x.annotations)
