-- Laws of the whole listing.
use Prim.Native.Nat.{ℕ, ◌+◌}
use mathlib.Core.Path.{◌≡◌, ◌∙◌}
use mathlib.Core.List.{List, [], ◌∷◌}
use native.Mathlib.Omega.{arith}
use lib.ListN.{length}
use Rattle.table.specs.declared.Summary.{Summary}
use Rattle.table.specs.Rows.{flat, captures, annotations, table}
use Rattle.output.proofs.Writing.{Parts, parts_of, parts_long}
use Rattle.listing.specs.Lines.{recording_line, capture_line, annotation_line}
use Rattle.listing.specs.Listing.{listing_of}

-- ---- the whole
module _ (t : Summary) (caps notes s : List ℕ) where
  pub listing_parts : Parts (listing_of (table t caps notes) s) (recording_line t ∷ flat capture_line (captures caps t.captures) ∷ flat (annotation_line s) (annotations notes t.annotations) ∷ [])
  unfolding listing_of
  listing_parts = parts_of (recording_line t) (flat capture_line (captures caps t.captures) ∷ flat (annotation_line s) (annotations notes t.annotations) ∷ [])

  pub long : length (listing_of (table t caps notes) s) ≡ length (recording_line t) + (length (flat capture_line (captures caps t.captures)) + length (flat (annotation_line s) (annotations notes t.annotations)))
  long = parts_long listing_parts ∙ omega arith
