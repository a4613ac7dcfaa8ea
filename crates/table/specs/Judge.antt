-- For the code: how the judge of a table is divided, and what its parts ask of each other.
use Rattle.std.specs.Prelude.{ℕ, ◌+◌, ◌-◌, ◌*◌, ◌^◌, ◌≤◌, ◌<◌, ◌≡◌, Bool, true, ◌&&◌, cond, List, [], ◌∷◌, length, leb, eqb, Option, Some, None}
use Rattle.limits.specs.Limits.{dataset}
use Rattle.table.specs.declared.Capture.{Capture}
use Rattle.table.specs.declared.Annotation.{Annotation}
use Rattle.table.specs.declared.Summary.{Summary}
use Rattle.table.specs.Rows.{capture_width, captures}
use Rattle.table.specs.Samples.{header_sum, next_start}
use Rattle.table.specs.Place.{ends_within}
use Rattle.table.specs.Table.{own_entries, format_ok, texts_ok}

-- ---- the rules of rows, row by row
-- one capture of a recording from o to e: it starts at s, the start before it, or later, and at e at most;
-- "A capture ends where the next starts, the last at O + N"; its first byte counts the h header bytes "up to and including this capture's own"
unfoldable pub capture_ok : ℕ → ℕ → ℕ → ℕ → ℕ → ℕ → Capture → Bool
capture_ok o e w s h next r = leb s r.start && leb r.start e && eqb r.end next && eqb r.first ((r.start - o) * w + h)

-- all of them, with h header bytes before the first; the first starts at s = o or later
unfoldable pub captures_ok : ℕ → ℕ → ℕ → ℕ → ℕ → List Capture → Bool
captures_ok o e w s h [] = true
captures_ok o e w s h (r ∷ t) = capture_ok o e w s (h + r.header) (next_start e (own_entries t)) r && captures_ok o e w r.start (h + r.header) t

-- one annotation: it starts at s, the start before it, or later; "start + count ≤ O + N"; its texts have places
unfoldable pub annotation_ok : ℕ → ℕ → Annotation → Bool
annotation_ok e s r = leb s r.start && leb r.start r.end && leb r.end e && texts_ok r.texts

unfoldable pub annotations_ok : ℕ → ℕ → List Annotation → Bool
annotations_ok e s [] = true
annotations_ok e s (r ∷ t) = annotation_ok e s r && annotations_ok e r.start t

-- the first n rows of either kind are there whole
abbrev pub RowsThere : List ℕ → ℕ → Type 0
RowsThere l n = (4 * n ≤ length l) × (4 * n < 2 ^ 64)

-- ---- stages
-- the summary's own numbers
unfoldable pub numbers_ok : Summary → Bool
numbers_ok t = eqb t.refusal 0 && format_ok t && leb t.size dataset && leb (t.offset + t.samples) (2 ^ 64 - 1) && ends_within t.rate

-- the captures' rules and the total
unfoldable pub layout_ok : Summary → List Capture → Bool
layout_ok t rs =
    captures_ok t.offset (t.offset + t.samples) t.width t.offset 0 rs
    && eqb (t.trailing + header_sum (own_entries rs) + t.samples * t.width) t.size

-- the sum, if the rows are good and it is at most the cap
abbrev pub summed : Bool → ℕ → ℕ → Option ℕ
summed good cap s = cond (good && leb s cap) (Some s) None

-- what a well-formed table says of its captures, as the cores of the functions ask it
pub record Laid (t : Summary) (caps : List ℕ) : Type 0 where
  pub fit : capture_width * t.captures ≤ length caps
  pub total : t.trailing + header_sum (own_entries (captures caps t.captures)) + t.samples * t.width ≡ t.size
  pub small : t.size ≤ dataset
  pub ends : t.offset + t.samples ≤ 2 ^ 64 - 1
  pub in_order : captures_ok t.offset (t.offset + t.samples) t.width t.offset 0 (captures caps t.captures) ≡ true
