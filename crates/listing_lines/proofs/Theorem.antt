-- Demand 2, of the listing: "the listing has one line for the recording, each capture and each annotation, whatever a label contains, and
-- each label's text can be recovered from its line".
use Prim.Native.Nat.{ℕ, suc, ◌+◌, ◌-◌, ◌<◌}
use mathlib.Core.Path.{◌≡◌, refl, sym, ap, ◌∙◌}
use mathlib.Core.Bool.{true, false}
use mathlib.Core.List.{List, [], ◌∷◌, ◌++◌, map, append_assoc, append-nil}
use mathlib.Core.Option.{none-ne-some, some-injective}
use native.Mathlib.Omega.{arith}
use lib.ListN.{length, drop, length-append, length-map}
use lib.Seq.{drop_at}
use Rattle.json_blocks.specs.TextBytes.{byte}
use Rattle.json_strings.specs.Decode.{decoded_from}
use Rattle.table.specs.declared.Annotation.{Annotation}
use Rattle.table.specs.declared.Summary.{Summary}
use Rattle.table.specs.Rows.{capture_at, annotation_at, flat, captures, annotations, table}
use Rattle.table.proofs.RowLaws.{rest_length}
use Rattle.decimal.proofs.Digits.{digits_back}
use Rattle.table.specs.Place.{absent}
use Rattle.listing_labels.specs.Text.{part}
use Rattle.listing_text.specs.Shown.{shown_text}
use Rattle.listing.specs.Lines.{feed, recording_line, capture_line, annotation_line}
use Rattle.listing.specs.Listing.{listing_of}
use Rattle.listing_lines.specs.Split.{split_lines}
use Rattle.listing_lines.specs.Recover.{shown_in, start_in, end_in, label_in, label_text}
use Rattle.listing_lines.proofs.LineLaws.{recording_line_lem, capture_line_lem, annotation_line_lem, split_rows}
use Rattle.listing_lines.proofs.RecoverLaws.{past_number, up_to_number, numbers_left, shown_in_lem, text_back}

module _ (t : Summary) (caps notes s : List ℕ) where
  -- "the listing has one line for the recording, each capture and each annotation, whatever a label contains": these lines, in this order
  pub one_line_each : split_lines (listing_of (table t caps notes) s) ≡ recording_line t ∷ map capture_line (captures caps t.captures) ++ map (annotation_line s) (annotations notes t.annotations)
  unfolding listing_of split_lines
  one_line_each =
      let c = flat capture_line (captures caps t.captures) in
      let n = flat (annotation_line s) (annotations notes t.annotations) in
      let e : split_lines n ≡ map (annotation_line s) (annotations notes t.annotations)
      = ap split_lines (sym (append-nil n)) ∙ split_rows (annotation_line s) (annotation_line_lem s) (annotations notes t.annotations) [] ∙ append-nil _ in
      ap split_lines (append_assoc (recording_line t) c n) ∙ recording_line_lem t (c ++ n)
      ∙ ap (λ (x : List (List ℕ)). recording_line t ∷ x) (split_rows capture_line capture_line_lem (captures caps t.captures) n ∙ ap (λ (x : List (List ℕ)). map capture_line (captures caps t.captures) ++ x) e)

  pub captures_count : length (recording_line t ∷ map capture_line (captures caps t.captures)) ≡ 1 + t.captures
  captures_count = ap suc (length-map (captures caps t.captures) capture_line ∙ rest_length (capture_at caps) t.captures) ∙ omega arith

  -- as many lines as "the recording, each capture and each annotation"
  pub line_count : length (split_lines (listing_of (table t caps notes) s)) ≡ 1 + t.captures + t.annotations
  line_count = ap length one_line_each ∙ length-append (recording_line t ∷ map capture_line (captures caps t.captures)) (map (annotation_line s) (annotations notes t.annotations))
      ∙ rw (captures_count, length-map (annotations notes t.annotations) (annotation_line s) ∙ rest_length (annotation_at notes) t.annotations)

label_is : (s : List ℕ) (r : Annotation) → label_in (annotation_line s r) ≡ shown_in (shown_text s r.texts.label ++ feed)
label_is s r = rw (numbers_left s r, past_number r.start _, past_number r.end _)

-- "each label's text can be recovered from its line"; the metadata s is bytes
pub label_recovered : (s : List ℕ) → ((i : ℕ) → byte s i < 256) → (r : Annotation) → label_in (annotation_line s r) ≡ label_text s r
label_recovered s h r = label_is s r ∙ text_back s h r

-- its numbers too
module _ (s : List ℕ) (r : Annotation) where
  pub start_recovered : start_in (annotation_line s r) ≡ r.start
  start_recovered = rw (numbers_left s r, up_to_number r.start _) (digits_back r.start)

  pub end_recovered : end_in (annotation_line s r) ≡ r.end
  end_recovered = rw (numbers_left s r, past_number r.start _, up_to_number r.end _) (digits_back r.end)

-- "each label's text", from the listing's lines past those of the recording and the captures
pub labels_recovered : (t : Summary) (caps notes s : List ℕ) → ((i : ℕ) → byte s i < 256)
    → map label_in (drop (1 + t.captures) (split_lines (listing_of (table t caps notes) s))) ≡ map (label_text s) (annotations notes t.annotations)
labels_recovered t caps notes s h =
    ap (λ (x : List (List ℕ)). map label_in (drop (1 + t.captures) x)) (one_line_each t caps notes s)
    ∙ ap (map label_in) (drop_at (recording_line t ∷ map capture_line (captures caps t.captures)) _ (1 + t.captures) (captures_count t caps notes s))
    ∙ each (annotations notes t.annotations)
  where
    each : (rs : List Annotation) → map label_in (map (annotation_line s) rs) ≡ map (label_text s) rs
    each [] = refl
    each (r ∷ rs) = rw (label_recovered s h r, each rs)

-- ---- two annotations, of one recording or of two, that print alike
module _ (s z : List ℕ) (r q : Annotation) (e : annotation_line s r ≡ annotation_line z q) where
  -- have the same label text, start and end
  pub alike : ((i : ℕ) → byte s i < 256) → ((i : ℕ) → byte z i < 256) → (label_text s r ≡ label_text z q) × (r.start ≡ q.start) × (r.end ≡ q.end)
  alike h k = (
    sym (label_recovered s h r) ∙ ap label_in e ∙ label_recovered z k q,
    sym (start_recovered s r) ∙ ap start_in e ∙ start_recovered z q,
    sym (end_recovered s r) ∙ ap end_in e ∙ end_recovered z q,
  )

  -- labels with different decoded texts never print alike
  pub texts_apart : ((i : ℕ) → byte s i < 256) → ((i : ℕ) → byte z i < 256) → absent r.texts.label ≡ false → absent q.texts.label ≡ false
      → (decoded_from (part s r.texts.label) 0 ≡ decoded_from (part z q.texts.label) 0 → ⊥) → ⊥
  unfolding label_text
  texts_apart h k a b f = f (some-injective _ _ (rw (a, b) at alike h k).0)

  -- nor do an absent label and a present one, whatever it contains
  pub absent_apart : absent r.texts.label ≡ true → absent q.texts.label ≡ false → ⊥
  absent_apart a b =
      let x = sym (label_is s r ∙ shown_in_lem s r.texts.label) ∙ ap label_in e ∙ label_is z q ∙ shown_in_lem z q.texts.label in
      none-ne-some _ (rw (a, b) at x)
