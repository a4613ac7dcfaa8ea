-- The lines that the listing writes: each holds one line feed, its last byte.
use Prim.Native.Nat.{ℕ, ◌+◌, ◌-◌, ◌/◌, ◌%◌, ◌≤◌, ◌<◌}
use mathlib.Core.Path.{◌≡◌, refl, ap, ◌∙◌}
use mathlib.Core.Bool.{Bool, true, false, not, ◌&&◌}
use mathlib.Core.List.{List, [], ◌∷◌, ◌++◌, map, append_assoc}
use native.Mathlib.Omega.{arith}
use lib.Dec.{ltb, eqb}
use borrow.Author.Tests.{ne_eqb, eqb-false, not-true}
use Rattle.json_blocks.specs.TextBytes.{ascii, within}
use Rattle.json_blocks.specs.Lists.{all}
use Rattle.json_blocks.proofs.ByteLaws.{cond_elim, within_is}
use Rattle.json_strings.specs.Decode.{decoded_from}
use Rattle.sigmf_datatypes.specs.Datatypes.{Datatype, twelve, datatypes, datatype_name}
use Rattle.sigmf_datatypes.proofs.Laws.{at_every}
use Rattle.table.specs.declared.Place.{Place}
use Rattle.table.specs.declared.Annotation.{Annotation}
use Rattle.table.specs.declared.Capture.{Capture}
use Rattle.table.specs.declared.Summary.{Summary}
use Rattle.table.specs.Rows.{flat}
use Rattle.table.proofs.Bools.{and_left, and_right}
use Rattle.decimal.specs.Decimal.{digits_of, field}
use Rattle.decimal.proofs.Digits.{digits_rec}
use Rattle.table.specs.Place.{absent}
use Rattle.listing_labels.specs.Text.{part}
use Rattle.listing_text.specs.Shown.{hex_digit_of, as_it_is, shown_byte, quoted, shown_text}
use Rattle.listing.specs.Lines.{feed, recording_line, capture_line, annotation_line}
use Rattle.listing_lines.specs.Split.{before, split_lines}

-- ---- texts without the byte c
abbrev pub Free : ℕ → List ℕ → Type 0
Free c xs = all (λ (b : ℕ). not (eqb b c)) xs ≡ true

pub all_join : (good : ℕ → Bool) (k l : List ℕ) → all good k ≡ true → all good l ≡ true → all good (k ++ l) ≡ true
unfolding all
all_join good [] l h q = q
all_join good (b ∷ k) l h q = rw (and_left (good b) (all good k) h, all_join good k l (and_right (good b) (all good k) h) q)

pub digits_free : (c : ℕ) → c < 0x30 → (n : ℕ) → Free c (digits_of n)
unfolding all
digits_free c h =
    digits_rec (λ n l. Free c l) (λ n q. rw (ne_eqb (0x30 + n) c (λ z. omega arith)))
    (λ n l q e. all_join (λ (b : ℕ). not (eqb b c)) l ((0x30 + n % 10) ∷ []) e (rw (ne_eqb (0x30 + n % 10) c (λ z. omega arith))))

-- ---- what a shown byte is
pub record AsIs (b : ℕ) : Type 0 where
  pub low : 0x20 ≤ b
  pub quote : b ≡ 0x22 → ⊥
  pub slash : b ≡ 0x5C → ⊥

pub as_is : (b : ℕ) → as_it_is b ≡ true → AsIs b
unfolding as_it_is
as_is b e =
    let w = within 0x20 0x7E b in
    let q = not (eqb b 0x22) in
    let l = and_left (w && q) (not (eqb b 0x5C)) e in
    record {
      low = (within_is 0x20 0x7E b (and_left w q l)).0;
      quote = eqb-false _ _ (not-true _ (and_right w q l));
      slash = eqb-false _ _ (not-true _ (and_right (w && q) (not (eqb b 0x5C)) e));
    }

-- ---- parts of a line, without a line feed
record Part : Type 0 where
  text : List ℕ
  free : Free 0x0A text

abbrev join : Part → Part → Part
join p q = record { text = p.text ++ q.text; free = all_join (λ (b : ℕ). not (eqb b 0x0A)) p.text q.text p.free q.free }

abbrev numbered : (w : List ℕ) → Free 0x0A w → ℕ → Part
numbered w h n = join (record { text = w; free = h }) (record { text = digits_of n; free = digits_free 0x0A (omega arith) n })

name_free : (c : ℕ) → Free 0x0A (datatype_name c)
unfolding datatypes twelve all
name_free c = at_every (λ (d : Datatype). all (λ (b : ℕ). not (eqb b 0x0A)) d.name) refl refl c

hex_free : (d : ℕ) → eqb (hex_digit_of d) 0x0A ≡ false
unfolding hex_digit_of
hex_free d =
    cond_elim (λ (x : ℕ). eqb x 0x0A ≡ false) (ltb d 10) _ _ (λ e. ne_eqb (0x30 + d) 0x0A (λ z. omega arith))
    (λ e. ne_eqb (0x61 + (d - 10)) 0x0A (λ z. omega arith))

shown_free : (b : ℕ) → Free 0x0A (shown_byte b)
unfolding shown_byte all
shown_free b =
    cond_elim (Free 0x0A) (as_it_is b) _ _ (λ e. let l = (as_is b e).low in rw (ne_eqb b 0x0A (λ z. omega arith)))
    (λ e. rw (hex_free (b / 16), hex_free (b % 16)))

bytes_free : (xs : List ℕ) → Free 0x0A (flat shown_byte xs)
unfolding flat all
bytes_free [] = refl
bytes_free (b ∷ xs) = all_join (λ (b : ℕ). not (eqb b 0x0A)) (shown_byte b) (flat shown_byte xs) (shown_free b) (bytes_free xs)

-- whatever the label contains
text_free : (s : List ℕ) (p : Place) → Free 0x0A (shown_text s p)
unfolding shown_text quoted all
text_free s p = cond_elim (Free 0x0A) (absent p) _ _ (λ e. refl) (λ e. (join (join quote shown) quote).free)
  where
    quote : Part
    quote = record { text = ascii "\""; free = refl }

    shown : Part
    shown = record { text = flat shown_byte (decoded_from (part s p) 0); free = bytes_free (decoded_from (part s p) 0) }

-- ---- lines
-- the first line of a text that begins with l is l
abbrev pub Line : List ℕ → Type 0
Line l = (t : List ℕ) → split_lines (l ++ t) ≡ l ∷ split_lines t

ends_line : (p : List ℕ) → Free 0x0A p → Line (p ++ feed)
unfolding split_lines before all
ends_line [] h t = refl
ends_line (b ∷ p) h t =
    let q : eqb b 0x0A ≡ false = not-true _ (and_left (not (eqb b 0x0A)) _ h) in
    rw (q, ends_line p (and_right (not (eqb b 0x0A)) _ h) t)

line : (p : Part) → Line (p.text ++ feed)
line p = ends_line p.text p.free

pub recording_line_lem : (t : Summary) → Line (recording_line t)
unfolding recording_line field all
recording_line_lem t =
    line (join (join (join (join (record { text = ascii "recording "; free = refl }) (record { text = datatype_name t.datatype; free = name_free t.datatype }))
    (numbered (ascii " channels ") refl t.channels)) (numbered (ascii " offset ") refl t.offset)) (numbered (ascii " samples ") refl t.samples))

pub capture_line_lem : (r : Capture) → Line (capture_line r)
unfolding capture_line field all
capture_line_lem r =
    line (join (join (join (numbered (ascii "capture ") refl r.start) (numbered (ascii " ") refl r.end)) (numbered (ascii " ") refl r.first))
    (numbered (ascii " ") refl r.header))

pub annotation_line_lem : (s : List ℕ) (r : Annotation) → Line (annotation_line s r)
unfolding annotation_line field all
annotation_line_lem s r =
    line (join (join (join (numbered (ascii "annotation ") refl r.start) (numbered (ascii " ") refl r.end)) (record { text = ascii " "; free = refl }))
    (record { text = shown_text s r.texts.label; free = text_free s r.texts.label }))

pub split_rows : {A : Type 0} (f : A → List ℕ) → ((r : A) → Line (f r)) → (rs : List A) (t : List ℕ) → split_lines (flat f rs ++ t) ≡ map f rs ++ split_lines t
unfolding flat
split_rows f h [] t = refl
split_rows f h (r ∷ rs) t =
    ap split_lines (append_assoc (f r) (flat f rs) t) ∙ h r (flat f rs ++ t) ∙ ap (λ (x : List (List ℕ)). f r ∷ x) (split_rows f h rs t)
