-- Laws of texts as the listing shows them.
use Rattle.std.specs.Prelude.{None, Option, Some}
use Prim.Native.Nat.{ℕ, ◌+◌}
use mathlib.Core.Path.{◌≡◌, refl, sym, ap, ◌∙◌}
use mathlib.Core.List.{List, [], ◌∷◌, ◌++◌, append-nil}
use native.Mathlib.Omega.{arith}
use lib.ListN.{length, length-append}
use Rattle.json_strings.specs.Decode.{decoded_from}
use Rattle.json_strings.specs.declared.Position.{Position}
use Rattle.json_strings.specs.Stream.{start_at, stream, next_byte}
use Rattle.json_strings.proofs.DecodeLaws.{stream_start, streamed_next, streamed_end}
use Rattle.table.specs.Rows.{flat}
use Rattle.output.proofs.Writing.{Parts, parts_of, Writes, writes_empty, writes_split}
use Rattle.listing_text.specs.Shown.{shown_byte, quoted}

-- ---- how long a text is in quotes
quoted_is : (raw : List ℕ) → quoted raw ≡ 0x22 ∷ (flat shown_byte (decoded_from raw 0) ++ (0x22 ∷ []))
unfolding quoted
quoted_is raw = refl

pub quoted_long : (raw : List ℕ) → length (quoted raw) ≡ 2 + length (flat shown_byte (stream raw (start_at 0)))
quoted_long raw = rw (stream_start raw 0) (ap length (quoted_is raw) ∙ omega (arith, length-append (flat shown_byte (decoded_from raw 0)) (0x22 ∷ [])))

-- what is left of it at a position; g: the next byte
module _ (s : List ℕ) (p : Position) (g : Option (ℕ × Position)) (e : g ≡ next_byte s p) where
  pub shown_more : (b : ℕ) (q : Position) → g ≡ Some (b, q) → length (flat shown_byte (stream s p)) ≡ length (shown_byte b) + length (flat shown_byte (stream s q))
  unfolding flat
  shown_more b q h = ap (λ (w : List ℕ). length (flat shown_byte w)) (streamed_next s p g e b q h) ∙ length-append (shown_byte b) (flat shown_byte (stream s q))

  pub shown_none : g ≡ None → length (flat shown_byte (stream s p)) ≡ 0
  unfolding flat
  shown_none h = ap (λ (w : List ℕ). length (flat shown_byte w)) (streamed_end s p g e h)

-- ---- writing it: the quotes, and between them the bytes, of which x are left
pub quoted_parts : (raw : List ℕ) → Parts (quoted raw) ((0x22 ∷ []) ∷ flat shown_byte (decoded_from raw 0) ∷ (0x22 ∷ []) ∷ [])
unfolding quoted
quoted_parts raw = parts_of (0x22 ∷ []) (flat shown_byte (decoded_from raw 0) ∷ (0x22 ∷ []) ∷ [])

pub shown_parts : (raw : List ℕ) → Parts (flat shown_byte (decoded_from raw 0)) (flat shown_byte (stream raw (start_at 0)) ∷ [])
shown_parts raw = record { whole = ap (flat shown_byte) (sym (stream_start raw 0)) ∙ sym (append-nil (flat shown_byte (stream raw (start_at 0)))) }

module _ {F m out : List ℕ} {p : ℕ} (x : List ℕ) (S : Writes F m out p (flat shown_byte x ∷ [])) where
  pub shown_close : x ≡ [] → Writes F m out p []
  unfolding flat
  shown_close e = writes_empty S (ap (flat shown_byte) e)

  pub shown_on : {b : ℕ} {y : List ℕ} → x ≡ b ∷ y → Writes F m out p (shown_byte b ∷ flat shown_byte y ∷ [])
  unfolding flat
  shown_on {b} {y} e = writes_split S (record { whole = ap (flat shown_byte) e ∙ ap (λ (l : List ℕ). shown_byte b ++ l) (sym (append-nil (flat shown_byte y))) })
