-- The reading of texts by place and the grammar of ECMA-404 are one.
use Rattle.json_blocks.specs.declared.Cursor.{Cursor}
use Rattle.std.specs.Prelude.{Option}
use mathlib.Core.Path.{◌≡◌, subst}
use mathlib.Core.Bool.{true}
use mathlib.Core.Logic.{◌↔◌}
use mathlib.Core.List.{List, ◌++◌}
use Prim.Native.Nat.{ℕ, ◌≤◌}
use native.Mathlib.Omega.{arith}
use lib.ListN.{length, get_or-eq_default}
use borrow.Author.Tests.{leb-true, le-leb}
use Rattle.limits.specs.Limits.{nesting}
use Rattle.json_blocks.specs.TextBytes.{byte, to, skip_blanks}
use Rattle.json_blocks.proofs.ByteLaws.{no_blank}
use Rattle.json_grammar.specs.Grammar.{Blanks, Value, Text, text}
use Rattle.json_grammar.specs.ByPlace.{value_at, ends_text, is_json}
use Rattle.json_grammar.specs.Stands.{Stands, Ends}
use Rattle.json_grammar.proofs.Stands.{stands_join, stands_left, stands_right}
use Rattle.json_grammar.proofs.Derived.{Derived, derived, stands_same, stands_whole, stands_all, Got, got, not_got}
use Rattle.json_grammar.proofs.Skips.{blanks_sound, blanks_complete, blanks_first}
use Rattle.json_grammar.proofs.Numbers.{ends_below}
use Rattle.json_grammar.proofs.Groups.{solid_above, blank_ends}
use Rattle.json_grammar.proofs.Values.{value_got, value_sound, value_first, value_complete}

-- blanks, a value and blanks up to the end were read: a text
text_sound : (d : ℕ) (s : List ℕ) → ends_text s (value_at d s (skip_blanks s 0)) ≡ true → Text d s
text_sound d s e = go (blanks_sound s 0) (value_got d s (skip_blanks s 0)) e where
  whole : {i j k : ℕ} → Derived Blanks s 0 i → Derived (Value d) s i j → Derived Blanks s j k → length s ≤ k → Text d s
  whole (derived a p) (derived b q) (derived c r) h = subst (Text d) (stands_whole (stands_join s p (stands_join s q r)) h) (text _ a b c)

  go : {i : ℕ} {r : (Option Cursor)} → Derived Blanks s 0 i → Got (Derived (Value d) s i) r → ends_text s r ≡ true → Text d s
  go a (got {c} b) e = whole a b (blanks_sound s c.at) (leb-true _ _ e)
  go a not_got e = let z : ◌≡◌ {A = ℕ} 0 1 = cc in absurd (omega arith)

text_complete : {d : ℕ} {s : List ℕ} → Text d s → ends_text s (value_at d s (skip_blanks s 0)) ≡ true
text_complete {d} (text {w} {u} v a p b) =
    let s : List ℕ = w ++ (v ++ u) in
    let q = stands_right s w (v ++ u) (stands_all s) in
    let r = stands_left s v u q in
    let t = stands_right s v u q in
    let z : byte s (length s) ≡ 0 = get_or-eq_default s 0 (omega arith) in
    let e = blanks_complete a (stands_left s w (v ++ u) (stands_all s)) (solid_above _ (value_first d p r).solid) in
    let f = value_complete d s _ _ v p r (blanks_first Ends blank_ends b t (rw z (ends_below 0 (omega arith)))) in
    rw (e, f, blanks_complete b t (rw z no_blank)) (le-leb (length s) (length s) (omega arith))

-- The reading accepts a list of bytes exactly if the grammar of ECMA-404 derives it as a JSON text, nested at most 32 deep:
-- it takes nothing that is no JSON text and refuses none.
pub json_is_grammar : (s : List ℕ) → (is_json s ≡ true) ↔ Text nesting s
unfolding is_json
json_is_grammar s = (text_sound nesting s, λ p. text_complete p)

-- What is read at a place depends on the value's own bytes alone: where they stand in any text, before a byte that no number
-- goes on with, they are read as the same value.
pub value_local : (d : ℕ) {s t xs : List ℕ} {i j k l : ℕ} → value_at d s i ≡ to j → Stands s i xs j → Stands t k xs l → Ends (byte t l) → value_at d t k ≡ to l
value_local d {s} {t} {xs} {i} {j} {k} {l} e p q h = go (value_sound d s i (record { at = j }) e) where
  go : Derived (Value d) s i j → value_at d t k ≡ to l
  go (derived v r) = value_complete d t k l xs (subst (Value d) (stands_same r p) v) q h
