-- A string or value that was read is passed by its quotes and brackets alone.
use Rattle.std.specs.Prelude.{Option, Some}
use mathlib.Core.Path.{◌≡◌, subst}
use mathlib.Core.Bool.{false}
use mathlib.Core.List.{List}
use Prim.Native.Nat.{ℕ, ◌+◌}
use Rattle.json_blocks.specs.TextBytes.{byte}
use Rattle.json_characters.specs.String.{string_at}
use Rattle.json_blocks.specs.declared.Cursor.{Cursor}
use Rattle.json_grammar.specs.Grammar.{Value, String, string}
use Rattle.json_grammar.specs.ByPlace.{value_at}
use Rattle.json_grammar.specs.Skip.{skip_string, skip_value, token_byte}
use Rattle.json_grammar.proofs.Stands.{stands_tail}
use Rattle.json_grammar.proofs.Derived.{Derived, derived, Got, got}
use Rattle.json_grammar.proofs.Strings.{string_sound}
use Rattle.json_grammar.proofs.Values.{value_sound}
use Rattle.json_grammar.proofs.SkipLaws.{string_skipped, value_skipped}

derived_skipped : {s : List ℕ} {i j : ℕ} → Derived String s i j → skip_string s (i + 1) ≡ j
derived_skipped {s} {i} {j} (derived (string {cs} p) q) = string_skipped s (i + 1) j cs p (stands_tail s q)

pub string_read : (s : List ℕ) (i : ℕ) (c : Cursor) → byte s i ≡ 0x22 → string_at s (i + 1) ≡ Some c → skip_string s (i + 1) ≡ c.at
string_read s i c b e = go (subst (λ (r : Option Cursor). Got (Derived String s i) r) e (string_sound s i b)) where
  go : Got (Derived String s i) (Some c) → skip_string s (i + 1) ≡ c.at
  go (got p) = derived_skipped p

pub value_read : (d : ℕ) (s : List ℕ) (i : ℕ) (c : Cursor) → value_at d s i ≡ Some c → token_byte (byte s c.at) ≡ false → skip_value s i ≡ c.at
value_read d s i c e h = go (value_sound d s i c e) where
  go : Derived (Value d) s i c.at → skip_value s i ≡ c.at
  go (derived {xs} p q) = value_skipped d s i c.at xs p q h
