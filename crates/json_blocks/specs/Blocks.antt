-- For the code: tests of bytes, and of the n bytes from a place on.
use Rattle.std.specs.Prelude.{◌≡◌, Bool, true, not, ◌&&◌, List, ℕ, zero, suc, ◌≤◌, ◌<◌, ◌+◌, length, eqb, ltb, leb}
use Rattle.json_blocks.specs.TextBytes.{byte}

-- ASCII, and no control byte, quote or backslash
unfoldable pub plain_byte : ℕ → Bool
plain_byte b = leb 0x20 b && ltb b 0x80 && not (eqb b 0x22) && not (eqb b 0x5C)

-- no quote and no backslash
unfoldable pub ordinary_byte : ℕ → Bool
ordinary_byte b = not (eqb b 0x22) && not (eqb b 0x5C)

unfoldable pub space_byte : ℕ → Bool
space_byte b = eqb b 0x20

-- each of the n bytes from i on is good
unfoldable pub all_at : (ℕ → Bool) → ℕ → List ℕ → ℕ → Bool
all_at good zero s i = true
all_at good (suc n) s i = good (byte s i) && all_at good n s (i + 1)

-- eight good bytes stand from i on
abbrev pub block_at : (ℕ → Bool) → List ℕ → ℕ → Bool
block_at good s i = leb (i + 8) (length s) && all_at good 8 s i

-- each byte from `at` up to r is good
pub record GoodTo (good : ℕ → Bool) (s : List ℕ) (at r : ℕ) : Type 0 where
  pub onward : at ≤ r
  pub each : (i : ℕ) → at ≤ i → i < r → good (byte s i) ≡ true

-- each byte from `at` up to r is plain
abbrev pub PlainTo : List ℕ → ℕ → ℕ → Type 0
PlainTo = GoodTo plain_byte
