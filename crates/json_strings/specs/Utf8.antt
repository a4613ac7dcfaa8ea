-- UTF-8: of a code point (Unicode, table 3-6), and a valid text (table 3-7).
use Rattle.std.specs.Prelude.{cond, List, [], ◌∷◌, ◌++◌, ℕ, ◌≤◌, ◌+◌, ◌/◌, ◌%◌, ltb}
use Rattle.json_grammar.specs.Grammar.{Between, Multibyte}

-- a code point in UTF-8 (Unicode, table 3-6)
unfoldable pub utf8 : ℕ → List ℕ
utf8 p =
    cond (ltb p 0x80) (p ∷ [])
    (cond (ltb p 0x800) ((0xC0 + p / 0x40) ∷ ((0x80 + p % 0x40) ∷ []))
    (cond (ltb p 0x10000) ((0xE0 + p / 0x1000) ∷ ((0x80 + p / 0x40 % 0x40) ∷ ((0x80 + p % 0x40) ∷ [])))
    ((0xF0 + p / 0x40000) ∷ ((0x80 + p / 0x1000 % 0x40) ∷ ((0x80 + p / 0x40 % 0x40) ∷ ((0x80 + p % 0x40) ∷ []))))))

-- a code point that is no surrogate
pub data Scalar (p : ℕ) : Type 0 where
  below : Between 0 0xD7FF p → Scalar p
  above : Between 0xE000 0x10FFFF p → Scalar p

-- one character: an ASCII byte, or the bytes of a character above ASCII
pub data Encoded : List ℕ → Type 0 where
  single : {b : ℕ} → b ≤ 0x7F → Encoded (b ∷ [])
  several : {c : List ℕ} → Multibyte c → Encoded c

pub data Utf8 : List ℕ → Type 0 where
  no_text : Utf8 []
  text : {c t : List ℕ} → Encoded c → Utf8 t → Utf8 (c ++ t)
