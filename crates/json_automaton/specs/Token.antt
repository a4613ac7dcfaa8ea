-- How far inside a token a text has come, as a number: 0 is between tokens. A move takes one byte more.
use Rattle.std.specs.Prelude.{Bool, cond, ◌||◌, List, [], ◌∷◌, ℕ, get_or, eqb, ltb}
use Rattle.json_blocks.specs.TextBytes.{within}
use Rattle.json_tokens.specs.Number.{digit}
use Rattle.json_characters.specs.String.{hex_value, short_escape}

-- the token cannot take the byte
abbrev pub bad : ℕ
bad = 38

-- ---- strings: 1 to 20
unfoldable pub byte_move : ℕ → ℕ → ℕ → ℕ → ℕ
byte_move lo hi next b = cond (within lo hi b) next bad

-- the byte w
unfoldable pub is_move : ℕ → ℕ → ℕ → ℕ
is_move w next b = cond (eqb b w) next bad

-- a hexadecimal digit
unfoldable pub hex_move : ℕ → ℕ → ℕ
hex_move next b = cond (ltb 15 (hex_value b)) bad next

-- the first two digits of a low surrogate
unfoldable pub low_move : ℕ → ℕ → ℕ → ℕ → ℕ
low_move lo hi next b = cond (within lo hi (hex_value b)) next bad

-- the first byte of a character above ASCII (Unicode, table 3-7)
unfoldable pub wide_move : ℕ → ℕ
wide_move b =
    cond (within 0xC2 0xDF b) 2
    (cond (eqb b 0xE0) 5
    (cond (within 0xE1 0xEC b) 3
    (cond (eqb b 0xED) 6
    (cond (within 0xEE 0xEF b) 3
    (cond (eqb b 0xF0) 7
    (cond (within 0xF1 0xF3 b) 4
    (cond (eqb b 0xF4) 8 bad)))))))

unfoldable pub text_move : ℕ → ℕ
text_move b = cond (eqb b 0x22) 0 (cond (ltb b 0x20) bad (cond (eqb b 0x5C) 9 (cond (ltb b 0x80) 1 (wide_move b))))

unfoldable pub escape_move : ℕ → ℕ
escape_move b = cond (short_escape b) 1 (cond (eqb b 0x75) 13 bad)

-- a first digit `d` may begin a surrogate
unfoldable pub first_hex_move : ℕ → ℕ
first_hex_move b = cond (ltb 15 (hex_value b)) bad (cond (eqb (hex_value b) 13) 14 12)

-- after `\ud`: no surrogate, a high one; a low one stands nowhere first
unfoldable pub surrogate_move : ℕ → ℕ
surrogate_move b = cond (ltb (hex_value b) 8) 11 (cond (ltb (hex_value b) 12) 15 bad)

-- ---- numbers: 21 to 28
unfoldable pub minus_move : ℕ → ℕ
minus_move b = cond (eqb b 0x30) 22 (byte_move 0x30 0x39 23 b)

unfoldable pub exponent_move : ℕ → ℕ
exponent_move b = cond (eqb b 0x65) 26 (cond (eqb b 0x45) 26 bad)

unfoldable pub fraction_move : ℕ → ℕ
fraction_move b = cond (eqb b 0x2E) 24 (exponent_move b)

unfoldable pub sign_move : ℕ → ℕ
sign_move b = cond (eqb b 0x2B) 27 (cond (eqb b 0x2D) 27 (byte_move 0x30 0x39 28 b))

unfoldable pub token_moves : ℕ → List ℕ
token_moves b =
    bad  -- 0: no token
    ∷ (text_move b  -- 1: in a string
    ∷ (byte_move 0x80 0xBF 1 b  -- 2: one byte more of a character
    ∷ (byte_move 0x80 0xBF 2 b  -- 3: two
    ∷ (byte_move 0x80 0xBF 3 b  -- 4: three
    ∷ (byte_move 0xA0 0xBF 2 b  -- 5: after E0
    ∷ (byte_move 0x80 0x9F 2 b  -- 6: after ED
    ∷ (byte_move 0x90 0xBF 3 b  -- 7: after F0
    ∷ (byte_move 0x80 0x8F 3 b  -- 8: after F4
    ∷ (escape_move b  -- 9: after a backslash
    ∷ (hex_move 1 b  -- 10: one hexadecimal digit more
    ∷ (hex_move 10 b  -- 11: two
    ∷ (hex_move 11 b  -- 12: three
    ∷ (first_hex_move b  -- 13: after `\u`
    ∷ (surrogate_move b  -- 14: after `\ud`
    ∷ (hex_move 16 b  -- 15: two digits more of a high surrogate
    ∷ (hex_move 17 b  -- 16: one
    ∷ (is_move 0x5C 18 b  -- 17: after a high surrogate
    ∷ (is_move 0x75 19 b  -- 18: after its partner's backslash
    ∷ (low_move 13 13 20 b  -- 19: `u`
    ∷ (low_move 12 15 11 b  -- 20: `ud`
    ∷ (minus_move b  -- 21: after `-`
    ∷ (fraction_move b  -- 22: after `0`
    ∷ (cond (digit b) 23 (fraction_move b)  -- 23: in other integers
    ∷ (byte_move 0x30 0x39 25 b  -- 24: after the point
    ∷ (cond (digit b) 25 (exponent_move b)  -- 25: in the fraction
    ∷ (sign_move b  -- 26: after `e`
    ∷ (byte_move 0x30 0x39 28 b  -- 27: after its sign
    ∷ (byte_move 0x30 0x39 28 b  -- 28: in the exponent
    ∷ (is_move 0x72 30 b  -- 29: `rue` is left
    ∷ (is_move 0x75 31 b  -- 30: `ue`
    ∷ (is_move 0x65 0 b  -- 31: `e`
    ∷ (is_move 0x61 33 b  -- 32: `alse`
    ∷ (is_move 0x6C 34 b  -- 33: `lse`
    ∷ (is_move 0x73 31 b  -- 34: `se`
    ∷ (is_move 0x75 36 b  -- 35: `ull`
    ∷ (is_move 0x6C 37 b  -- 36: `ll`
    ∷ (is_move 0x6C 0 b  -- 37: `l`
    ∷ [])))))))))))))))))))))))))))))))))))))

-- the token after one byte more; 0 where the byte ends it
unfoldable pub token_move : ℕ → ℕ → ℕ
token_move t b = get_or (token_moves b) t bad

-- nothing is wanted: no token, or a number that may end here
unfoldable pub whole : ℕ → Bool
whole t = eqb t 0 || eqb t 22 || eqb t 23 || eqb t 25 || eqb t 28
