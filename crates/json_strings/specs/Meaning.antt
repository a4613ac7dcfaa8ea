-- What the characters of a JSON string mean, in UTF-8 (ECMA-404, 9). proofs/Theorem.antt shows that a string's body means its decoded text.
use Rattle.std.specs.Prelude.{◌≡◌, List, [], ◌∷◌, ◌++◌, ℕ, ◌+◌, ◌*◌, ◌-◌, take}
use Rattle.json_grammar.specs.Grammar.{Between, Multibyte, CodeUnit}
use Rattle.json_blocks.specs.TextBytes.{slice}
use Rattle.json_strings.specs.Characters.{step_at}
use Rattle.json_strings.specs.Utf8.{utf8}
use Rattle.json_strings.specs.Utf8.{Scalar, Encoded}

-- the letter of a short escape, and the character that it means
pub data Letter : ℕ → ℕ → Type 0 where
  quotation_mark : Letter 0x22 0x22
  reverse_solidus : Letter 0x5C 0x5C
  solidus : Letter 0x2F 0x2F
  backspace : Letter 0x62 0x08
  form_feed : Letter 0x66 0x0C
  new_line : Letter 0x6E 0x0A
  return : Letter 0x72 0x0D
  tabulation : Letter 0x74 0x09

-- one character, or one escape, and what it means
pub data Meaning : List ℕ → List ℕ → Type 0 where
  plain : {b : ℕ} → Between 0x20 0x7F b → (b ≡ 0x22 → ⊥) → (b ≡ 0x5C → ⊥) → Meaning (b ∷ []) (b ∷ [])
  multibyte : {c : List ℕ} → Multibyte c → Meaning c c
  short : {b p : ℕ} → Letter b p → Meaning (0x5C ∷ (b ∷ [])) (p ∷ [])
  unit : {u : List ℕ} {n : ℕ} → CodeUnit u n → Scalar n → Meaning u (utf8 n)
  surrogates : {u v : List ℕ} {n m : ℕ} → CodeUnit u n → Between 0xD800 0xDBFF n → CodeUnit v m → Between 0xDC00 0xDFFF m
      → Meaning (u ++ v) (utf8 (0x10000 + (n - 0xD800) * 0x400 + (m - 0xDC00)))

-- a string's characters, and the text that they mean
pub data Means : List ℕ → List ℕ → Type 0 where
  nothing : Means [] []
  next : {c t cs ts : List ℕ} → Meaning c t → Means cs ts → Means (c ++ cs) (t ++ ts)

-- the raw bytes that a step passes, and the bytes that it yields
abbrev pub step_raw : List ℕ → ℕ → List ℕ
step_raw s at = slice s at ((step_at s at).at - at)

abbrev pub step_bytes : List ℕ → ℕ → List ℕ
step_bytes s at = take (step_at s at).len (step_at s at).bytes

-- Steps from a place on, and the text that they yield together: each passes one character and yields what it means, one scalar
-- value in UTF-8, and the last finds the string's end.
pub data Steps (s : List ℕ) : ℕ → List ℕ → Type 0 where
  end : {at : ℕ} → (step_at s at).len ≡ 0 → Steps s at []
  step : {at : ℕ} {t : List ℕ} → Meaning (step_raw s at) (step_bytes s at) → Encoded (step_bytes s at) → Steps s (step_at s at).at t
      → Steps s at (step_bytes s at ++ t)
