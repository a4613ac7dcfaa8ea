-- JSON texts, by the productions of ECMA-404. A text is a list of bytes. Outside strings every production is ASCII, and
-- `Character` admits valid UTF-8 alone, so a derived text is valid UTF-8.
use Rattle.std.specs.Prelude.{◌≡◌, List, [], ◌∷◌, ◌++◌, ℕ, zero, suc, ◌+◌, ◌-◌, ◌*◌, ◌≤◌}
use Rattle.json_blocks.specs.TextBytes.{ascii}

pub record Between (lo hi b : ℕ) : Type 0 where
  pub low : lo ≤ b
  pub high : b ≤ hi

-- ---- 4: whitespace

pub data Blank : ℕ → Type 0 where
  space : Blank 0x20
  tab : Blank 0x09
  line_feed : Blank 0x0A
  carriage_return : Blank 0x0D

pub data Blanks : List ℕ → Type 0 where
  no_blanks : Blanks []
  blanks : {b : ℕ} {w : List ℕ} → Blank b → Blanks w → Blanks (b ∷ w)

-- ---- 8: numbers

abbrev pub Digit : ℕ → Type 0
Digit = Between 0x30 0x39

pub data Digits : List ℕ → Type 0 where
  no_digits : Digits []
  digits : {b : ℕ} {ds : List ℕ} → Digit b → Digits ds → Digits (b ∷ ds)

pub data Minus : List ℕ → Type 0 where
  no_minus : Minus []
  minus : Minus (ascii "-")

pub data Integer : List ℕ → Type 0 where
  zero_alone : Integer (ascii "0")
  leading : {b : ℕ} {ds : List ℕ} → Between 0x31 0x39 b → Digits ds → Integer (b ∷ ds)

pub data Fraction : List ℕ → Type 0 where
  no_fraction : Fraction []
  fraction : {b : ℕ} {ds : List ℕ} → Digit b → Digits ds → Fraction (0x2E ∷ (b ∷ ds))

pub data Sign : List ℕ → Type 0 where
  no_sign : Sign []
  plus_sign : Sign (ascii "+")
  minus_sign : Sign (ascii "-")

pub data Exponent : List ℕ → Type 0 where
  no_exponent : Exponent []
  small_e : {g : List ℕ} {b : ℕ} {ds : List ℕ} → Sign g → Digit b → Digits ds → Exponent (0x65 ∷ (g ++ (b ∷ ds)))
  capital_e : {g : List ℕ} {b : ℕ} {ds : List ℕ} → Sign g → Digit b → Digits ds → Exponent (0x45 ∷ (g ++ (b ∷ ds)))

pub data Number : List ℕ → Type 0 where
  number : {m i f e : List ℕ} → Minus m → Integer i → Fraction f → Exponent e → Number (m ++ (i ++ (f ++ e)))

-- ---- 9: strings

-- a hexadecimal digit and its number
pub data HexDigit : ℕ → ℕ → Type 0 where
  decimal : {b : ℕ} → Between 0x30 0x39 b → HexDigit b (b - 0x30)
  capital : {b : ℕ} → Between 0x41 0x46 b → HexDigit b (b - 0x41 + 10)
  small : {b : ℕ} → Between 0x61 0x66 b → HexDigit b (b - 0x61 + 10)

-- `\u`, four hexadecimal digits, and their number
pub data CodeUnit : List ℕ → ℕ → Type 0 where
  code_unit : {a b c d w x y z : ℕ} → HexDigit a w → HexDigit b x → HexDigit c y → HexDigit d z
      → CodeUnit (0x5C ∷ (0x75 ∷ (a ∷ (b ∷ (c ∷ (d ∷ [])))))) (((w * 16 + x) * 16 + y) * 16 + z)

-- a character above ASCII in UTF-8: Unicode, table 3-7, from its second row on
pub data Multibyte : List ℕ → Type 0 where
  row2 : {a b : ℕ} → Between 0xC2 0xDF a → Between 0x80 0xBF b → Multibyte (a ∷ (b ∷ []))
  row3 : {b c : ℕ} → Between 0xA0 0xBF b → Between 0x80 0xBF c → Multibyte (0xE0 ∷ (b ∷ (c ∷ [])))
  row4 : {a b c : ℕ} → Between 0xE1 0xEC a → Between 0x80 0xBF b → Between 0x80 0xBF c → Multibyte (a ∷ (b ∷ (c ∷ [])))
  row5 : {b c : ℕ} → Between 0x80 0x9F b → Between 0x80 0xBF c → Multibyte (0xED ∷ (b ∷ (c ∷ [])))
  row6 : {a b c : ℕ} → Between 0xEE 0xEF a → Between 0x80 0xBF b → Between 0x80 0xBF c → Multibyte (a ∷ (b ∷ (c ∷ [])))
  row7 : {b c d : ℕ} → Between 0x90 0xBF b → Between 0x80 0xBF c → Between 0x80 0xBF d → Multibyte (0xF0 ∷ (b ∷ (c ∷ (d ∷ []))))
  row8 : {a b c d : ℕ} → Between 0xF1 0xF3 a → Between 0x80 0xBF b → Between 0x80 0xBF c → Between 0x80 0xBF d → Multibyte (a ∷ (b ∷ (c ∷ (d ∷ []))))
  row9 : {b c d : ℕ} → Between 0x80 0x8F b → Between 0x80 0xBF c → Between 0x80 0xBF d → Multibyte (0xF4 ∷ (b ∷ (c ∷ (d ∷ []))))

-- the bytes that make an escape by themselves after a backslash
pub data Short : ℕ → Type 0 where
  quotation_mark : Short 0x22
  reverse_solidus : Short 0x5C
  solidus : Short 0x2F
  backspace : Short 0x62
  form_feed : Short 0x66
  new_line : Short 0x6E
  return : Short 0x72
  tabulation : Short 0x74

-- one character of a string, or one escape. Document 01: "a `\u` surrogate without its partner gives 2".
pub data Character : List ℕ → Type 0 where
  plain : {b : ℕ} → Between 0x20 0x7F b → (b ≡ 0x22 → ⊥) → (b ≡ 0x5C → ⊥) → Character (b ∷ [])
  multibyte : {c : List ℕ} → Multibyte c → Character c
  short : {b : ℕ} → Short b → Character (0x5C ∷ (b ∷ []))
  below : {u : List ℕ} {n : ℕ} → CodeUnit u n → Between 0 0xD7FF n → Character u
  above : {u : List ℕ} {n : ℕ} → CodeUnit u n → Between 0xE000 0xFFFF n → Character u
  surrogates : {u v : List ℕ} {n m : ℕ} → CodeUnit u n → Between 0xD800 0xDBFF n → CodeUnit v m → Between 0xDC00 0xDFFF m → Character (u ++ v)

pub data Characters : List ℕ → Type 0 where
  no_characters : Characters []
  characters : {c cs : List ℕ} → Character c → Characters cs → Characters (c ++ cs)

pub data String : List ℕ → Type 0 where
  string : {cs : List ℕ} → Characters cs → String (0x22 ∷ (cs ++ (0x22 ∷ [])))

-- ---- 6 and 7: objects and arrays

-- one item or more, with commas between them and blanks around each
pub data Items (Item : List ℕ → Type 0) : List ℕ → Type 0 where
  last : {x w : List ℕ} → Item x → Blanks w → Items Item (x ++ w)
  more : {x w u xs : List ℕ} → Item x → Blanks w → Blanks u → Items Item xs → Items Item (x ++ (w ++ (0x2C ∷ (u ++ xs))))

pub data Group (Item : List ℕ → Type 0) (open-byte close-byte : ℕ) : List ℕ → Type 0 where
  empty : {w : List ℕ} → Blanks w → Group Item open-byte close-byte (open-byte ∷ (w ++ (close-byte ∷ [])))
  full : {w xs : List ℕ} → Blanks w → Items Item xs → Group Item open-byte close-byte (open-byte ∷ (w ++ (xs ++ (close-byte ∷ []))))

pub data Member (Value : List ℕ → Type 0) : List ℕ → Type 0 where
  member : {n w u v : List ℕ} → String n → Blanks w → Blanks u → Value v → Member Value (n ++ (w ++ (0x3A ∷ (u ++ v))))

abbrev pub Array : (List ℕ → Type 0) → List ℕ → Type 0
Array Value = Group Value 0x5B 0x5D

abbrev pub Object : (List ℕ → Type 0) → List ℕ → Type 0
Object Value = Group (Member Value) 0x7B 0x7D

-- ---- 5: values

pub data AnyValue (AnArray AnObject : List ℕ → Type 0) : List ℕ → Type 0 where
  an_object : {x : List ℕ} → AnObject x → AnyValue AnArray AnObject x
  an_array : {x : List ℕ} → AnArray x → AnyValue AnArray AnObject x
  a_number : {x : List ℕ} → Number x → AnyValue AnArray AnObject x
  a_string : {x : List ℕ} → String x → AnyValue AnArray AnObject x
  a_true : AnyValue AnArray AnObject (ascii "true")
  a_false : AnyValue AnArray AnObject (ascii "false")
  a_null : AnyValue AnArray AnObject (ascii "null")

-- a value that nests at most d deep: "a bare number has depth 0, `[]` has depth 1"
unfoldable pub Value : ℕ → List ℕ → Type 0
Value zero = AnyValue (λ x. ⊥) (λ x. ⊥)
Value (suc d) = AnyValue (Array (Value d)) (Object (Value d))

-- a text: one value, with blanks before and after it
pub data Text (d : ℕ) : List ℕ → Type 0 where
  text : {w u : List ℕ} (v : List ℕ) → Blanks w → Value d v → Blanks u → Text d (w ++ (v ++ u))
