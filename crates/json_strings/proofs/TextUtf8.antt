-- A text that the grammar derives is valid UTF-8 whole.
use mathlib.Core.Path.{sym, subst}
use mathlib.Core.List.{List, ◌∷◌, ◌++◌, append-nil, append_assoc}
use Prim.Native.Nat.{ℕ, zero, suc, ◌≤◌}
use native.Mathlib.Omega.{arith}
use Rattle.json_grammar.specs.Grammar as G
use Rattle.json_grammar.specs.Grammar.{Blanks, Digits, Minus, Integer, Fraction, Sign, Exponent, Number, HexDigit, CodeUnit, Short, Character, Characters, String}
use Rattle.json_grammar.specs.Grammar.{Items, Group, Member, AnyValue, Value, Text}
use Rattle.json_strings.specs.Utf8.{single, several, Utf8, no_text, text}

join : {a b : List ℕ} → Utf8 a → Utf8 b → Utf8 (a ++ b)
join no_text q = q
join {b = b} (text {c} {t} e p) q = subst Utf8 (sym (append_assoc c t b)) (text e (join p q))

one : {b : ℕ} {t : List ℕ} → b ≤ 0x7F → Utf8 t → Utf8 (b ∷ t)
one h p = text (single h) p

blanks_utf8 : {w : List ℕ} → Blanks w → Utf8 w
blanks_utf8 G.no_blanks = no_text
blanks_utf8 (G.blanks G.space p) = one (omega arith) (blanks_utf8 p)
blanks_utf8 (G.blanks G.tab p) = one (omega arith) (blanks_utf8 p)
blanks_utf8 (G.blanks G.line_feed p) = one (omega arith) (blanks_utf8 p)
blanks_utf8 (G.blanks G.carriage_return p) = one (omega arith) (blanks_utf8 p)

digits_utf8 : {w : List ℕ} → Digits w → Utf8 w
digits_utf8 G.no_digits = no_text
digits_utf8 (G.digits h p) = one (omega arith) (digits_utf8 p)

minus_utf8 : {w : List ℕ} → Minus w → Utf8 w
minus_utf8 G.no_minus = no_text
minus_utf8 G.minus = one (omega arith) no_text

integer_utf8 : {w : List ℕ} → Integer w → Utf8 w
integer_utf8 G.zero_alone = one (omega arith) no_text
integer_utf8 (G.leading h p) = one (omega arith) (digits_utf8 p)

fraction_utf8 : {w : List ℕ} → Fraction w → Utf8 w
fraction_utf8 G.no_fraction = no_text
fraction_utf8 (G.fraction h p) = one (omega arith) (one (omega arith) (digits_utf8 p))

sign_utf8 : {w : List ℕ} → Sign w → Utf8 w
sign_utf8 G.no_sign = no_text
sign_utf8 G.plus_sign = one (omega arith) no_text
sign_utf8 G.minus_sign = one (omega arith) no_text

exponent_utf8 : {w : List ℕ} → Exponent w → Utf8 w
exponent_utf8 G.no_exponent = no_text
exponent_utf8 (G.small_e g h p) = one (omega arith) (join (sign_utf8 g) (one (omega arith) (digits_utf8 p)))
exponent_utf8 (G.capital_e g h p) = one (omega arith) (join (sign_utf8 g) (one (omega arith) (digits_utf8 p)))

number_utf8 : {w : List ℕ} → Number w → Utf8 w
number_utf8 (G.number m i f e) = join (minus_utf8 m) (join (integer_utf8 i) (join (fraction_utf8 f) (exponent_utf8 e)))

hex_low : {b n : ℕ} → HexDigit b n → b ≤ 0x7F
hex_low (G.decimal h) = omega arith
hex_low (G.capital h) = omega arith
hex_low (G.small h) = omega arith

unit_utf8 : {u : List ℕ} {n : ℕ} → CodeUnit u n → Utf8 u
unit_utf8 (G.code_unit a b c d) = one (omega arith) (one (omega arith) (one (hex_low a) (one (hex_low b) (one (hex_low c) (one (hex_low d) no_text)))))

short_low : {b : ℕ} → Short b → b ≤ 0x7F
short_low G.quotation_mark = omega arith
short_low G.reverse_solidus = omega arith
short_low G.solidus = omega arith
short_low G.backspace = omega arith
short_low G.form_feed = omega arith
short_low G.new_line = omega arith
short_low G.return = omega arith
short_low G.tabulation = omega arith

character_utf8 : {c : List ℕ} → Character c → Utf8 c
character_utf8 (G.plain h f g) = one h.high no_text
character_utf8 (G.multibyte {c} m) = subst Utf8 (append-nil c) (text (several m) no_text)
character_utf8 (G.short p) = one (omega arith) (one (short_low p) no_text)
character_utf8 (G.below u h) = unit_utf8 u
character_utf8 (G.above u h) = unit_utf8 u
character_utf8 (G.surrogates u h v g) = join (unit_utf8 u) (unit_utf8 v)

characters_utf8 : {c : List ℕ} → Characters c → Utf8 c
characters_utf8 G.no_characters = no_text
characters_utf8 (G.characters p r) = join (character_utf8 p) (characters_utf8 r)

string_utf8 : {x : List ℕ} → String x → Utf8 x
string_utf8 (G.string p) = one (omega arith) (join (characters_utf8 p) (one (omega arith) no_text))

module _ {Item : List ℕ → Type 0} (item : (x : List ℕ) → Item x → Utf8 x) where
  items_utf8 : {x : List ℕ} → Items Item x → Utf8 x
  items_utf8 (G.last p w) = join (item _ p) (blanks_utf8 w)
  items_utf8 (G.more p w u r) = join (item _ p) (join (blanks_utf8 w) (one (omega arith) (join (blanks_utf8 u) (items_utf8 r))))

  group_utf8 : {x : List ℕ} {b c : ℕ} → b ≤ 0x7F → c ≤ 0x7F → Group Item b c x → Utf8 x
  group_utf8 h g (G.empty w) = one h (join (blanks_utf8 w) (one g no_text))
  group_utf8 h g (G.full w r) = one h (join (blanks_utf8 w) (join (items_utf8 r) (one g no_text)))

  member_utf8 : (x : List ℕ) → Member Item x → Utf8 x
  member_utf8 x (G.member n w u p) = join (string_utf8 n) (join (blanks_utf8 w) (one (omega arith) (join (blanks_utf8 u) (item _ p))))

any_utf8 : {A B : List ℕ → Type 0} → ((x : List ℕ) → A x → Utf8 x) → ((x : List ℕ) → B x → Utf8 x) → (x : List ℕ) → AnyValue A B x → Utf8 x
any_utf8 f g x (G.an_object p) = g x p
any_utf8 f g x (G.an_array p) = f x p
any_utf8 f g x (G.a_number p) = number_utf8 p
any_utf8 f g x (G.a_string p) = string_utf8 p
any_utf8 f g _ G.a_true = one (omega arith) (one (omega arith) (one (omega arith) (one (omega arith) no_text)))
any_utf8 f g _ G.a_false = one (omega arith) (one (omega arith) (one (omega arith) (one (omega arith) (one (omega arith) no_text))))
any_utf8 f g _ G.a_null = one (omega arith) (one (omega arith) (one (omega arith) (one (omega arith) no_text)))

value_utf8 : (d : ℕ) (x : List ℕ) → Value d x → Utf8 x
unfolding Value
value_utf8 zero = any_utf8 (λ x p. absurd p) (λ x p. absurd p)
value_utf8 (suc d) = any_utf8 (λ x p. group_utf8 (value_utf8 d) (omega arith) (omega arith) p) (λ x p. group_utf8 (member_utf8 (value_utf8 d)) (omega arith) (omega arith) p)

-- with `json_is_grammar`: what the reading accepts is "one JSON value in valid UTF-8"
pub text_utf8 : {d : ℕ} {s : List ℕ} → Text d s → Utf8 s
text_utf8 {d} (G.text v a p b) = join (blanks_utf8 a) (join (value_utf8 d v p) (blanks_utf8 b))
