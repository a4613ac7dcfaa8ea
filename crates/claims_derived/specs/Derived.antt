-- What a derivation of ECMA-404's grammar says: the values of a text with their places, the members of an object, the elements of
-- an array, what a string means and which whole number a number is.
use Rattle.std.specs.Prelude.{Bool, true, false, List, [], ◌∷◌, ◌++◌, ℕ, zero, suc, ◌+◌, ◌-◌, ◌*◌, length}
use Rattle.std.proofs.Math.Option.{Option, none, some}
use Rattle.json_blocks.specs.Lists.{number_from}
use Rattle.json_grammar.specs.Grammar as G
use Rattle.json_grammar.specs.Grammar.{Short, Character, plain, multibyte, short, below, above, surrogates, Characters, no_characters, characters}
use Rattle.json_grammar.specs.Grammar.{String, string, Number, no_minus, minus, no_fraction, fraction, no_exponent, small_e, capital_e}
use Rattle.json_grammar.specs.Grammar.{Items, last, more, Group, empty, full, Member, member, Array, Object}
use Rattle.json_grammar.specs.Grammar.{AnyValue, an_object, an_array, a_number, a_string, a_true, a_false, a_null, Value, Text}
use Rattle.json_grammar.specs.Stands.{Stands}
use Rattle.json_strings.specs.Utf8.{utf8}

-- ---- 9: what the characters of a string mean, in UTF-8
abbrev pub letter : {b : ℕ} → Short b → ℕ
letter G.quotation_mark = 0x22
letter G.reverse_solidus = 0x5C
letter G.solidus = 0x2F
letter G.backspace = 0x08
letter G.form_feed = 0x0C
letter G.new_line = 0x0A
letter G.return = 0x0D
letter G.tabulation = 0x09

abbrev pub character : {c : List ℕ} → Character c → List ℕ
character (plain {b} h f g) = b ∷ []
character (multibyte {c} m) = c
character (short p) = letter p ∷ []
character (below {n} u h) = utf8 n
character (above {n} u h) = utf8 n
character (surrogates {n} {m} u h v g) = utf8 (0x10000 + (n - 0xD800) * 0x400 + (m - 0xDC00))

unfoldable pub meant : {cs : List ℕ} → Characters cs → List ℕ
meant no_characters = []
meant (characters p r) = character p ++ meant r

abbrev pub text_of : {x : List ℕ} → String x → List ℕ
text_of (string p) = meant p

-- ---- 8: the number of digits alone, without minus, fraction or exponent
abbrev pub whole_of : {x : List ℕ} → Number x → Option ℕ
whole_of (G.number {i} no_minus p no_fraction no_exponent) = some (number_from 0 i)
whole_of (G.number no_minus p no_fraction (small_e g h r)) = none
whole_of (G.number no_minus p no_fraction (capital_e g h r)) = none
whole_of (G.number no_minus p (fraction h r) e) = none
whole_of (G.number minus p f e) = none

-- ---- 5: what a value is
pub data Kind : Type 0 where
  object : Kind
  array : Kind
  number : Option ℕ → Kind
  text : List ℕ → Kind
  boolean : Bool → Kind
  null : Kind

abbrev pub kind_of : {A B : List ℕ → Type 0} {x : List ℕ} → AnyValue A B x → Kind
kind_of (an_object g) = object
kind_of (an_array g) = array
kind_of (a_number p) = number (whole_of p)
kind_of (a_string p) = text (text_of p)
kind_of a_true = boolean true
kind_of a_false = boolean false
kind_of a_null = null

unfoldable pub kind_in : (d : ℕ) (x : List ℕ) → Value d x → Kind
unfolding Value
kind_in zero x v = kind_of v
kind_in (suc d) x v = kind_of v

-- ---- 6 and 7: places
-- a value in a text: the place of its first byte, its bytes, and their derivation
pub record Node : Type 0 where
  pub at : ℕ
  pub bytes : List ℕ
  pub depth : ℕ
  pub value : Value depth bytes

-- it stands at its place in the text s
abbrev pub Here : List ℕ → Node → Type 0
Here s n = Stands s n.at n.bytes (n.at + length n.bytes)

-- a member of an object: what its name means, and its value
pub record Entry : Type 0 where
  pub name : List ℕ
  pub node : Node

-- what `of` says of each item by its place, for items that begin at i: "," and blanks stand between them
unfoldable pub items_from : {Item : List ℕ → Type 0} {A : Type 0} {xs : List ℕ} → (ℕ → (x : List ℕ) → Item x → A) → ℕ → Items Item xs → List A
items_from of i (last {x} p w) = of i x p ∷ []
items_from of i (more {x} {w} {u} p a b r) = of i x p ∷ items_from of (i + length x + length w + 1 + length u) r

-- a bracket or brace and blanks stand before them
unfoldable pub group_from : {Item : List ℕ → Type 0} {A : Type 0} {b c : ℕ} {x : List ℕ} → (ℕ → (x : List ℕ) → Item x → A) → ℕ → Group Item b c x → List A
group_from of i (empty w) = []
group_from of i (full {w} p r) = items_from of (i + 1 + length w) r

abbrev pub node_at : (d : ℕ) → ℕ → (x : List ℕ) → Value d x → Node
node_at d i x p = record { at = i; bytes = x; depth = d; value = p }

-- a name, blanks, ":", blanks and a value
abbrev pub entry_from : (d : ℕ) → ℕ → (x : List ℕ) → Member (Value d) x → Entry
entry_from d i x (member {n} {w} {u} {v} s a b p) = record { name = text_of s; node = node_at d (i + length n + length w + 1 + length u) v p }

abbrev pub entries_by : (d i : ℕ) {A : List ℕ → Type 0} {x : List ℕ} → AnyValue A (Object (Value d)) x → List Entry
entries_by d i (an_object g) = group_from (entry_from d) i g
entries_by d i (an_array g) = []
entries_by d i (a_number p) = []
entries_by d i (a_string p) = []
entries_by d i a_true = []
entries_by d i a_false = []
entries_by d i a_null = []

abbrev pub nodes_by : (d i : ℕ) {B : List ℕ → Type 0} {x : List ℕ} → AnyValue (Array (Value d)) B x → List Node
nodes_by d i (an_array g) = group_from (node_at d) i g
nodes_by d i (an_object g) = []
nodes_by d i (a_number p) = []
nodes_by d i (a_string p) = []
nodes_by d i a_true = []
nodes_by d i a_false = []
nodes_by d i a_null = []

unfoldable pub entries_in : (d i : ℕ) (x : List ℕ) → Value d x → List Entry
unfolding Value
entries_in zero i x v = []
entries_in (suc d) i x v = entries_by d i v

unfoldable pub nodes_in : (d i : ℕ) (x : List ℕ) → Value d x → List Node
unfolding Value
nodes_in zero i x v = []
nodes_in (suc d) i x v = nodes_by d i v

-- of a value: what it is, the members if it is an object, the elements if it is an array
abbrev pub kind : Node → Kind
kind n = kind_in n.depth n.bytes n.value

abbrev pub node_members : Node → List Entry
node_members n = entries_in n.depth n.at n.bytes n.value

abbrev pub node_elements : Node → List Node
node_elements n = nodes_in n.depth n.at n.bytes n.value

-- the value that is the text: blanks stand before it
abbrev pub top : {d : ℕ} {s : List ℕ} → Text d s → Node
top {d} (G.text {w} v a p b) = node_at d (length w) v p
