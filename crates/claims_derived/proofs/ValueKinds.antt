-- What is judged on a value's bytes is what its derivation says: its type, its number, its text.
use Rattle.std.specs.Prelude.{Option, None, Some}
use mathlib.Core.Path.{◌≡◌, refl, sym, ap, ◌∙◌}
use mathlib.Core.Bool.{Bool, true, false, cond, false≢true}
use mathlib.Core.List.{List, [], ◌∷◌, ◌++◌, append-nil}
use mathlib.Core.Option.{Option as Maybe, none, some}
use Prim.Native.Nat.{ℕ, zero, suc, ◌+◌, ◌-◌, ◌^◌}
use native.Mathlib.Omega.{arith}
use lib.ListN.{length}
use lib.Dec.{eqb, ltb}
use borrow.Author.Tests.{ne_eqb, lt-ltb, le-leb}
use Rattle.json_blocks.specs.TextBytes.{byte, within}
use Rattle.json_blocks.specs.Lists.{all, number_from}
use Rattle.json_tokens.specs.Number.{digit}
use Rattle.json_grammar.specs.Grammar as G
use Rattle.json_grammar.specs.Grammar.{Short, Character, Characters, no_characters, characters, string, Digits, no_digits, digits, Number, AnyValue, Array, Object, Group, Value}
use Rattle.json_grammar.proofs.Stands.{stands_head, stands_tail, stands_left, stands_right}
use Rattle.json_grammar.proofs.Derived.{stands_all}
use Rattle.json_grammar.proofs.Skips.{is_between}
use Rattle.json_grammar.proofs.Numbers.{number_first}
use Rattle.json_grammar.proofs.Groups.{group_first}
use Rattle.json_strings.specs.Decode.{decoded_from}
use Rattle.json_strings.specs.Utf8 as U8
use Rattle.json_strings.specs.Meaning as Y
use Rattle.json_strings.specs.Meaning.{Letter, Meaning, Means}
use Rattle.json_strings.proofs.Theorem.{means_decoded, decoded_local}
use Rattle.sigmf_values.specs.declared.FieldType.{FieldType}
use Rattle.sigmf_values.specs.declared.FieldType.TheVariants as T
use Rattle.sigmf_values.specs.Values.{is_uint, uint_of, has_type, is_true as isTrueByte}
use Rattle.sigmf_values.specs.ValueCode.{is_value}
use Rattle.sigmf_values.proofs.ValueLaws.{uint_typed}
use Rattle.sigmf_objects.specs.Fields.{uint_number}
use Rattle.claims_derived.specs.Derived.{letter, character, meant, whole_of, kind_of, kind_in}
use Rattle.claims_derived.specs.Rules.{given, present, small, uint, text_in, is_true, is_a}

-- ---- a string's characters mean what `meant` says
letter_means : {b : ℕ} (p : Short b) → Letter b (letter p)
letter_means G.quotation_mark = Y.quotation_mark
letter_means G.reverse_solidus = Y.reverse_solidus
letter_means G.solidus = Y.solidus
letter_means G.backspace = Y.backspace
letter_means G.form_feed = Y.form_feed
letter_means G.new_line = Y.new_line
letter_means G.return = Y.return
letter_means G.tabulation = Y.tabulation

character_means : {c : List ℕ} (p : Character c) → Meaning c (character p)
character_means (G.plain h f g) = Y.plain h f g
character_means (G.multibyte m) = Y.multibyte m
character_means (G.short p) = Y.short (letter_means p)
character_means (G.below u h) = Y.unit u (U8.below h)
character_means (G.above u h) = Y.unit u (U8.above (omega arith))
character_means (G.surrogates u h v g) = Y.surrogates u h v g

pub meant_means : {cs : List ℕ} (p : Characters cs) → Means cs (meant p)
unfolding meant
meant_means no_characters = Y.nothing
meant_means (characters p r) = Y.next (character_means p) (meant_means r)

pub meant_decoded : {cs : List ℕ} (p : Characters cs) → decoded_from cs 0 ≡ meant p
meant_decoded p = means_decoded (meant_means p)

-- ---- the number of a uint
abbrev pub uint_by : Maybe ℕ → Option ℕ
uint_by none = None
uint_by (some n) = Some n

some_bytes : (b : ℕ) (l : List ℕ) → eqb (length (b ∷ l)) 0 ≡ false
some_bytes b l = ne_eqb (length (b ∷ l)) 0 (λ z. omega arith)

module _ (b : ℕ) (l : List ℕ) where
  -- bytes that begin with no digit
  no_uint : digit b ≡ false → (b ≡ 0x30 → ⊥) → uint_of (b ∷ l) ≡ None
  unfolding uint_of is_uint all
  no_uint e h = rw (some_bytes b l, ne_eqb b 0x30 h, e)

  -- a 0 before another byte
  not_alone : uint_of (0x30 ∷ (b ∷ l)) ≡ None
  unfolding uint_of is_uint
  not_alone = rw (some_bytes 0x30 (b ∷ l), lt-ltb 1 (suc (suc (length l))) (omega arith))

digits_all : {ds : List ℕ} → Digits ds → all digit ds ≡ true
unfolding all
digits_all no_digits = refl
digits_all (digits h p) = rw (is_between h, digits_all p)

digits_not : {ds : List ℕ} (c : ℕ) (r : List ℕ) → Digits ds → digit c ≡ false → all digit (ds ++ (c ∷ r)) ≡ false
unfolding all
digits_not c r no_digits e = rw e
digits_not c r (digits h p) e = rw (is_between h, digits_not c r p e)

module _ (b : ℕ) (ds : List ℕ) (h : G.Between 0x31 0x39 b) (p : Digits ds) where
  whole_uint : uint_of (b ∷ ds) ≡ uint_by (small (number_from 0 (b ∷ ds)))
  unfolding uint_of is_uint all
  whole_uint = rw (some_bytes b ds, ne_eqb b 0x30 (λ z. omega arith), is_between {lo = 0x30} {hi = 0x39} {b = b} (omega arith), digits_all p) (go (ltb (number_from 0 (b ∷ ds)) (2 ^ 64))) where
    go : (t : Bool) → cond t (Some (number_from 0 (b ∷ ds))) None ≡ uint_by (cond t (some (number_from 0 (b ∷ ds))) none)
    go true = refl
    go false = refl

  more_uint : (c : ℕ) (r : List ℕ) → digit c ≡ false → uint_of (b ∷ (ds ++ (c ∷ r))) ≡ None
  unfolding uint_of is_uint all
  more_uint c r e = rw (some_bytes b (ds ++ (c ∷ r)), ne_eqb b 0x30 (λ z. omega arith), is_between {lo = 0x30} {hi = 0x39} {b = b} (omega arith), digits_not c r p e)

number_uint : {x : List ℕ} (p : Number x) → uint_of x ≡ uint_by (given none small (whole_of p))
unfolding within number_from uint_of is_uint all
number_uint (G.number {i} {f} {e} G.minus _ _ _) = no_uint 0x2D (i ++ (f ++ e)) refl (λ z. omega arith)
number_uint (G.number G.no_minus G.zero_alone G.no_fraction G.no_exponent) = refl
number_uint (G.number G.no_minus G.zero_alone G.no_fraction (G.small_e {g} {b} {ds} _ _ _)) = not_alone 0x65 (g ++ (b ∷ ds))
number_uint (G.number G.no_minus G.zero_alone G.no_fraction (G.capital_e {g} {b} {ds} _ _ _)) = not_alone 0x45 (g ++ (b ∷ ds))
number_uint (G.number {e} G.no_minus G.zero_alone (G.fraction {b} {ds} _ _) _) = not_alone 0x2E ((b ∷ ds) ++ e)
number_uint (G.number G.no_minus (G.leading {b} {ds} h p) G.no_fraction G.no_exponent) = rw (append-nil ds) (whole_uint b ds h p)
number_uint (G.number G.no_minus (G.leading {b} {ds} h p) G.no_fraction (G.small_e {g} {b = c} {ds = r} _ _ _)) = more_uint b ds h p 0x65 (g ++ (c ∷ r)) refl
number_uint (G.number G.no_minus (G.leading {b} {ds} h p) G.no_fraction (G.capital_e {g} {b = c} {ds = r} _ _ _)) = more_uint b ds h p 0x45 (g ++ (c ∷ r)) refl
number_uint (G.number {e} G.no_minus (G.leading {b} {ds} h p) (G.fraction {b = c} {ds = r} _ _) _) = more_uint b ds h p 0x2E ((c ∷ r) ++ e) refl

-- ---- any value
module _ {A B : List ℕ → Type 0} (arrays : (x : List ℕ) → A x → byte x 0 ≡ 0x5B) (objects : (x : List ℕ) → B x → byte x 0 ≡ 0x7B) where
  uint_other : (x : List ℕ) (b : ℕ) → byte x 0 ≡ b → digit b ≡ false → (b ≡ 0x30 → ⊥) → uint_of x ≡ None
  unfolding uint_of is_uint
  uint_other [] b e f h = refl
  uint_other (c ∷ x) b e f h = no_uint c x (rw e f) (rw e h)

  uint_any : {x : List ℕ} (v : AnyValue A B x) → uint_of x ≡ uint_by (uint (kind_of v))
  unfolding uint within
  uint_any {x} (G.an_object g) = uint_other x 0x7B (objects x g) refl (λ z. omega arith)
  uint_any {x} (G.an_array g) = uint_other x 0x5B (arrays x g) refl (λ z. omega arith)
  uint_any (G.a_number p) = number_uint p
  uint_any {x} (G.a_string (string p)) = uint_other x 0x22 refl refl (λ z. omega arith)
  uint_any {x} G.a_true = uint_other x 0x74 refl refl (λ z. omega arith)
  uint_any {x} G.a_false = uint_other x 0x66 refl refl (λ z. omega arith)
  uint_any {x} G.a_null = uint_other x 0x6E refl refl (λ z. omega arith)

  is_value_lem : (w : Maybe ℕ) → is_value (uint_by w) ≡ present w
  is_value_lem none = refl
  is_value_lem (some n) = refl

  number_byte_lem : {x : List ℕ} → Number x → G.Between 0x2D 0x39 (byte x 0)
  number_byte_lem {x} p = number_first p (stands_all x)

  type_any : (t : FieldType) {x : List ℕ} (v : AnyValue A B x) → has_type t x ≡ is_a t (kind_of v)
  unfolding has_type is_a within
  type_any T.Any v = refl
  type_any T.Uint {x} v = sym (uint_typed x) ∙ ap is_value (uint_any v) ∙ is_value_lem (uint (kind_of v))
  type_any T.Text {x} (G.an_object g) = rw (objects x g)
  type_any T.Text {x} (G.an_array g) = rw (arrays x g)
  type_any T.Text {x} (G.a_number p) = let h = number_byte_lem p in ne_eqb (byte x 0) 0x22 (λ z. omega arith)
  type_any T.Text (G.a_string (string p)) = refl
  type_any T.Text G.a_true = refl
  type_any T.Text G.a_false = refl
  type_any T.Text G.a_null = refl
  type_any T.Object {x} (G.an_object g) = rw (objects x g)
  type_any T.Object {x} (G.an_array g) = rw (arrays x g)
  type_any T.Object {x} (G.a_number p) = let h = number_byte_lem p in ne_eqb (byte x 0) 0x7B (λ z. omega arith)
  type_any T.Object (G.a_string (string p)) = refl
  type_any T.Object G.a_true = refl
  type_any T.Object G.a_false = refl
  type_any T.Object G.a_null = refl
  type_any T.Array {x} (G.an_object g) = rw (objects x g)
  type_any T.Array {x} (G.an_array g) = rw (arrays x g)
  type_any T.Array {x} (G.a_number p) = let h = number_byte_lem p in ne_eqb (byte x 0) 0x5B (λ z. omega arith)
  type_any T.Array (G.a_string (string p)) = refl
  type_any T.Array G.a_true = refl
  type_any T.Array G.a_false = refl
  type_any T.Array G.a_null = refl
  type_any T.Boolean {x} (G.an_object g) = rw (objects x g)
  type_any T.Boolean {x} (G.an_array g) = rw (arrays x g)
  type_any T.Boolean {x} (G.a_number p) = let h = number_byte_lem p in rw (ne_eqb (byte x 0) 0x74 (λ z. omega arith), ne_eqb (byte x 0) 0x66 (λ z. omega arith))
  type_any T.Boolean (G.a_string (string p)) = refl
  type_any T.Boolean G.a_true = refl
  type_any T.Boolean G.a_false = refl
  type_any T.Boolean G.a_null = refl
  type_any T.Double {x} (G.an_object g) = rw (objects x g)
  type_any T.Double {x} (G.an_array g) = rw (arrays x g)
  type_any T.Double (G.a_number (G.number G.minus i f e)) = refl
  type_any T.Double (G.a_number (G.number G.no_minus G.zero_alone f e)) = refl
  type_any T.Double (G.a_number (G.number G.no_minus (G.leading {b} h p) f e)) =
      rw (ne_eqb b 0x2D (λ z. omega arith), le-leb 0x30 b (omega arith), le-leb b 0x39 (omega arith))
  type_any T.Double (G.a_string (string p)) = refl
  type_any T.Double G.a_true = refl
  type_any T.Double G.a_false = refl
  type_any T.Double G.a_null = refl

  true_any : {x : List ℕ} (v : AnyValue A B x) → isTrueByte x ≡ is_true (kind_of v)
  unfolding is_true
  true_any {x} (G.an_object g) = rw (objects x g)
  true_any {x} (G.an_array g) = rw (arrays x g)
  true_any {x} (G.a_number p) = let h = number_byte_lem p in ne_eqb (byte x 0) 0x74 (λ z. omega arith)
  true_any (G.a_string (string p)) = refl
  true_any G.a_true = refl
  true_any G.a_false = refl
  true_any G.a_null = refl

  -- a text's meaning
  text_any : {x : List ℕ} (v : AnyValue A B x) → is_a T.Text (kind_of v) ≡ true → decoded_from x 1 ≡ text_in (kind_of v)
  unfolding is_a text_in
  text_any (G.a_string (string {cs} p)) e =
      let x : List ℕ = 0x22 ∷ (cs ++ (0x22 ∷ [])) in
      let t = stands_tail x (stands_all x) in
      decoded_local p (stands_left x cs (0x22 ∷ []) t) (stands_head x (stands_right x cs (0x22 ∷ []) t)) ∙ meant_decoded p
  text_any (G.an_object g) e = absurd (false≢true e)
  text_any (G.an_array g) e = absurd (false≢true e)
  text_any (G.a_number p) e = absurd (false≢true e)
  text_any G.a_true e = absurd (false≢true e)
  text_any G.a_false e = absurd (false≢true e)
  text_any G.a_null e = absurd (false≢true e)

group_byte : {Item : List ℕ → Type 0} (b c : ℕ) (x : List ℕ) → Group Item b c x → byte x 0 ≡ b
group_byte b c x g = group_first g (stands_all x)

-- ---- values of a depth
module _ where
  pub type_derived : (t : FieldType) (d : ℕ) (x : List ℕ) (v : Value d x) → has_type t x ≡ is_a t (kind_in d x v)
  unfolding Value kind_in
  type_derived t zero x v = type_any (λ _ z. absurd z) (λ _ z. absurd z) t v
  type_derived t (suc d) x v = type_any (group_byte 0x5B 0x5D) (group_byte 0x7B 0x7D) t v

  pub uint_derived : (d : ℕ) (x : List ℕ) (v : Value d x) → uint_of x ≡ uint_by (uint (kind_in d x v))
  unfolding Value kind_in
  uint_derived zero x v = uint_any (λ _ z. absurd z) (λ _ z. absurd z) v
  uint_derived (suc d) x v = uint_any (group_byte 0x5B 0x5D) (group_byte 0x7B 0x7D) v

  pub true_derived : (d : ℕ) (x : List ℕ) (v : Value d x) → isTrueByte x ≡ is_true (kind_in d x v)
  unfolding Value kind_in
  true_derived zero x v = true_any (λ _ z. absurd z) (λ _ z. absurd z) v
  true_derived (suc d) x v = true_any (group_byte 0x5B 0x5D) (group_byte 0x7B 0x7D) v

  pub text_derived : (d : ℕ) (x : List ℕ) (v : Value d x) → is_a T.Text (kind_in d x v) ≡ true → decoded_from x 1 ≡ text_in (kind_in d x v)
  unfolding Value kind_in
  text_derived zero x v = text_any (λ _ z. absurd z) (λ _ z. absurd z) v
  text_derived (suc d) x v = text_any (group_byte 0x5B 0x5D) (group_byte 0x7B 0x7D) v

-- the number itself
pub number_derived : (d : ℕ) (x : List ℕ) (v : Value d x) → uint_number (uint_of x) ≡ given 0 (λ k. k) (uint (kind_in d x v))
number_derived d x v = ap uint_number (uint_derived d x v) ∙ go (uint (kind_in d x v)) where
  go : (w : Maybe ℕ) → uint_number (uint_by w) ≡ given 0 (λ k. k) w
  go none = refl
  go (some n) = refl
