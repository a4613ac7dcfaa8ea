-- Values: what the reader finds is a value, and a value is found.
use Rattle.std.specs.Prelude.{Option, Some}
use mathlib.Core.Path.{◌≡◌, refl}
use mathlib.Core.Bool.{Bool, true, false, ◌&&◌}
use mathlib.Core.List.{List, [], ◌∷◌}
use Prim.Native.Nat.{ℕ, zero, suc, ◌+◌}
use native.Mathlib.Omega.{arith}
use lib.ListN.{length}
use lib.Dec.{eqb, ltb}
use borrow.Author.Tests.{eq-eqb, ne_eqb, lt-ltb, eqb-true, ltb-true}
use Rattle.json_blocks.specs.declared.Cursor.{Cursor}
use Rattle.json_blocks.specs.TextBytes.{byte, ascii, to, within, literal_at}
use Rattle.json_blocks.proofs.ByteLaws.{cond_elim}
use Rattle.json_grammar.specs.Grammar.{Between, AnyValue, an_object, an_array, a_number, a_string, a_true, a_false, a_null, Value}
use Rattle.json_grammar.specs.ByPlace.{any_value_at, value_at}
use Rattle.json_grammar.specs.Stands.{Stands, Ends}
use Rattle.json_grammar.proofs.Stands.{stands_none, stands_byte, stands_join, stands_head, stands_tail, stands_inside}
use Rattle.json_grammar.proofs.Derived.{Derived, derived, stands_nil, Got, not_got, got_to_lem, got_map, got_is}
use Rattle.json_grammar.proofs.Numbers.{number_sound, number_first, number_complete}
use Rattle.json_grammar.proofs.Strings.{string_sound, string_complete}
use Rattle.json_grammar.proofs.Groups.{group_sound, group_first, group_complete, member_sound, member_first, member_complete, First}

-- ---- literals
and_is : (t u : Bool) → (t && u) ≡ true → (t ≡ true) × (u ≡ true)
and_is true u e = (refl, e)
and_is false u e = let z : ◌≡◌ {A = ℕ} 0 1 = cc in absurd (omega arith)

literal_sound : (s w : List ℕ) (i : ℕ) → Got (Stands s i w) (literal_at s w i)
unfolding literal_at
literal_sound s [] i = got_to_lem (stands_none s i)
literal_sound s (b ∷ w) i =
    cond_elim (Got (Stands s i (b ∷ w))) (ltb i (length s) && eqb (byte s i) b) _ _
    (λ e. let a = and_is _ _ e in got_map (λ j p. stands_join s (stands_byte s i b (eqb-true _ _ a.1) (ltb-true _ _ a.0)) p) (literal_sound s w (i + 1))) (λ _. not_got)

literal_complete : (s w : List ℕ) {i j : ℕ} → Stands s i w j → literal_at s w i ≡ to j
unfolding literal_at
literal_complete s [] q = rw (stands_nil q)
literal_complete s (b ∷ w) q = rw (lt-ltb _ _ (stands_inside s q), eq-eqb _ _ (stands_head s q)) (literal_complete s w (stands_tail s q))

-- ---- one level, sound
module _ {s : List ℕ} {i : ℕ} {AnArray AnObject : List ℕ → Type 0} (array object : ℕ → Option Cursor) where
  any_sound : (byte s i ≡ 0x5B → Got (Derived AnArray s i) (array (i + 1))) → (byte s i ≡ 0x7B → Got (Derived AnObject s i) (object (i + 1)))
      → Got (Derived (AnyValue AnArray AnObject) s i) (any_value_at array object s i)
  unfolding any_value_at
  any_sound f g =
      cond_elim G (eqb (byte s i) 0x22) _ _ (λ e. got_map (λ j p. put p (λ x. a_string)) (string_sound s i (eqb-true _ _ e)))
      (λ _. cond_elim G (eqb (byte s i) 0x5B) _ _ (λ e. got_map (λ j p. put p (λ x. an_array)) (f (eqb-true _ _ e)))
      (λ _. cond_elim G (eqb (byte s i) 0x7B) _ _ (λ e. got_map (λ j p. put p (λ x. an_object)) (g (eqb-true _ _ e)))
      (λ _. cond_elim G (eqb (byte s i) 0x74) _ _ (λ e. got_map (λ j p. derived a_true p) (literal_sound s (ascii "true") i))
      (λ _. cond_elim G (eqb (byte s i) 0x66) _ _ (λ e. got_map (λ j p. derived a_false p) (literal_sound s (ascii "false") i))
      (λ _. cond_elim G (eqb (byte s i) 0x6E) _ _ (λ e. got_map (λ j p. derived a_null p) (literal_sound s (ascii "null") i))
      (λ _. got_map (λ j p. put p (λ x. a_number)) (number_sound s i)))))))
    where
      G : Option Cursor → Type 0
      G r = Got (Derived (AnyValue AnArray AnObject) s i) r

      put : {P : List ℕ → Type 0} {j : ℕ} → Derived P s i j → ((x : List ℕ) → P x → AnyValue AnArray AnObject x) → Derived (AnyValue AnArray AnObject) s i j
      put (derived p q) h = derived (h _ p) q

-- a read of a value got on over a value, or nowhere
pub value_got : (d : ℕ) (s : List ℕ) (i : ℕ) → Got (Derived (Value d) s i) (value_at d s i)
unfolding value_at Value
value_got zero s i = any_sound _ _ (λ _. not_got) (λ _. not_got)
value_got (suc d) s i =
    any_sound _ _ (λ e. group_sound (value_got d s) 0x5D e (omega arith) (omega arith))
    (λ e. group_sound (member_sound (value_got d s)) 0x7D e (omega arith) (omega arith))

-- a value that was read is derived
pub value_sound : (d : ℕ) (s : List ℕ) (i : ℕ) (c : Cursor) → value_at d s i ≡ Some c → Derived (Value d) s i c.at
value_sound d s i c e = got_is (rw e at (value_got d s i))

-- ---- one level, complete
-- the byte after a value matters where the value begins as a number does
abbrev pub Follows : List ℕ → ℕ → ℕ → Type 0
Follows s i j = Between 0x2D 0x39 (byte s i) → Ends (byte s j)

module _ {s : List ℕ} {i j : ℕ} {AnArray AnObject : List ℕ → Type 0} where
  any_first : ((x : List ℕ) → AnArray x → Stands s i x j → byte s i ≡ 0x5B) → ((x : List ℕ) → AnObject x → Stands s i x j → byte s i ≡ 0x7B)
      → {x : List ℕ} → AnyValue AnArray AnObject x → Stands s i x j → First 0x5D (byte s i)
  any_first f g (an_object p) q = let e = g _ p q in omega arith
  any_first f g (an_array p) q = let e = f _ p q in omega arith
  any_first f g (a_number p) q = let e = number_first p q in omega arith
  any_first f g (a_string p) q = let e = (string_complete p q).0 in omega arith
  any_first f g a_true q = let e = stands_head s q in omega arith
  any_first f g a_false q = let e = stands_head s q in omega arith
  any_first f g a_null q = let e = stands_head s q in omega arith

module _ {s : List ℕ} {i j : ℕ} {AnArray AnObject : List ℕ → Type 0} (array object : ℕ → Option Cursor) where
  any_complete : ((x : List ℕ) → AnArray x → Stands s i x j → (byte s i ≡ 0x5B) × (array (i + 1) ≡ to j))
      → ((x : List ℕ) → AnObject x → Stands s i x j → (byte s i ≡ 0x7B) × (object (i + 1) ≡ to j))
      → {x : List ℕ} → AnyValue AnArray AnObject x → Stands s i x j → Follows s i j → any_value_at array object s i ≡ to j
  unfolding any_value_at
  any_complete f g (an_object p) q h = let o = g _ p q in rw o.0 o.1
  any_complete f g (an_array p) q h = let a = f _ p q in rw a.0 a.1
  any_complete f g (a_number p) q h =
      let r = number_first p q in
      let b : ℕ = byte s i in
      rw (ne_eqb b 0x22 (omega arith), ne_eqb b 0x5B (omega arith), ne_eqb b 0x7B (omega arith), ne_eqb b 0x74 (omega arith), ne_eqb b 0x66 (omega arith))
      (rw (ne_eqb b 0x6E (omega arith)) (number_complete p q (h r)))
  any_complete f g (a_string p) q h = let t = string_complete p q in rw t.0 t.1
  any_complete f g a_true q h = rw (stands_head s q) (literal_complete s _ q)
  any_complete f g a_false q h = rw (stands_head s q) (literal_complete s _ q)
  any_complete f g a_null q h = rw (stands_head s q) (literal_complete s _ q)

-- ---- values, complete
pub value_first : (d : ℕ) {s x : List ℕ} {i j : ℕ} → Value d x → Stands s i x j → First 0x5D (byte s i)
unfolding Value
value_first zero = any_first (λ x p q. absurd p) (λ x p q. absurd p)
value_first (suc d) = any_first (λ x p q. group_first p q) (λ x p q. group_first p q)

array_ends : Ends 0x5D
unfolding within
array_ends = record { not_digit = refl; not_point = omega arith; not_e = omega arith; not-E = omega arith }

object_ends : Ends 0x7D
unfolding within
object_ends = record { not_digit = refl; not_point = omega arith; not_e = omega arith; not-E = omega arith }

-- a value is read where it stands; a string, an array, an object or a literal whatever follows
pub value_found : (d : ℕ) {s x : List ℕ} {i j : ℕ} → Value d x → Stands s i x j → Follows s i j → value_at d s i ≡ to j
unfolding value_at Value
value_found zero = any_complete _ _ (λ x p q. absurd p) (λ x p q. absurd p)
value_found (suc d) =
    any_complete _ _
    (λ x p q. (
      group_first p q,
      group_complete 0x5D (omega arith) array_ends
          (λ y k l r t. value_first d r t) (λ y k l r t e. value_found d r t (λ _. e)) p q,
    ))
    (λ x p q. (
      group_first p q,
      group_complete 0x7D (omega arith) object_ends (λ y k l r t. member_first r t)
          (λ y k l r t e. member_complete (λ v m a b. (value_first d a b).solid) (λ v m a b. value_found d a b (λ _. e)) r t) p q,
    ))

-- a value is read where it stands, before a byte that no number goes on with
pub value_complete : (d : ℕ) (s : List ℕ) (i j : ℕ) (xs : List ℕ) → Value d xs → Stands s i xs j → Ends (byte s j) → value_at d s i ≡ to j
value_complete d s i j xs p q e = value_found d p q (λ _. e)
