-- Steps of reading the items of an array or object one by one, on plain variables, for code that does so.
use Rattle.std.specs.Prelude.{None, Option, Some}
use mathlib.Core.Path.{◌≡◌, refl, sym, subst}
use mathlib.Core.List.{List}
use Prim.Native.Nat.{ℕ, ◌≤◌, ◌<◌, ◌+◌}
use native.Mathlib.Omega.{arith}
use lib.ListN.{length}
use borrow.Author.Tests.{eq-eqb, ne_eqb}
use Rattle.json_blocks.specs.Turns.{on}
use Rattle.json_blocks.specs.TextBytes.{byte, to, and_then, skip_blanks}
use Rattle.json_blocks.specs.Group.{after_item}
use Rattle.json_tokens.specs.MemberName.{name_at}
use Rattle.json_blocks.specs.declared.Cursor.{Cursor}
use Rattle.json_blocks.specs.declared.After.{After}
use Rattle.json_blocks.specs.declared.After.TheVariants as A
use Rattle.json_blocks.proofs.TurnLaws.{Advances, run_out, run_on}
use Rattle.json_blocks.proofs.ByteLaws.{inside, Onward, onward_is}
use Rattle.json_blocks.proofs.GroupLaws.{OnwardAfter, onward_item, after_onward}
use Rattle.json_tokens.proofs.MemberNameLaws.{name_onward}
use Rattle.json_grammar.specs.Grammar.{Value}
use Rattle.json_grammar.specs.ByPlace.{close_turn, then_turn, item_turn, items_at, group_at, member_at, value_at}
use Rattle.json_grammar.proofs.Derived.{Derived, derived, stands_all}
use Rattle.json_grammar.proofs.Values.{value_sound, value_first}

-- ---- a value has a byte, so reading it goes on
value_long : (d : ℕ) (x : List ℕ) → Value d x → 0 < length x
value_long d x p = let h = (value_first d p (stands_all x)).solid in inside x 0 (byte x 0) refl (omega arith)

pub value_onward : (d : ℕ) (s : List ℕ) (i : ℕ) (c : Cursor) → value_at d s i ≡ Some c → i < c.at
value_onward d s i c e = go (value_sound d s i c e) where
  go : Derived (Value d) s i c.at → i < c.at
  go (derived {xs} p q) = omega (arith, value_long d xs p, q.end)

-- ---- items
abbrev pub Forward : (ℕ → Option Cursor) → Type 0
Forward item = (i : ℕ) (c : Cursor) → item i ≡ Some c → i ≤ c.at

module _ (item : ℕ → Option Cursor) (s : List ℕ) (close i : ℕ) where
  pub items_none : item i ≡ None → items_at item s close i ≡ None
  unfolding items_at item_turn
  items_none e = sym (run_out s None (item_turn item s close) i None (rw e))

  module _ (c : Cursor) (e : item i ≡ Some c) where
    pub items_bad : after_item s close c.at ≡ None → items_at item s close i ≡ None
    unfolding items_at item_turn
    items_bad h = sym (run_out s None (item_turn item s close) i None (rw (e, h)))

    pub items_close : (d : Cursor) → after_item s close c.at ≡ Some (A.Close d) → items_at item s close i ≡ Some d
    unfolding items_at item_turn
    items_close d h = sym (run_out s None (item_turn item s close) i (Some d) (rw (e, h)))

    module _ (forward : Forward item) (d : Cursor) (h : after_item s close c.at ≡ Some (A.Item d)) where
      pub items_less : (i < d.at) × (i < length s)
      items_less = go (subst (OnwardAfter s c.at) h (after_onward s close c.at)) where
        go : OnwardAfter s c.at (Some (A.Item d)) → (i < d.at) × (i < length s)
        go (onward_item p q) = let f = forward i c e in (omega arith, omega arith)

-- a turn that goes on passes an item
items_advance : (item : ℕ → Option Cursor) → Forward item → (s : List ℕ) (close : ℕ) → Advances s (item_turn item s close)
unfolding item_turn
items_advance item forward s close i j e = go (item i) refl e where
  next : (c : Cursor) (a : Option After) → item i ≡ Some c → after_item s close c.at ≡ a → close_turn a ≡ on j → (i < j) × (i < length s)
  next c (Some (A.Item d)) p q h =
      let m = items_less item s close i c p forward d q in
      let k : d.at ≡ j = cc in
      (omega (arith, m.0), m.1)
  next c (Some (A.Close d)) p q h = let z : ◌≡◌ {A = ℕ} 0 1 = cc in absurd (omega arith)
  next c None p q h = let z : ◌≡◌ {A = ℕ} 0 1 = cc in absurd (omega arith)

  go : (r : Option Cursor) → item i ≡ r → then_turn r (λ k. close_turn (after_item s close k)) ≡ on j → (i < j) × (i < length s)
  go (Some c) p h = next c (after_item s close c.at) p refl h
  go None p h = let z : ◌≡◌ {A = ℕ} 0 1 = cc in absurd (omega arith)

pub items_more : (item : ℕ → Option Cursor) (s : List ℕ) (close i : ℕ) (c : Cursor) → item i ≡ Some c → Forward item
    → (d : Cursor) → after_item s close c.at ≡ Some (A.Item d) → items_at item s close d.at ≡ items_at item s close i
unfolding items_at item_turn
items_more item s close i c e forward d h = run_on s None (item_turn item s close) (items_advance item forward s close) i d.at (rw (e, h))

pub value_forward : (d : ℕ) (s : List ℕ) → Forward (value_at d s)
value_forward d s i c e = omega (arith, value_onward d s i c e)

-- ---- members
module _ (value : ℕ → Option Cursor) (s : List ℕ) (i : ℕ) where
  pub member_none : name_at s i ≡ None → member_at value s i ≡ None
  unfolding member_at
  member_none e = rw e

  pub member_value_lem : (v : Cursor) → name_at s i ≡ Some v → member_at value s i ≡ value v.at
  unfolding member_at
  member_value_lem v e = rw e

pub member_forward : (d : ℕ) (s : List ℕ) → Forward (member_at (value_at d s) s)
unfolding member_at
member_forward d s i c e = go (name_at s i) (name_onward s i) e where
  go : (n : Option Cursor) → Onward (i + 3) n → and_then n (value_at d s) ≡ Some c → i ≤ c.at
  go (Some v) p f = omega (arith, onward_is p, value_onward d s v.at c f)
  go None p f = let z : ◌≡◌ {A = ℕ} 0 1 = cc in absurd (omega arith)

-- ---- the group, from past its opening byte; k is where the blanks end, b the byte there
module _ (item : ℕ → Option Cursor) (s : List ℕ) (close at k b : ℕ) (ek : k ≡ skip_blanks s at) (eb : b ≡ byte s k) where
  pub group_empty : b ≡ close → group_at item s close at ≡ to (k + 1)
  unfolding group_at
  group_empty h = rw (← ek, ← eb, eq-eqb _ _ h)

  pub group_items : (b ≡ close → ⊥) → group_at item s close at ≡ items_at item s close k
  unfolding group_at
  group_items h = rw (← ek, ← eb, ne_eqb _ _ h)
