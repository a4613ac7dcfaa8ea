-- Walks over arrays and objects that were read: each item was read, and a walk that comes to the close knows where the array or
-- object ends.
use Rattle.std.specs.Prelude.{None, Option, Some}
use mathlib.Core.Path.{◌≡◌, refl, sym, ap, subst, ◌∙◌}
use mathlib.Core.Bool.{Bool, true, false}
use mathlib.Core.List.{List, [], ◌∷◌}
use Prim.Native.Nat.{ℕ, zero, suc, ◌≤◌, ◌<◌, ◌+◌, ◌-◌}
use native.Mathlib.Omega.{arith}
use lib.ListN.{length, drop, length-append, length-drop}
use Rattle.std.proofs.lemmas.Option.{some_pair_parts}
use lib.Dec.{eqb}
use borrow.Author.Tests.{eqb-true, eqb-false}
use Rattle.limits.specs.Limits.{nesting}
use Rattle.json_blocks.specs.TextBytes.{byte, to, and_then, blank, skip_blanks}
use Rattle.json_characters.specs.String.{string_at}
use Rattle.json_blocks.specs.Group.{after_item, colon_at}
use Rattle.json_tokens.specs.MemberName.{name_at}
use Rattle.json_blocks.specs.declared.Cursor.{Cursor}
use Rattle.json_blocks.specs.declared.After.{After}
use Rattle.json_blocks.specs.declared.After.TheVariants as A
use Rattle.json_blocks.proofs.ByteLaws.{cond_elim, Onward, onward_is}
use Rattle.json_characters.proofs.StringLaws.{string_onward}
use Rattle.json_grammar.specs.Grammar.{Value}
use Rattle.json_grammar.specs.ByPlace.{items_at, group_at, member_at, any_value_at, value_at, ends_text, is_json}
use Rattle.json_grammar.specs.Skip.{skip_string, token_byte}
use Rattle.json_grammar.proofs.Derived.{Derived, derived}
use Rattle.json_grammar.proofs.Values.{value_sound}
use Rattle.json_grammar.proofs.SkipRead.{string_read, value_read}
use Rattle.json_grammar.proofs.ItemLaws.{Forward, value_onward, value_forward, member_forward, items_none, items_bad, items_close, items_more, group_empty, group_items}
use Rattle.json_walk.specs.declared.Member.{Member}
use Rattle.json_walk.specs.declared.Element.{Element}
use Rattle.json_walk.specs.Members.{next_item, member_step, elements_from, members_end_from, members_end}
use Rattle.json_walk.proofs.WalkLaws.{member_none, member_found_lem}
use Rattle.json_walk.proofs.StepLaws.{next_onward, after_item_lem, after_close, after_scalar, elements_more, elements_none}
use Rattle.json_walk.proofs.EndLaws.{member_places, members_end_found, members_end_over}

-- ---- an array or object that was read up to `end`, at its close or at the item at p
pub data Walk (item : ℕ → Option Cursor) (s : List ℕ) (close end p : ℕ) : Type 0 where
  at_close : byte s p ≡ close → p + 1 ≡ end → Walk item s close end p
  at_item : items_at item s close p ≡ to end → Walk item s close end p

abbrev pub Elements : ℕ → List ℕ → ℕ → ℕ → Type 0
Elements d s end p = Walk (value_at d s) s 0x5D end p

abbrev pub Members : ℕ → List ℕ → ℕ → ℕ → Type 0
Members d s end p = Walk (member_at (value_at d s) s) s 0x7D end p

-- the place that a read got to
abbrev place : Option Cursor → ℕ
place (Some c) = c.at
place None = 0

-- the item at p was read, and the walk goes on after it
record ItemRead (item : ℕ → Option Cursor) (s : List ℕ) (close end p : ℕ) : Type 0 where
  past : ℕ
  read : item p ≡ to past
  ends : token_byte (byte s past) ≡ false
  rest : Walk item s close end (next_item s past)

module _ (item : ℕ → Option Cursor) (s : List ℕ) (close : ℕ) where
  -- from past the opening byte
  group_walk : (at j : ℕ) → group_at item s close at ≡ to j → Walk item s close j (skip_blanks s at)
  group_walk at j e = go (eqb (byte s (skip_blanks s at)) close) refl where
    go : (t : Bool) → eqb (byte s (skip_blanks s at)) close ≡ t → Walk item s close j (skip_blanks s at)
    go true q =
        let b = eqb-true (byte s (skip_blanks s at)) close q in
        at_close b (ap place (sym (group_empty item s close at _ _ refl refl b) ∙ e))
    go false q = at_item (sym (group_items item s close at _ _ refl refl (eqb-false (byte s (skip_blanks s at)) close q)) ∙ e)

  module _ (forward : Forward item) (ends : token_byte close ≡ false) (end p : ℕ) where
    item_read : items_at item s close p ≡ to end → ItemRead item s close end p
    item_read e = first (item p) refl where
      next : (c : Cursor) (a : Option After) → item p ≡ Some c → after_item s close c.at ≡ a → ItemRead item s close end p
      next c (Some (A.Item n)) f g = record {
        past = c.at;
        read = f;
        ends = after_scalar s close c.at ends (λ h. let k : Some (A.Item n) ≡ None = sym g ∙ h in let z : ◌≡◌ {A = ℕ} 0 1 = cc in omega arith);
        rest = at_item (rw (after_item_lem s close c.at n g) (items_more item s close p c f forward n g ∙ e));
      }
      next c (Some (A.Close n)) f g =
          let k = after_close s close c.at n g in
          let m : n.at ≡ end = ap place (sym (items_close item s close p c f n g) ∙ e) in
          record {
            past = c.at;
            read = f;
            ends = after_scalar s close c.at ends (λ h. let k : Some (A.Close n) ≡ None = sym g ∙ h in let z : ◌≡◌ {A = ℕ} 0 1 = cc in omega arith);
            rest = at_close k.0 (omega (arith, k.1));
          }
      next c None f g =
          let h : None ≡ to end = sym (items_bad item s close p c f g) ∙ e in
          let z : ◌≡◌ {A = ℕ} 0 1 = cc in
          absurd (omega arith)

      first : (r : Option Cursor) → item p ≡ r → ItemRead item s close end p
      first (Some c) f = next c (after_item s close c.at) f refl
      first None f =
          let h : None ≡ to end = sym (items_none item s close p f) ∙ e in
          let z : ◌≡◌ {A = ℕ} 0 1 = cc in
          absurd (omega arith)

-- ---- a value that was read ends inside the text
pub value_inside : (d : ℕ) (s : List ℕ) (i : ℕ) (c : Cursor) → value_at d s i ≡ Some c → c.at ≤ length s
value_inside d s i c e = go (value_sound d s i c e) (value_onward d s i c e) where
  go : Derived (Value d) s i c.at → i < c.at → c.at ≤ length s
  go (derived {xs} p q) l =
      omega (arith, l, q.end, ap length q.rest, length-drop i s, length-append xs (drop c.at s), length-drop c.at s)

-- ---- walks begin in values that were read
module _ (d : ℕ) (s : List ℕ) (i j : ℕ) (e : value_at (suc d) s i ≡ to j) where
  pub elements_start : byte s i ≡ 0x5B → Elements d s j (skip_blanks s (i + 1))
  unfolding value_at any_value_at
  elements_start h = group_walk (value_at d s) s 0x5D (i + 1) j (rw h at e)

  pub members_start : byte s i ≡ 0x7B → Members d s j (skip_blanks s (i + 1))
  unfolding value_at any_value_at
  members_start h = group_walk (member_at (value_at d s) s) s 0x7D (i + 1) j (rw h at e)

-- a text that is JSON was read
pub json_read : (s : List ℕ) → is_json s ≡ true → (j : ℕ) × (value_at nesting s (skip_blanks s 0) ≡ to j)
unfolding is_json
json_read s e = go (value_at nesting s (skip_blanks s 0)) refl e where
  go : (r : Option Cursor) → value_at nesting s (skip_blanks s 0) ≡ r → ends_text s r ≡ true → (j : ℕ) × (value_at nesting s (skip_blanks s 0) ≡ to j)
  go (Some c) f h = (c.at, f)
  go None f h = let z : ◌≡◌ {A = ℕ} 0 1 = cc in absurd (omega arith)

-- ---- the members of an object that was read
-- a name was read: its string ends where the walk passes it, and the colon leads to the value
pub record NameRead (s : List ℕ) (i : ℕ) (v : Cursor) : Type 0 where
  pub end : Cursor
  pub quote : byte s i ≡ 0x22
  pub string : skip_string s (i + 1) ≡ end.at
  pub colon : colon_at s end.at ≡ Some v
  pub last : i + 2 ≤ end.at

pub name_read : (s : List ℕ) (i : ℕ) (v : Cursor) → name_at s i ≡ Some v → NameRead s i v
unfolding name_at
name_read s i v e =
    cond_elim (λ (x : Option Cursor). x ≡ Some v → NameRead s i v) (eqb (byte s i) 0x22) _ _
    (λ b. text (string_at s (i + 1)) refl (eqb-true _ _ b)) (λ _ h. let z : ◌≡◌ {A = ℕ} 0 1 = cc in absurd (omega arith)) e
  where
    after : (c : Cursor) (r : Option Cursor) → string_at s (i + 1) ≡ Some c → colon_at s c.at ≡ r → byte s i ≡ 0x22
        → r ≡ Some v → NameRead s i v
    after c (Some w) p h b g = record {
      end = c;
      quote = b;
      string = string_read s i c b p;
      colon = h ∙ cc;
      last = omega (arith, onward_is (subst (λ (x : Option Cursor). Onward (i + 1 + 1) x) p (string_onward s (i + 1))));
    }
    after c None p h b g = let z : ◌≡◌ {A = ℕ} 0 1 = cc in absurd (omega arith)

    text : (r : Option Cursor) → string_at s (i + 1) ≡ r → byte s i ≡ 0x22
        → and_then r (colon_at s) ≡ Some v → NameRead s i v
    text (Some c) p b g = after c (colon_at s c.at) p refl b g
    text None p b g = let z : ◌≡◌ {A = ℕ} 0 1 = cc in absurd (omega arith)

brace_ends : token_byte 0x7D ≡ false
unfolding token_byte blank
brace_ends = refl

bracket_ends : token_byte 0x5D ≡ false
unfolding token_byte blank
bracket_ends = refl

-- the value of the member m was read, and the walk goes on at j
pub record MemberRead (d : ℕ) (s : List ℕ) (end : ℕ) (m : Member) (j : ℕ) : Type 0 where
  pub value : value_at d s m.value ≡ to m.end
  pub inside : m.end ≤ length s
  pub ends : token_byte (byte s m.end) ≡ false
  pub rest : Members d s end j

-- what the step at an item finds
record StepRead (d : ℕ) (s : List ℕ) (end p : ℕ) : Type 0 where
  found : Member
  next : ℕ
  step : member_step s p ≡ Some (found, next)
  read : MemberRead d s end found next

module _ (d : ℕ) (s : List ℕ) (end p : ℕ) where
  item_step : items_at (member_at (value_at d s) s) s 0x7D p ≡ to end → StepRead d s end p
  unfolding member_at
  item_step e = go (item_read (member_at (value_at d s) s) s 0x7D (member_forward d s) brace_ends end p e) where
    named : (x : ItemRead (member_at (value_at d s) s) s 0x7D end p) (n : Option Cursor) → name_at s p ≡ n → and_then n (value_at d s) ≡ to x.past → StepRead d s end p
    named x (Some v) f h =
        let r = name_read s p v f in
        let w = value_read d s v.at (record { at = x.past }) h x.ends in
        record {
          found = record { name = p + 1; quote = r.end.at - 1; value = v.at; end = x.past };
          next = next_item s x.past;
          step =
              sym (member_found_lem s p 0x22 (sym r.quote) refl r.end.at (sym r.string) (Some v) (sym r.colon) v refl x.past (next_item s x.past) (sym w) refl);
          read = record { value = h; inside = value_inside d s v.at (record { at = x.past }) h; ends = x.ends; rest = x.rest };
        }
    named x None f h = let z : ◌≡◌ {A = ℕ} 0 1 = cc in absurd (omega arith)

    go : ItemRead (member_at (value_at d s) s) s 0x7D end p → StepRead d s end p
    go x = named x (name_at s p) refl x.read

  close_step : byte s p ≡ 0x7D → member_step s p ≡ None
  close_step b = sym (member_none s p 0x7D (sym b) (λ z. omega arith))

  -- a step that finds a member: its value was read, and the walk goes on
  pub member_read : Members d s end p → (m : Member) (j : ℕ) → member_step s p ≡ Some (m, j) → MemberRead d s end m j
  member_read (at_close b _) m j e =
      let f : ◌≡◌ {A = Option (Member × ℕ)} None (Some (m, j)) = sym (close_step b) ∙ e in
      let z : ◌≡◌ {A = ℕ} 0 1 = cc in
      absurd (omega arith)
  member_read (at_item f) m j e =
      let x = item_step f in
      let h = some_pair_parts _ _ _ _ (sym x.step ∙ e) in
      subst (λ (n : Member). MemberRead d s end n j) h.0 (subst (λ (k : ℕ). MemberRead d s end x.found k) h.1 x.read)

  -- a step that finds none: the close
  pub member_close : Members d s end p → member_step s p ≡ None → (byte s p ≡ 0x7D) × (p + 1 ≡ end)
  member_close (at_close b h) e = (b, h)
  member_close (at_item f) e =
      let x = item_step f in
      let h : ◌≡◌ {A = Option (Member × ℕ)} (Some (x.found, x.next)) None = sym x.step ∙ e in
      let z : ◌≡◌ {A = ℕ} 0 1 = cc in
      absurd (omega arith)

-- the walk stops at the close
module _ (d : ℕ) (s : List ℕ) (end : ℕ) where
  members_closed : (n p : ℕ) → length s - p < n → Members d s end p → (byte s (members_end_from s p) ≡ 0x7D) × (members_end_from s p + 1 ≡ end)
  members_closed zero p h w = absurd (omega arith)
  members_closed (suc n) p h (at_close b e) = rw (members_end_over s p (close_step d s end p b)) (b, e)
  members_closed (suc n) p h (at_item e) =
      let x = item_step d s end p e in
      let m = member_places s p x.found x.next x.step in
      rw (members_end_found s p x.found x.next x.step) (members_closed n x.next (omega arith) x.read.rest)

-- an object that was read ends past where the walk over its members stops
pub object_end : (d : ℕ) (s : List ℕ) (i j : ℕ) → value_at (suc d) s i ≡ to j → byte s i ≡ 0x7B → (byte s (members_end s i) ≡ 0x7D) × (members_end s i + 1 ≡ j)
object_end d s i j e b = members_closed d s j (suc (length s)) (skip_blanks s (i + 1)) (omega arith) (members_start d s i j e b)

deep_object : (s : List ℕ) (i j : ℕ) → value_at 0 s i ≡ to j → byte s i ≡ 0x7B → ⊥
unfolding value_at any_value_at
deep_object s i j e b =
    let h : None ≡ to j = rw b at e in
    let z : ◌≡◌ {A = ℕ} 0 1 = cc in
    omega arith

-- ---- the elements of an array that was read
-- the element at p was read up to w, it is the next one found, and the walk goes on after it
pub record ElementRead (d : ℕ) (s : List ℕ) (end p w : ℕ) : Type 0 where
  pub value : value_at d s p ≡ to w
  pub found : elements_from s p ≡ record { at = p; end = w } ∷ elements_from s (next_item s w)
  pub less : p < w
  pub inside : w ≤ length s
  pub onward : w ≤ next_item s w
  pub rest : Elements d s end (next_item s w)

-- at the close there is no element
pub elements_close : (s : List ℕ) (p : ℕ) → byte s p ≡ 0x5D → elements_from s p ≡ []
unfolding token_byte blank
elements_close s p b = elements_none s p 0x5D b (λ z. omega arith) refl refl

module _ (d : ℕ) (s : List ℕ) (end p : ℕ) where
  item_element : items_at (value_at d s) s 0x5D p ≡ to end → (w : ℕ) × ElementRead d s end p w
  item_element e =
      let x = item_read (value_at d s) s 0x5D (value_forward d s) bracket_ends end p e in
      let c : Cursor = record { at = x.past } in
      let l = value_onward d s p c x.read in (
        x.past,
        record {
          value = x.read;
          found = elements_more s p x.past (value_read d s p c x.read x.ends) l;
          less = l;
          inside = value_inside d s p c x.read;
          onward = next_onward s x.past;
          rest = x.rest;
        },
      )

  -- away from the close an element was read
  pub element_read : Elements d s end p → (byte s p ≡ 0x5D → ⊥) → (w : ℕ) × ElementRead d s end p w
  element_read (at_close b _) f = absurd (f b)
  element_read (at_item e) f = item_element e

  pub element_close : Elements d s end p → byte s p ≡ 0x5D → p + 1 ≡ end
  element_close (at_close _ h) b = h
  element_close (at_item e) b =
      let x = item_element e in
      let h : ◌≡◌ {A = List Element} [] (record { at = p; end = x.0 } ∷ elements_from s (next_item s x.0)) = sym (elements_close s p b) ∙ x.1.found in
      let z : ◌≡◌ {A = ℕ} 0 1 = cc in
      absurd (omega arith)

module _ (s : List ℕ) (end p : ℕ) where
  -- an object ends past where the walk over its own members stops
  pub object_read : (d : ℕ) → Elements (suc d) s end p → byte s p ≡ 0x7B → ElementRead (suc d) s end p (members_end s p + 1)
  object_read d e b =
      let r = element_read (suc d) s end p e (λ z. omega arith) in
      subst (ElementRead (suc d) s end p) (sym (object_end d s p r.0 r.1.value b).1) r.1

  -- and none stands at depth 0
  pub no_object : Elements 0 s end p → byte s p ≡ 0x7B → ⊥
  no_object e b = let r = element_read 0 s end p e (λ z. omega arith) in deep_object s p r.0 r.1.value b
