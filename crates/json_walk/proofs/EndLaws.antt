-- A walk by its steps, in any text: what is found and where the walk stops, from one place to the next.
use Rattle.std.specs.Prelude.{None, Option, Some}
use mathlib.Core.Path.{◌≡◌, refl, sym, ap}
use mathlib.Core.Bool.{Bool, true, false}
use mathlib.Core.List.{List, [], ◌∷◌}
use Prim.Native.Nat.{ℕ, ◌≤◌, ◌<◌, ◌+◌, ◌-◌}
use native.Mathlib.Omega.{arith}
use lib.ListN.{length}
use Rattle.std.proofs.lemmas.Option.{some_pair_parts}
use lib.Dec.{eqb}
use borrow.Author.Tests.{eqb-true, eqb-false}
use Rattle.json_blocks.specs.TextBytes.{byte, skip_blanks}
use Rattle.json_blocks.specs.Group.{colon_at}
use Rattle.json_blocks.specs.declared.Cursor.{Cursor}
use Rattle.json_blocks.proofs.ByteLaws.{inside, cond_elim, blanks_onward}
use Rattle.json_grammar.specs.Skip.{skip_string, skip_value}
use Rattle.json_grammar.proofs.SkipLaws.{quoted_onward, quoted_close, quoted_escape, quoted_other}
use Rattle.json_walk.specs.declared.Member.{Member}
use Rattle.json_walk.specs.declared.Element.{Element}
use Rattle.json_walk.specs.Members.{next_item, member_to, member_step, element_step, member_found, element_found, members_from, members_end_from, elements_from}
use Rattle.json_walk.proofs.GatherLaws.{gather_stop, gather_found, end_stop, end_found}
use Rattle.json_walk.proofs.StepLaws.{skip_value_onward, next_onward, member_steps, element_steps}

-- ---- members
module _ (s : List ℕ) (i : ℕ) where
  module _ (m : Member) (j : ℕ) (e : member_step s i ≡ Some (m, j)) where
    pub members_found : members_from s i ≡ m ∷ members_from s j
    members_found = gather_found s (λ k. member_found (member_step s k)) (member_steps s) i m j (ap member_found e)

    pub members_end_found : members_end_from s i ≡ members_end_from s j
    members_end_found = end_found s (λ k. member_found (member_step s k)) (member_steps s) i m j (ap member_found e)

  module _ (e : member_step s i ≡ None) where
    pub members_over : members_from s i ≡ []
    members_over = gather_stop s (λ k. member_found (member_step s k)) i (ap member_found e)

    pub members_end_over : members_end_from s i ≡ i
    members_end_over = end_stop s (λ k. member_found (member_step s k)) i (ap member_found e)

-- ---- elements
module _ (s : List ℕ) (i : ℕ) where
  pub elements_found : (x : Element) (j : ℕ) → element_step s i ≡ Some (x, j) → elements_from s i ≡ x ∷ elements_from s j
  elements_found x j e = gather_found s (λ k. element_found (element_step s k)) (element_steps s) i x j (ap element_found e)

  pub elements_over : element_step s i ≡ None → elements_from s i ≡ []
  elements_over e = gather_stop s (λ k. element_found (element_step s k)) i (ap element_found e)

-- ---- where the parts of a member stand, in any text
pub record MemberPlaces (s : List ℕ) (i : ℕ) (m : Member) (j : ℕ) : Type 0 where
  pub name : m.name ≡ i + 1
  pub quote : m.name ≤ m.quote
  pub inside : m.quote < length s
  pub value : m.quote < m.value
  pub end : m.value ≤ m.end
  pub next : m.end ≤ j

-- a string passes a byte where there is one
quoted_past : (s : List ℕ) (i : ℕ) → i < length s → i < skip_string s i
quoted_past s i l = go (eqb (byte s i) 0x22) refl (eqb (byte s i) 0x5C) refl where
  go : (t : Bool) → eqb (byte s i) 0x22 ≡ t → (u : Bool) → eqb (byte s i) 0x5C ≡ u → i < skip_string s i
  go true p u q = omega (arith, quoted_close s i (byte s i) refl (eqb-true _ _ p))
  go false p true q = omega (arith, quoted_escape s i (byte s i) refl (eqb-true _ _ q), quoted_onward s (i + 2))
  go false p false q = omega (arith, quoted_other s i (byte s i) refl l (eqb-false _ _ p) (eqb-false _ _ q), quoted_onward s (i + 1))

-- a colon stands inside the text, before the value
colon_inside : (s : List ℕ) (e : ℕ) (v : Cursor) → colon_at s e ≡ Some v → (e < length s) × (e < v.at)
unfolding colon_at
colon_inside s e v h =
    cond_elim (λ (x : Option Cursor). x ≡ Some v → (e < length s) × (e < v.at)) (eqb (byte s (skip_blanks s e)) 0x3A) _ _
    (λ q g.
    let f : skip_blanks s (skip_blanks s e + 1) ≡ v.at = cc in
    let l = inside s (skip_blanks s e) 0x3A (sym (eqb-true _ _ q)) (omega arith) in
    let a = blanks_onward s e in
    let b = blanks_onward s (skip_blanks s e + 1) in
    (omega arith, omega arith))
    (λ _ g. let z : ◌≡◌ {A = ℕ} 0 1 = cc in absurd (omega arith)) h

pub member_places : (s : List ℕ) (i : ℕ) (m : Member) (j : ℕ) → member_step s i ≡ Some (m, j) → MemberPlaces s i m j
unfolding member_step
member_places s i m j e =
    cond_elim (λ (x : Option (Member × ℕ)). x ≡ Some (m, j) → MemberPlaces s i m j) (eqb (byte s i) 0x22) _ _
    (λ _. to (colon_at s (skip_string s (i + 1))) refl) (λ _ h. let z : ◌≡◌ {A = ℕ} 0 1 = cc in absurd (omega arith)) e
  where
    to : (r : Option Cursor) → colon_at s (skip_string s (i + 1)) ≡ r → member_to s i (skip_string s (i + 1)) r ≡ Some (m, j) → MemberPlaces s i m j
    to (Some v) p h =
        let c = colon_inside s (skip_string s (i + 1)) v p in
        let o = quoted_onward s (i + 1) in
        let q = quoted_past s (i + 1) (omega (arith, c.0)) in
        let x = some_pair_parts _ _ _ _ h in
        let en : i + 1 ≡ m.name = cc in
        let eq : skip_string s (i + 1) - 1 ≡ m.quote = cc in
        let ev : v.at ≡ m.value = cc in
        let ee : skip_value s v.at ≡ m.end = cc in
        let ej : next_item s (skip_value s v.at) ≡ j = cc in
        let n = skip_value_onward s v.at in
        let y = next_onward s (skip_value s v.at) in
        record {
          name = omega arith;
          quote = omega arith;
          inside = omega (arith, c.0);
          value = omega (arith, c.1);
          end = omega arith;
          next = omega arith;
        }
    to None p h = let z : ◌≡◌ {A = ℕ} 0 1 = cc in absurd (omega arith)
