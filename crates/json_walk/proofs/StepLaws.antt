-- The members and elements one by one: each step passes a byte, and what was read as an item is the next one found.
use Rattle.json_walk.specs.declared.Element.{Element}
use Rattle.std.specs.Prelude.{None, Option, Some}
use mathlib.Core.Path.{◌≡◌, refl, sym, ap, ◌∙◌}
use mathlib.Core.Bool.{Bool, true, false, cond, not, ◌||◌}
use mathlib.Core.List.{List, [], ◌∷◌}
use Prim.Native.Nat.{ℕ, ◌≤◌, ◌<◌, ◌+◌, ◌-◌}
use native.Mathlib.Omega.{arith}
use lib.ListN.{length, get_or-eq_default}
use lib.Dec.{eqb, ltb}
use borrow.Author.Tests.{eqb-true, ltb-true, ltb-false}
use Rattle.json_blocks.specs.TextBytes.{byte, blank, skip_blanks}
use Rattle.json_blocks.specs.Group.{colon_at, after_item}
use Rattle.json_blocks.specs.declared.Cursor.{Cursor}
use Rattle.json_blocks.specs.declared.After.{After}
use Rattle.json_blocks.specs.declared.After.TheVariants as A
use Rattle.json_blocks.proofs.ByteLaws.{inside, cond_elim, no_blank, skip_out, skip_onward, blanks_onward, Onward, onward_is}
use Rattle.json_blocks.proofs.GroupLaws.{colon_onward}
use Rattle.json_grammar.specs.Skip.{skip_string, skip_value, opens, closes, token_byte}
use Rattle.json_grammar.proofs.SkipLaws.{quoted_onward, open_onward, value_scalar, no_scalar}
use Rattle.json_walk.specs.declared.Member.{Member}
use Rattle.json_walk.specs.Gather.{found}
use Rattle.json_walk.specs.Members.{next_item, member_to, member_step, element_step, member_found, element_found, members_from, elements_from}
use Rattle.json_walk.proofs.GatherLaws.{Steps, gather_stop, gather_found}
use Rattle.json_walk.proofs.WalkLaws.{member_none, member_found_lem, element_found_lem, element_none}

-- ---- no step goes back
pub skip_value_onward : (s : List ℕ) (i : ℕ) → i ≤ skip_value s i
unfolding skip_value
skip_value_onward s i =
    cond_elim (λ (n : ℕ). i ≤ n) (eqb (byte s i) 0x22) _ _ (λ _. omega (arith, quoted_onward s (i + 1)))
    (λ _. cond_elim (λ (n : ℕ). i ≤ n) (opens (byte s i)) _ _ (λ _. omega (arith, open_onward s 1 (i + 1))) (λ _. skip_onward token_byte no_scalar s i))

pub next_onward : (s : List ℕ) (i : ℕ) → i ≤ next_item s i
unfolding next_item
next_onward s i =
    let l = blanks_onward s i in
    let m = blanks_onward s (skip_blanks s i + 1) in
    cond_elim (λ (n : ℕ). i ≤ n) (eqb (byte s (skip_blanks s i)) 0x2C) _ _ (λ _. omega arith) (λ _. l)

-- a value that is passed begins inside the text
skip_value_end : (s : List ℕ) (i : ℕ) → length s ≤ i → i ≡ skip_value s i
skip_value_end s i h =
    let z : byte s i ≡ 0 = get_or-eq_default s 0 h in
    skip_out token_byte no_scalar s i 0 (sym z) no_scalar ∙ value_scalar s i 0 (sym z) (λ e. omega arith) refl

skip_value_inside : (s : List ℕ) (i : ℕ) → i < skip_value s i → i < length s
skip_value_inside s i h = go (ltb i (length s)) refl where
  go : (t : Bool) → ltb i (length s) ≡ t → i < length s
  go true q = ltb-true _ _ q
  go false q = let e = skip_value_end s i (ltb-false _ _ q) in absurd (omega arith)

-- ---- each step passes a byte
pub member_steps : (s : List ℕ) → Steps s (λ i. member_found (member_step s i))
unfolding member_step
member_steps s i m j e =
    cond_elim (λ (x : Option (Member × ℕ)). member_found x ≡ found m j → (i < j) × (i < length s)) (eqb (byte s i) 0x22) _ _
    (λ q. to (colon_at s (skip_string s (i + 1))) (colon_onward s (skip_string s (i + 1))) (eqb-true _ _ q))
    (λ q h. let z : ◌≡◌ {A = ℕ} 0 1 = cc in absurd (omega arith)) e
  where
    to : (r : Option Cursor) → Onward (skip_string s (i + 1) + 1) r → byte s i ≡ 0x22
        → member_found (member_to s i (skip_string s (i + 1)) r) ≡ found m j → (i < j) × (i < length s)
    to (Some v) p b h =
        let f : next_item s (skip_value s v.at) ≡ j = cc in
        let k = onward_is p in
        let l = quoted_onward s (i + 1) in
        let n = skip_value_onward s v.at in
        let o = next_onward s (skip_value s v.at) in
        let u = inside s i 0x22 (sym b) (omega arith) in
        (omega arith, u)
    to None p b h = let z : ◌≡◌ {A = ℕ} 0 1 = cc in absurd (omega arith)

pub element_steps : (s : List ℕ) → Steps s (λ i. element_found (element_step s i))
unfolding element_step
element_steps s i a j e =
    cond_elim (λ (x : Option (Element × ℕ)). element_found x ≡ found a j → (i < j) × (i < length s)) (ltb i (skip_value s i)) _ _
    (λ q h.
    let f : next_item s (skip_value s i) ≡ j = cc in
    let l = ltb-true _ _ q in
    let o = next_onward s (skip_value s i) in
    (omega arith, skip_value_inside s i l))
    (λ q h. let z : ◌≡◌ {A = ℕ} 0 1 = cc in absurd (omega arith)) e

-- ---- what stands after an item, read as the end of one and the place of the next
module _ (s : List ℕ) (close w : ℕ) where
  pub after_item_lem : (c : Cursor) → after_item s close w ≡ Some (A.Item c) → next_item s w ≡ c.at
  unfolding after_item next_item
  after_item_lem c e = go (eqb (byte s (skip_blanks s w)) 0x2C) e where
    go : (t : Bool)
        → cond t (Some (A.Item (record { at = skip_blanks s (skip_blanks s w + 1) })))
        (cond (eqb (byte s (skip_blanks s w)) close) (Some (A.Close (record { at = skip_blanks s w + 1 }))) None) ≡ Some (A.Item c)
        → cond t (skip_blanks s (skip_blanks s w + 1)) (skip_blanks s w) ≡ c.at
    go true e = cc
    go false e =
        cond_elim (λ (x : Option After). x ≡ Some (A.Item c) → skip_blanks s w ≡ c.at) (eqb (byte s (skip_blanks s w)) close) _ _
        (λ _ h. let z : ◌≡◌ {A = ℕ} 0 1 = cc in absurd (omega arith)) (λ _ h. let z : ◌≡◌ {A = ℕ} 0 1 = cc in absurd (omega arith)) e

  -- at the close the byte is the close
  pub after_close : (c : Cursor) → after_item s close w ≡ Some (A.Close c) → (byte s (next_item s w) ≡ close) × (c.at ≡ next_item s w + 1)
  unfolding after_item next_item
  after_close c e = go (eqb (byte s (skip_blanks s w)) 0x2C) e where
    go : (t : Bool)
        → cond t (Some (A.Item (record { at = skip_blanks s (skip_blanks s w + 1) })))
        (cond (eqb (byte s (skip_blanks s w)) close) (Some (A.Close (record { at = skip_blanks s w + 1 }))) None) ≡ Some (A.Close c)
        → (byte s (cond t (skip_blanks s (skip_blanks s w + 1)) (skip_blanks s w)) ≡ close) × (c.at ≡ cond t (skip_blanks s (skip_blanks s w + 1)) (skip_blanks s w) + 1)
    go true e = let z : ◌≡◌ {A = ℕ} 0 1 = cc in absurd (omega arith)
    go false e =
        cond_elim (λ (x : Option After). x ≡ Some (A.Close c) → (byte s (skip_blanks s w) ≡ close) × (c.at ≡ skip_blanks s w + 1)) (eqb (byte s (skip_blanks s w)) close) _ _
        (λ q h. (eqb-true _ _ q, cc)) (λ _ h. let z : ◌≡◌ {A = ℕ} 0 1 = cc in absurd (omega arith)) e

-- a value ends before a byte of no scalar, where a comma or a close comes next
scalar_blank : (b : ℕ) → blank b ≡ true → token_byte b ≡ false
unfolding token_byte
scalar_blank b h = go (eqb b 0) where
  go : (t : Bool) → not (t || blank b || eqb b 0x2C || closes b) ≡ false
  go true = refl
  go false = rw h

pub after_scalar : (s : List ℕ) (close w : ℕ) → token_byte close ≡ false → (after_item s close w ≡ None → ⊥) → token_byte (byte s w) ≡ false
unfolding after_item token_byte blank
after_scalar s close w h f = go (blank (byte s w)) refl where
  solid : skip_blanks s w ≡ w → token_byte (byte s w) ≡ false
  solid k =
      cond_elim (λ (x : Option After). (x ≡ None → ⊥) → token_byte (byte s w) ≡ false) (eqb (byte s (skip_blanks s w)) 0x2C) _ _
      (λ q _. let e : byte s w ≡ 0x2C = ap (byte s) (sym k) ∙ eqb-true _ _ q in rw e)
      (λ _. cond_elim (λ (x : Option After). (x ≡ None → ⊥) → token_byte (byte s w) ≡ false) (eqb (byte s (skip_blanks s w)) close) _ _
      (λ q _. ap token_byte (ap (byte s) (sym k) ∙ eqb-true _ _ q) ∙ h) (λ _ g. absurd (g refl))) f

  go : (t : Bool) → blank (byte s w) ≡ t → token_byte (byte s w) ≡ false
  go true q = scalar_blank (byte s w) q
  go false q = solid (sym (skip_out blank no_blank s w (byte s w) refl q))

-- ---- the member that a name and a value make is the next one found
module _ (s : List ℕ) (i : ℕ) (q : byte s i ≡ 0x22) (e v : Cursor) (es : skip_string s (i + 1) ≡ e.at) (ec : colon_at s e.at ≡ Some v)
    (w : ℕ) (ew : skip_value s v.at ≡ w) where
  abbrev pub member : Member
  member = record { name = i + 1; quote = e.at - 1; value = v.at; end = w }

  step_is : member_step s i ≡ Some (member, (next_item s w))
  step_is = sym (member_found_lem s i 0x22 (sym q) refl e.at (sym es) (Some v) (sym ec) v refl w (next_item s w) (sym ew) refl)

  pub members_more : members_from s i ≡ member ∷ members_from s (next_item s w)
  members_more = gather_found s (λ k. member_found (member_step s k)) (member_steps s) i member (next_item s w) (ap member_found step_is)

pub members_none : (s : List ℕ) (i b : ℕ) → byte s i ≡ b → (b ≡ 0x22 → ⊥) → members_from s i ≡ []
members_none s i b e h = gather_stop s (λ k. member_found (member_step s k)) i (ap member_found (sym (member_none s i b (sym e) h)))

-- ---- and so for elements
pub elements_more : (s : List ℕ) (i w : ℕ) → skip_value s i ≡ w → i < w → elements_from s i ≡ record { at = i; end = w } ∷ elements_from s (next_item s w)
elements_more s i w e h =
    gather_found s (λ k. element_found (element_step s k)) (element_steps s) i (record { at = i; end = w }) (next_item s w)
    (ap element_found (sym (element_found_lem s i w (sym e) (next_item s w) h refl)))

pub elements_none : (s : List ℕ) (i b : ℕ) → byte s i ≡ b → (b ≡ 0x22 → ⊥) → opens b ≡ false → token_byte b ≡ false → elements_from s i ≡ []
elements_none s i b e h o c =
    let k = skip_out token_byte no_scalar s i b (sym e) c ∙ value_scalar s i b (sym e) h o in
    gather_stop s (λ k. element_found (element_step s k)) i (ap element_found (sym (element_none s i (skip_value s i) refl (omega arith))))
