-- Steps of the definitions of specs/Members.antt, on plain variables.
use Rattle.json_walk.specs.declared.Member.{Member}
use Rattle.std.specs.Prelude.{None, Option, Some}
use mathlib.Core.Path.{◌≡◌, refl, sym, ap, ◌∙◌}
use mathlib.Core.Bool.{Bool, true, false, cond}
use mathlib.Core.List.{List}
use Prim.Native.Nat.{ℕ, ◌≤◌, ◌<◌, ◌+◌, ◌-◌}
use lib.ListN.{length}
use lib.Dec.{eqb}
use borrow.Author.Tests.{eq-eqb, ne_eqb, lt-ltb, le-ltb}
use Rattle.json_blocks.specs.TextBytes.{byte, skip_blanks}
use Rattle.json_blocks.specs.Blocks.{ordinary_byte, all_at}
use Rattle.json_blocks.specs.Group.{colon_at}
use Rattle.json_blocks.specs.declared.Cursor.{Cursor}
use Rattle.json_blocks.proofs.BlockLaws.{all_pass, ordinary_is}
use Rattle.json_grammar.specs.Skip.{skip_string, skip_open, skip_value}
use Rattle.json_grammar.proofs.SkipLaws.{quoted_other, open_other}
use Rattle.json_walk.specs.declared.MemberName.{MemberName}
use Rattle.json_walk.specs.Members.{next_item, name_to, name_step, member_to, member_step, element_step}

-- ---- past bytes of a string that are no quote and no backslash
pub ordinary_pass : (s : List ℕ) (n i : ℕ) → i + n ≤ length s → all_at ordinary_byte n s i ≡ true → skip_string s (i + n) ≡ skip_string s i
ordinary_pass s =
    all_pass ordinary_byte s (skip_string s)
    (λ i l h. let o = ordinary_is (byte s i) h in quoted_other s i (byte s i) refl l o.quote o.slash)

-- ---- in an array or object, past a byte that is no quote and no bracket
pub open_passes : (s : List ℕ) (n i : ℕ) → i < length s → (byte s i ≡ 0x22 → ⊥) → (byte s i ≡ 0x5B → ⊥) → (byte s i ≡ 0x7B → ⊥) → (byte s i ≡ 0x5D → ⊥) → (byte s i ≡ 0x7D → ⊥)
    → skip_open s n (i + 1) ≡ skip_open s n i
open_passes s n i l q a b c d = open_other s n i (byte s i) refl l q (rw (ne_eqb _ _ a, ne_eqb _ _ b)) (rw (ne_eqb _ _ c, ne_eqb _ _ d))

-- ---- after an item; k is where the blanks end, b the byte there
module _ (s : List ℕ) (at k b : ℕ) (ek : k ≡ skip_blanks s at) (eb : b ≡ byte s k) where
  pub next_comma : (j : ℕ) → b ≡ 0x2C → j ≡ skip_blanks s (k + 1) → j ≡ next_item s at
  unfolding next_item
  next_comma j h e = rw (← ek, ← eb, eq-eqb _ _ h) e

  pub next_close : (b ≡ 0x2C → ⊥) → k ≡ next_item s at
  unfolding next_item
  next_close h = rw (← ek, ← eb, ne_eqb _ _ h)

-- ---- members
-- a name with the value passed
abbrev member_of : List ℕ → Option MemberName → Option (Member × ℕ)
member_of s (Some n) =
    let w = skip_value s n.value in
    Some ((record { name = n.name; quote = n.quote; value = n.value; end = w }), (next_item s w))
member_of s None = None

module _ (s : List ℕ) (at : ℕ) where
  by_name : member_of s (name_step s at) ≡ member_step s at
  unfolding name_step member_step
  by_name = go (eqb (byte s at) 0x22) (colon_at s (skip_string s (at + 1))) where
    go : (t : Bool) (r : Option Cursor)
        → member_of s (cond t (name_to at (skip_string s (at + 1)) r) None) ≡ cond t (member_to s at (skip_string s (at + 1)) r) None
    go true (Some v) = refl
    go true None = refl
    go false r = refl

  pub member_unnamed : name_step s at ≡ None → None ≡ member_step s at
  member_unnamed e = ap (member_of s) (sym e) ∙ by_name

  pub member_named : (n : MemberName) → name_step s at ≡ Some n → (w j : ℕ) → w ≡ skip_value s n.value → j ≡ next_item s w
      → Some ((record { name = n.name; quote = n.quote; value = n.value; end = w }), j) ≡ member_step s at
  member_named n e w j ew ej = rw (ej, ew) (ap (member_of s) (sym e) ∙ by_name)

module _ (s : List ℕ) (at b : ℕ) (eb : b ≡ byte s at) where
  pub member_none : (b ≡ 0x22 → ⊥) → None ≡ member_step s at
  unfolding member_step
  member_none h = rw (← eb, ne_eqb _ _ h)

  module _ (h : b ≡ 0x22) (e : ℕ) (ee : e ≡ skip_string s (at + 1)) (r : Option Cursor) (er : r ≡ colon_at s e) where
    pub member_found_lem : (c : Cursor) → r ≡ Some c → (w j : ℕ) → w ≡ skip_value s c.at → j ≡ next_item s w
        → Some ((record { name = at + 1; quote = e - 1; value = c.at; end = w }), j) ≡ member_step s at
    unfolding member_step
    member_found_lem c g w j ew ej = rw (← eb, eq-eqb _ _ h, ← ee, ← er, g, ← ew, ← ej)

-- ---- elements
module _ (s : List ℕ) (at w : ℕ) (ew : w ≡ skip_value s at) where
  pub element_found_lem : (j : ℕ) → at < w → j ≡ next_item s w → Some ((record { at = at; end = w }), j) ≡ element_step s at
  unfolding element_step
  element_found_lem j h ej = rw (← ew, lt-ltb _ _ h, ← ej)

  pub element_none : w ≤ at → None ≡ element_step s at
  unfolding element_step
  element_none h = rw (← ew, le-ltb _ _ h)
