-- The close of a group, and no reader of specs/Group.antt goes back.
use Rattle.std.specs.Prelude.{None, Some, Option}
use mathlib.Core.Path.{◌≡◌, sym}
use mathlib.Core.List.{List}
use Prim.Native.Nat.{ℕ, ◌<◌, ◌+◌}
use native.Mathlib.Omega.{arith}
use lib.ListN.{length}
use lib.Dec.{eqb}
use borrow.Author.Tests.{eq-eqb, ne_eqb, eqb-true}
use Rattle.json_blocks.specs.declared.Cursor.{Cursor}
use Rattle.json_blocks.specs.declared.After.{After}
use Rattle.json_blocks.specs.declared.After.TheVariants as A
use Rattle.json_blocks.specs.TextBytes.{byte, skip_blanks}
use Rattle.json_blocks.specs.Group.{after_item, colon_at}
use Rattle.json_blocks.proofs.ByteLaws.{inside, cond_elim, blanks_onward, Onward, on_to, on_bad, onward_cond}

-- k is where the blanks end, b the byte there
pub after_close : (s : List ℕ) (close at k b : ℕ) → k ≡ skip_blanks s at → b ≡ byte s k → (b ≡ 0x2C → ⊥) → b ≡ close → Some (A.Close (record { at = k + 1 })) ≡ after_item s close at
unfolding after_item
after_close s close at k b ek eb g h = rw (← ek, ← eb, ne_eqb _ _ g, eq-eqb _ _ h)

pub data OnwardAfter (s : List ℕ) (at : ℕ) : Option After → Type 0 where
  onward_item : {c : Cursor} → at < c.at → at < length s → OnwardAfter s at (Some (A.Item c))
  onward_close : {c : Cursor} → at < c.at → OnwardAfter s at (Some (A.Close c))
  onward_neither : OnwardAfter s at None

pub after_onward : (s : List ℕ) (close at : ℕ) → OnwardAfter s at (after_item s close at)
unfolding after_item
after_onward s close at =
    let l = blanks_onward s at in
    let m = blanks_onward s (skip_blanks s at + 1) in
    cond_elim (OnwardAfter s at) (eqb (byte s (skip_blanks s at)) 0x2C) _ _
    (λ e. let b : byte s (skip_blanks s at) ≡ 0x2C = eqb-true _ _ e in let i = inside s (skip_blanks s at) 0x2C (sym b) (omega arith) in onward_item (omega arith) (omega arith))
    (λ _. cond_elim (OnwardAfter s at) (eqb (byte s (skip_blanks s at)) close) _ _ (λ _. onward_close (omega arith)) (λ _. onward_neither))

pub colon_onward : (s : List ℕ) (at : ℕ) → Onward (at + 1) (colon_at s at)
unfolding colon_at
colon_onward s at =
    let l = blanks_onward s at in
    let m = blanks_onward s (skip_blanks s at + 1) in
    onward_cond (eqb (byte s (skip_blanks s at)) 0x3A) (on_to {c = record { at = skip_blanks s (skip_blanks s at + 1) }} (omega arith)) on_bad
