-- A value by its first byte: what is read, and whether an object in it has bad members.
use Rattle.std.specs.Prelude.{Bool, None, Option, Some}
use mathlib.Core.Path.{◌≡◌, refl}
use mathlib.Core.Bool.{false}
use mathlib.Core.List.{List}
use Prim.Native.Nat.{ℕ, zero, suc, ◌+◌}
use native.Mathlib.Omega.{arith}
use borrow.Author.Tests.{ne_eqb}
use Rattle.std.proofs.lemmas.Option.{some_pair_parts}
use Rattle.json_blocks.specs.TextBytes.{byte}
use Rattle.json_blocks.specs.declared.Cursor.{Cursor}
use Rattle.json_names.specs.Plain.{keyed}
use Rattle.json_grammar.specs.ByPlace.{any_value_at, value_at}
use Rattle.json_judge.specs.MemberNames.{bad_members_at}
use Rattle.json_judge.specs.Pass.{scan_of, array_at, object_at, bad_array_at, bad_object_at}

module _ (d : ℕ) (s : List ℕ) (at b : ℕ) (eb : b ≡ byte s at) where
  value_by : value_at d s at ≡ any_value_at (array_at d s) (object_at d s) s at
  unfolding value_at array_at object_at
  value_by = go d where
    go : (d : ℕ) → value_at d s at ≡ any_value_at (array_at d s) (object_at d s) s at
    go zero = refl
    go (suc d) = refl

  -- ---- an array or object
  module _ (r : Option (Cursor × Bool)) where
    pub value_array : b ≡ 0x5B → r ≡ scan_of (array_at d s (at + 1)) (bad_array_at d s (at + 1)) → r ≡ scan_of (value_at d s at) (bad_members_at d s at)
    unfolding any_value_at bad_members_at bad_array_at
    value_array h e = rw (value_by, ← eb, h, bad d) e where
      bad : (d : ℕ) → bad_members_at d s at ≡ bad_array_at d s (at + 1)
      bad zero = refl
      bad (suc d) = rw (← eb, h)

    pub value_object : b ≡ 0x7B → r ≡ scan_of (object_at d s (at + 1)) (bad_object_at d s (at + 1)) → r ≡ scan_of (value_at d s at) (bad_members_at d s at)
    unfolding any_value_at bad_members_at bad_object_at
    value_object h e = rw (value_by, ← eb, h, bad d) e where
      bad : (d : ℕ) → bad_members_at d s at ≡ bad_object_at d s (at + 1)
      bad zero = refl
      bad (suc d) = rw (← eb, h)

  -- ---- any other value
  module _ (f : b ≡ 0x5B → ⊥) (g : b ≡ 0x7B → ⊥) where
    leaf_any : value_at 0 s at ≡ value_at d s at
    unfolding any_value_at value_at array_at object_at
    leaf_any = rw (value_by, ← eb, ne_eqb _ _ f, ne_eqb _ _ g)

    leaf_good : (d : ℕ) → bad_members_at d s at ≡ false
    unfolding bad_members_at
    leaf_good zero = refl
    leaf_good (suc d) = rw (← eb, ne_eqb _ _ f, ne_eqb _ _ g)

    pub value_leaf : (q : Option (Cursor × Bool)) (r : Option Cursor) → r ≡ value_at 0 s at → q ≡ scan_of r false → q ≡ scan_of (value_at d s at) (bad_members_at d s at)
    value_leaf q r e h = rw (← leaf_any, leaf_good d, ← e) h

-- ---- a name with its key
pub keyed_none : (x : Option Cursor) (k : ℕ) → None ≡ keyed x k → x ≡ None
keyed_none (Some c) k e = let z : ◌≡◌ {A = ℕ} 0 1 = cc in absurd (omega arith)
keyed_none None k e = refl

pub keyed_to : (x : Option Cursor) (k : ℕ) (c : Cursor) (key : ℕ) → Some (c, key) ≡ keyed x k → (x ≡ Some c) × (key ≡ k)
keyed_to (Some d) k c key e = let p = some_pair_parts _ _ _ _ e in (cc, cc)
keyed_to None k c key e = let z : ◌≡◌ {A = ℕ} 0 1 = cc in absurd (omega arith)
