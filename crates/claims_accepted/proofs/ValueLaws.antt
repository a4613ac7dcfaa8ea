-- What holds of each member that has a field's number and type holds of the field's value.
use Prim.Native.Nat.{ℕ}
use mathlib.Core.Path.{◌≡◌, refl, subst}
use mathlib.Core.Bool.{Bool, true, false, cond, not}
use mathlib.Core.List.{List, [], ◌∷◌, map}
use mathlib.Core.Option.{Option, some}
use lib.Dec.{eqb}
use borrow.Author.Tests.{eqb-true, not-false}
use Rattle.json_walk.specs.declared.Member.{Member}
use Rattle.sigmf_values.specs.Values.{has_type}
use Rattle.sigmf_names.specs.Names.{Core, type_at}
use Rattle.sigmf_extensions.specs.Extensions.{member_value}
use Rattle.sigmf_objects.specs.Fields.{Value, field_of, number_in, last_where, value_from, mistyped}
use Rattle.claims_accepted.proofs.Tests.{or_left, or_right}

pub data Each {A : Type 0} (P : A → Type 0) : List A → Type 0 where
  nothing : Each P []
  next : {x : A} {l : List A} → P x → Each P l → Each P (x ∷ l)

pub each_all : {A : Type 0} (P : A → Type 0) → ((x : A) → P x) → (l : List A) → Each P l
each_all P f [] = nothing
each_all P f (x ∷ l) = next (f x) (each_all P f l)

-- field i; no member has the wrong type (7 does not hold)
module _ (s : List ℕ) (cs : List Core) (i : ℕ) (P : Option Value → Type 0) (Q : Member → Type 0)
    (one : (m : Member) → Q m → has_type (type_at cs i) (member_value s m) ≡ true → P (some (field_of s m).value)) where
  pub values_hold : (z : Option Value) (ms : List Member) → P z → Each Q ms → mistyped cs (map (field_of s) ms) ≡ false → P (value_from cs i z (map (field_of s) ms))
  unfolding mistyped last_where
  values_hold z [] h nothing t = h
  values_hold z (m ∷ ms) h (next q qs) t = values_hold (cond (eqb (number_in cs (field_of s m)) i) (some (field_of s m).value) z) ms (go (eqb (number_in cs (field_of s m)) i) refl) qs (or_right bad (mistyped cs (map (field_of s) ms)) t)
    where
      bad : Bool
      bad = not (has_type (type_at cs (number_in cs (field_of s m))) (member_value s m))

      go : (b : Bool) → eqb (number_in cs (field_of s m)) i ≡ b → P (cond b (some (field_of s m).value) z)
      go true e =
          let k = not-false _ (or_left bad (mistyped cs (map (field_of s) ms)) t) in
          one m q (subst (λ (j : ℕ). has_type (type_at cs j) (member_value s m) ≡ true) (eqb-true _ _ e) k)
      go false e = h
