-- Steps of the definitions of specs/Extensions.antt, on plain variables.
use Rattle.std.specs.Prelude.{None, Option, Some}
use mathlib.Core.Path.{◌≡◌, refl, sym, ap, ◌∙◌}
use mathlib.Core.Bool.{Bool, true, false, cond, not, ◌&&◌}
use mathlib.Core.List.{List, [], ◌∷◌}
use Prim.Native.Nat.{ℕ, ◌≤◌, ◌<◌, ◌+◌}
use native.Mathlib.Omega.{arith}
use lib.ListN.{length}
use Rattle.json_walk.specs.declared.Member.{Member}
use Rattle.json_walk.specs.Members.{member_step, member_found, members_from}
use Rattle.json_walk.proofs.GatherLaws.{gather_stop, gather_found}
use Rattle.json_walk.proofs.StepLaws.{member_steps}
use Rattle.sigmf_extensions.specs.declared.EntryMember.{EntryMember}
use Rattle.sigmf_extensions.specs.declared.EntryMember.TheVariants as M
use Rattle.sigmf_extensions.specs.declared.Tally.{Tally}
use Rattle.sigmf_values.specs.declared.FieldType.TheVariants as T
use Rattle.sigmf_extensions.specs.declared.Extension.{Extension}
use Rattle.sigmf_extensions.specs.declared.Extension.TheVariants as E
use Rattle.sigmf_values.specs.Values.{has_type}
use Rattle.sigmf_extensions.specs.Extensions.{class_of, counted, tally_from, tally_of, exactly, needed, judged, extension_of, extension_refusal, extension_rules}
use Rattle.refusals.specs.Refusals.{rule, lowest}

-- ---- counts
abbrev pub total : Tally → ℕ
total t = t.names + t.versions + t.optionals + t.others

-- no count is above n, and no more true ones than optional ones
abbrev pub Bounded : Tally → ℕ → Type 0
Bounded t n = (total t ≤ n) × (t.trues ≤ t.optionals)

bounded_more : (t : Tally) (c : EntryMember) (n m : ℕ) → Bounded t n → n < m → Bounded (counted t c) m
bounded_more t M.Name n m b h = (omega (arith, b.0), b.1)
bounded_more t M.Version n m b h = (omega (arith, b.0), b.1)
bounded_more t M.OptionalTrue n m b h = (omega (arith, b.0), omega (arith, b.1))
bounded_more t M.OptionalFalse n m b h = (omega (arith, b.0), omega (arith, b.1))
bounded_more t M.Other n m b h = (omega (arith, b.0), b.1)

pub bounded_on : (t u : Tally) (c : EntryMember) (n m : ℕ) → u ≡ counted t c → Bounded t n → n < m → Bounded u m
bounded_on t u c n m e b h = rw e (bounded_more t c n m b h)

-- ---- the members from i on, after those that make t
module _ (s : List ℕ) (t : Tally) (i : ℕ) (g : Option (Member × ℕ)) (eg : g ≡ member_step s i) where
  pub tally_end : g ≡ None → t ≡ tally_from s t (members_from s i)
  unfolding tally_from
  tally_end h = rw (gather_stop s (λ k. member_found (member_step s k)) i (ap member_found (sym eg ∙ h)))

  module _ (m : Member) (j : ℕ) (h : g ≡ Some (m, j)) where
    pub step_on : (i < j) × (i < length s)
    step_on = member_steps s i m j (ap member_found (sym eg ∙ h))

    pub tally_on : (c : EntryMember) (u : Tally) → c ≡ class_of s m → u ≡ counted t c → tally_from s u (members_from s j) ≡ tally_from s t (members_from s i)
    unfolding tally_from
    tally_on c u e f =
        rw (gather_found s (λ k. member_found (member_step s k)) (member_steps s) i m j (ap member_found (sym eg ∙ h)), f, e)

-- ---- the number that an entry gives cause for
module _ (p : List ℕ) where
  extension_same : extension_refusal (extension_of p) ≡ lowest (extension_rules p)
  unfolding extension_of judged lowest
  extension_same = go (has_type T.Object p) (exactly (tally_of p)) (needed (tally_of p)) where
    go : (a b c : Bool) → extension_refusal (cond a (cond b (cond c E.Needed E.Ignored) E.Malformed) E.Malformed)
        ≡ lowest (rule 12 (not (a && b)) ∷ rule 13 c ∷ [])
    go true true true = refl
    go true true false = refl
    go true false c = refl
    go false b c = refl

  pub extension_is : (r : Extension) → extension_refusal r ≡ lowest (extension_rules p) → r ≡ extension_of p
  extension_is r e = go r (extension_of p) (e ∙ sym extension_same) where
    go : (a b : Extension) → extension_refusal a ≡ extension_refusal b → a ≡ b
    go E.Malformed E.Malformed e = refl
    go E.Malformed E.Needed e = absurd (omega (arith, e))
    go E.Malformed E.Ignored e = absurd (omega (arith, e))
    go E.Needed E.Malformed e = absurd (omega (arith, e))
    go E.Needed E.Needed e = refl
    go E.Needed E.Ignored e = absurd (omega (arith, e))
    go E.Ignored E.Malformed e = absurd (omega (arith, e))
    go E.Ignored E.Needed e = absurd (omega (arith, e))
    go E.Ignored E.Ignored e = refl
