-- What a noted place says, on plain variables.
use Rattle.std.specs.Prelude.{None, Some, Option}
use mathlib.Core.Path.{◌≡◌, refl, sym, ap, ◌∙◌}
use mathlib.Core.Bool.{Bool, true, false, cond, not}
use mathlib.Core.List.{List, [], ◌∷◌}
use mathlib.Core.Option.{Option as Maybe, none, some}
use Prim.Native.Nat.{ℕ, zero, suc, ◌+◌, ◌-◌}
use native.Mathlib.Omega.{arith}
use Rattle.std.specs.Option.{is_some}
use lib.ListN.{length, take, drop}
use lib.Dec.{eqb}
use borrow.Author.Tests.{ne_eqb}
use Rattle.refusals.specs.Refusals.{rule, lowest}
use Rattle.refusals.specs.Answer.{Answer, accepted, refused, or_refused}
use Rattle.json_grammar.specs.Skip.{skip_value}
use Rattle.json_strings.specs.declared.Position.{Position}
use Rattle.sigmf_datetimes.specs.declared.Date.{Date}
use Rattle.sigmf_datetimes.specs.declared.Clock.{Clock}
use Rattle.sigmf_texts.specs.Texts.{value_text}
use Rattle.sigmf_datetimes.specs.Datetimes.{Moment, datetime_of, datetime_says, datetime_answer}
use Rattle.sigmf_values.specs.Values.{part_of}
use Rattle.sigmf_objects.specs.Fields.{Value, given, is_absent, uint_or}
use Rattle.sigmf_objects.specs.Places.{noted, length_of}
use Rattle.sigmf_objects.specs.Capture.{is_none, breaks_rule}
use Rattle.sigmf_objects.specs.Annotation.{count_in, raw_text_place, count_by, place_by}

abbrev is_refused : Answer Moment → Bool
is_refused (accepted m) = false
is_refused (refused n) = true

refused_none : (x : Maybe Moment) → is_refused (or_refused 11 x) ≡ is_none x
refused_none (some m) = refl
refused_none none = refl

module _ (s : List ℕ) (p : ℕ) where
  -- ---- no value
  module _ (e : p ≡ 0) where
    nothing : none ≡ noted s p
    unfolding noted
    nothing = rw e

    pub given_none : {A : Type 0} (z : A) (f : Value → A) → z ≡ given z f (noted s p)
    given_none z f = ap (given z f) nothing

    pub absent : true ≡ is_absent (noted s p)
    absent = given_none true (λ _. false)

  -- ---- a value
  module _ (f : p ≡ 0 → ⊥) where
    something : noted s p ≡ some (record { at = p; part = part_of s p (skip_value s p) })
    unfolding noted
    something = go p refl where
      go : (q : ℕ) → p ≡ q → noted s q ≡ some (record { at = q; part = part_of s q (skip_value s q) })
      go zero e = absurd (f e)
      go (suc q) e = refl

    pub present : false ≡ is_absent (noted s p)
    present = sym (ap is_absent something)

    module _ (part : List ℕ) (e : part ≡ part_of s p (skip_value s p)) where
      pub given_some : {A : Type 0} (z : A) (g : Value → A) → g (record { at = p; part = part }) ≡ given z g (noted s p)
      given_some z g = ap (λ (x : List ℕ). g (record { at = p; part = x })) e ∙ sym (ap (given z g) something)

      pub breaks_is : (d : Option (Date × Clock × Position)) → datetime_says part d ≡ datetime_answer (value_text part) → is_refused (datetime_says part d) ≡ breaks_rule (noted s p)
      breaks_is d q = ap is_refused q ∙ refused_none (datetime_of (value_text part)) ∙ given_some false (λ v. is_none (datetime_of (value_text v.part)))

pub zero_absent : (s : List ℕ) (p : ℕ) → eqb p 0 ≡ is_absent (noted s p)
unfolding noted
zero_absent s zero = refl
zero_absent s (suc p) = ne_eqb (suc p) 0 (λ z. omega arith)

-- ---- by the size
pub uint_by_lem : (s : List ℕ) (p n z : ℕ) → n ≡ uint_or 0 (noted s p) → cond (eqb p 0) z n ≡ uint_or z (noted s p)
unfolding noted
uint_by_lem s zero n z e = refl
uint_by_lem s (suc p) n z e = rw (ne_eqb (suc p) 0 (λ z. omega arith)) e

pub count_by_lem : (s : List ℕ) (p n : ℕ) → n ≡ uint_or 0 (noted s p) → count_by p n ≡ count_in (noted s p)
unfolding noted
count_by_lem s zero n e = refl
count_by_lem s (suc p) n e = rw (ne_eqb (suc p) 0 (λ z. omega arith)) (ap Some e)

pub place_by_lem : (s : List ℕ) (p n : ℕ) → n ≡ length_of (noted s p) → place_by p n ≡ raw_text_place (noted s p)
unfolding noted
place_by_lem s zero n e = refl
place_by_lem s (suc p) n e = rw (ne_eqb (suc p) 0 (λ z. omega arith), e)

-- a part is as long as it is
take_again : (k : ℕ) (l : List ℕ) → take (length (take k l)) l ≡ take k l
take_again zero l = refl
take_again (suc k) [] = refl
take_again (suc k) (x ∷ l) = ap (λ (t : List ℕ). x ∷ t) (take_again k l)

module _ (s : List ℕ) (p n : ℕ) where
  pub part_sized : (p ≡ 0 → ⊥) → n ≡ length_of (noted s p) → part_of s p (p + n) ≡ part_of s p (skip_value s p)
  part_sized f e =
      let q : p + n - p ≡ n = omega arith in
      let r : n ≡ length (part_of s p (skip_value s p)) = e ∙ ap length_of (something s p f) in
      rw (q, r) (take_again (skip_value s p - p) (drop p s))

-- ---- 6
pub absent_is : (s : List ℕ) (p : ℕ) → cond (eqb p 0) 6 0 ≡ lowest (rule 6 (is_absent (noted s p)) ∷ [])
unfolding lowest noted
absent_is s zero = refl
absent_is s (suc p) = rw (ne_eqb (suc p) 0 (λ e. omega arith))

-- ---- 6 and 11
module _ (s : List ℕ) (p q : ℕ) where
  pub low_absent : p ≡ 0 → 6 ≡ lowest (rule 6 (is_absent (noted s p)) ∷ rule 11 (breaks_rule (noted s q)) ∷ [])
  unfolding lowest
  low_absent e = rw (← absent s p e)

  module _ (f : p ≡ 0 → ⊥) where
    pub low_undated : q ≡ 0 → 0 ≡ lowest (rule 6 (is_absent (noted s p)) ∷ rule 11 (breaks_rule (noted s q)) ∷ [])
    unfolding lowest
    low_undated e = rw (← present s p f, ← given_none s q e false (λ v. is_none (datetime_of (value_text v.part))))

    module _ (g : q ≡ 0 → ⊥) (part : List ℕ) (e : part ≡ part_of s q (skip_value s q)) (d : Option (Date × Clock × Position)) (ed : datetime_says part d ≡ datetime_answer (value_text part)) where
      told : (x : Option (Date × Clock × Position)) → is_refused (datetime_says part x) ≡ not (is_some x)
      told (Some (x, c, a)) = refl
      told None = refl

      pub low_broken : is_some d ≡ false → 11 ≡ lowest (rule 6 (is_absent (noted s p)) ∷ rule 11 (breaks_rule (noted s q)) ∷ [])
      unfolding lowest
      low_broken h = rw (← present s p f, ← breaks_is s q g part e d ed, told d, h)

      pub low_dated : is_some d ≡ true → 0 ≡ lowest (rule 6 (is_absent (noted s p)) ∷ rule 11 (breaks_rule (noted s q)) ∷ [])
      unfolding lowest
      low_dated h = rw (← present s p f, ← breaks_is s q g part e d ed, told d, h)
