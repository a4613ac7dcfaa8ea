-- The walk over the entries of core:extensions.
use Rattle.std.specs.Prelude.{None, Some}
use mathlib.Core.Path.{◌≡◌, refl, sym, ap, ◌∙◌}
use mathlib.Core.Bool.{Bool, true, false, ◌||◌}
use mathlib.Core.List.{List, [], ◌∷◌, map}
use Prim.Native.Nat.{ℕ, ◌≤◌, ◌<◌, ◌+◌}
use native.Mathlib.Omega.{arith}
use lib.ListN.{length, get_or-eq_default}
use Rattle.refusals.specs.Refusals.{rule, lowest, least}
use Rattle.refusals.proofs.LeastLaws.{least_none, least_unit, least_assoc}
use Rattle.json_blocks.specs.TextBytes.{skip_blanks}
use Rattle.json_blocks.specs.Lists.{any}
use Rattle.json_blocks.proofs.ByteLaws.{blanks_onward}
use Rattle.json_grammar.specs.Skip.{token_byte}
use Rattle.json_walk.specs.declared.Element.{Element}
use Rattle.json_walk.specs.Members.{element_step, element_found, elements_from}
use Rattle.json_walk.proofs.StepLaws.{element_steps, elements_none}
use Rattle.json_walk.proofs.EndLaws.{elements_found, elements_over}
use Rattle.sigmf_extensions.specs.declared.Extension.{Extension}
use Rattle.sigmf_extensions.specs.declared.Extension.TheVariants as E
use Rattle.sigmf_values.specs.Values.{part_of}
use Rattle.sigmf_extensions.specs.Extensions.{extension_of, extension_refusal, entries_at, is_malformed, is_needed, entries_rules}

abbrev pub entries_low : List Extension → ℕ
entries_low es = lowest (entries_rules es)

pub no_entries : 0 ≡ entries_low []
unfolding lowest any
no_entries = refl

-- 12 wins over 13, wherever the entries stand
more_low : (x : Extension) (es : List Extension) → entries_low (x ∷ es) ≡ least (extension_refusal x) (entries_low es)
unfolding lowest any least
more_low x es = go x (any is_malformed es) (any is_needed es) where
  go : (x : Extension) (m n : Bool)
      → lowest (rule 12 (is_malformed x || m) ∷ rule 13 (is_needed x || n) ∷ []) ≡ least (extension_refusal x) (lowest (rule 12 m ∷ rule 13 n ∷ []))
  go E.Malformed true n = refl
  go E.Malformed false true = refl
  go E.Malformed false false = refl
  go E.Needed true n = refl
  go E.Needed false true = refl
  go E.Needed false false = refl
  go E.Ignored m n = refl

-- ---- the entries from a place on
abbrev pub entries_from : List ℕ → ℕ → List Extension
entries_from s i = map (λ e. extension_of (part_of s e.at e.end)) (elements_from s i)

module _ (s : List ℕ) (i low : ℕ) where
  module _ (e : Element) (j : ℕ) (h : element_step s i ≡ Some (e, j)) where
    pub entry_past : (i < j) × (i < length s)
    entry_past = element_steps s i e j (ap element_found h)

    pub entries_on : (part : List ℕ) (x : Extension) (l next : ℕ) → part ≡ part_of s e.at e.end → x ≡ extension_of part → l ≡ extension_refusal x → next ≡ least low l
        → least next (entries_low (entries_from s j)) ≡ least low (entries_low (entries_from s i))
    entries_on part x l next ep ex el en =
        ap (λ (n : ℕ). least n (entries_low (entries_from s j))) en
        ∙ least_assoc low l (entries_low (entries_from s j))
        ∙ ap (least low)
        (ap (λ (n : ℕ). least n (entries_low (entries_from s j))) (el ∙ ap extension_refusal (ex ∙ ap extension_of ep))
        ∙ sym (more_low (extension_of (part_of s e.at e.end)) (entries_from s j))
        ∙ ap (λ (es : List Element). entries_low (map (λ x. extension_of (part_of s x.at x.end)) es)) (sym (elements_found s i e j h)))

  pub entries_over : element_step s i ≡ None → low ≡ least low (entries_low (entries_from s i))
  entries_over h =
      least_unit low ∙ ap (least low)
      (no_entries ∙ ap (λ (es : List Element). entries_low (map (λ x. extension_of (part_of s x.at x.end)) es)) (sym (elements_over s i h)))

pub entries_begin : (s : List ℕ) (i : ℕ) → least 0 (entries_low (entries_from s i)) ≡ entries_low (entries_from s i)
entries_begin s i = sym (least_none 0 (entries_low (entries_from s i)) refl)

-- ---- the array at a place
module _ (s : List ℕ) (p : ℕ) where
  pub entries_past : length s ≤ p → 0 ≡ entries_low (entries_at s p)
  unfolding token_byte
  entries_past h =
      no_entries
      ∙ ap (λ (es : List Element). entries_low (map (λ e. extension_of (part_of s e.at e.end)) es))
      (sym (elements_none s (skip_blanks s (p + 1)) 0 (get_or-eq_default s 0 (omega (arith, blanks_onward s (p + 1)))) (λ z. omega arith) refl refl))

  pub entries_are : (low start : ℕ) → start ≡ skip_blanks s (p + 1) → low ≡ entries_low (entries_from s start) → low ≡ entries_low (entries_at s p)
  entries_are low start e q = q ∙ ap (λ (i : ℕ). entries_low (entries_from s i)) e
