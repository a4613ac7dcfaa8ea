-- Steps of the definitions of specs/Form.antt, on plain variables.
use Rattle.std.specs.Prelude.{None, Option, Some}
use mathlib.Core.Path.{◌≡◌, refl, sym, ap, ◌∙◌}
use mathlib.Core.Bool.{Bool, true, false, cond, ◌&&◌}
use mathlib.Core.List.{List, [], ◌∷◌}
use Prim.Native.Nat.{ℕ}
use lib.Dec.{eqb}
use Rattle.json_blocks.specs.Lists.{all}
use Rattle.json_strings.specs.declared.Position.{Position}
use Rattle.json_strings.specs.Stream.{stream}
use Rattle.refusals.specs.Answer.{Answer, accepted, refused}
use Rattle.sigmf_texts.specs.Form.{name_byte, namespace_byte, begun, namespace_of, after_colon, form_ok, form_of, part_after}
use Rattle.sigmf_texts.specs.FormCode.{past_space}

-- ---- a text x, at its end or from its next byte on
module _ (x : List ℕ) where
  pub all_end : (good : ℕ → Bool) → x ≡ [] → true ≡ all good x
  unfolding all
  all_end good e = rw e

  module _ (b : ℕ) (y : List ℕ) (e : x ≡ b ∷ y) (good : ℕ → Bool) where
    pub all_on : good b ≡ true → all good y ≡ all good x
    unfolding all
    all_on t = rw (e, t)

    pub all_not : good b ≡ false → false ≡ all good x
    unfolding all
    all_not t = rw (e, t)

-- ---- the namespace and then the part
abbrev then_part : Answer (List ℕ) → Answer (List ℕ)
then_part (refused n) = refused n
then_part (accepted l) = cond (begun l && all name_byte l) (accepted l) (refused 5)

past_is : (d : List ℕ) → cond (all namespace_byte (namespace_of d) && begun (after_colon d) && all name_byte (after_colon d)) (accepted (after_colon d)) (refused 5) ≡ then_part (past_space d)
unfolding namespace_of after_colon past_space all
past_is [] = refl
past_is (b ∷ l) = go (eqb b 0x3A) (namespace_byte b) refl (past_is l) where
  go : (t u : Bool) → namespace_byte b ≡ u
      → cond (all namespace_byte (namespace_of l) && begun (after_colon l) && all name_byte (after_colon l)) (accepted (after_colon l)) (refused 5) ≡ then_part (past_space l)
      → cond (all namespace_byte (cond t [] (b ∷ namespace_of l)) && begun (cond t l (after_colon l)) && all name_byte (cond t l (after_colon l))) (accepted (cond t l (after_colon l))) (refused 5)
      ≡ then_part (cond t (accepted l) (cond u (past_space l) (refused 5)))
  go true u q h = refl
  go false true q h = rw q h
  go false false q h = rw q

module _ (d : List ℕ) where
  pub form_1 : begun (namespace_of d) ≡ false → refused 5 ≡ form_of d
  unfolding form_of form_ok
  form_1 h = rw h

  module _ (h : begun (namespace_of d) ≡ true) (raw : List ℕ) (f : Option Position) (ef : part_after raw f ≡ past_space d) where
    split : then_part (part_after raw f) ≡ form_of d
    unfolding form_of form_ok
    split = ap then_part ef ∙ sym (rw h (past_is d))

    pub form_2 : f ≡ None → refused 5 ≡ form_of d
    form_2 e = sym (ap (λ (g : Option Position). then_part (part_after raw g)) e) ∙ split

    module _ (p : Position) (e : f ≡ Some p) where
      part : then_part (accepted (stream raw p)) ≡ form_of d
      part = sym (ap (λ (g : Option Position). then_part (part_after raw g)) e) ∙ split

      pub form_3 : begun (stream raw p) ≡ false → refused 5 ≡ form_of d
      form_3 b = sym (rw b) ∙ part

      module _ (b : begun (stream raw p) ≡ true) where
        pub form_4 : all name_byte (stream raw p) ≡ false → refused 5 ≡ form_of d
        form_4 n = sym (rw (b, n)) ∙ part

        pub form_5 : all name_byte (stream raw p) ≡ true → accepted (stream raw p) ≡ form_of d
        form_5 n = sym (rw (b, n)) ∙ part
