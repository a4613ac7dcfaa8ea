-- What the answer of a name's judge says.
use mathlib.Core.Path.{◌≡◌, refl}
use mathlib.Core.Bool.{Bool, true, false, cond}
use mathlib.Core.List.{List}
use Prim.Native.Nat.{ℕ}
use Rattle.refusals.specs.Answer.{accepted, refused}
use Rattle.sigmf_texts.specs.Form.{after_colon, form_ok, form_of}

pub formed : (d l : List ℕ) → accepted l ≡ form_of d → form_ok d ≡ true
unfolding form_of
formed d l e = go (form_ok d) refl e where
  go : (t : Bool) → form_ok d ≡ t → accepted l ≡ cond t (accepted (after_colon d)) (refused 5) → form_ok d ≡ true
  go true q h = q
  go false q h = cc

pub unformed : (d : List ℕ) → refused 5 ≡ form_of d → form_ok d ≡ false
unfolding form_of
unformed d e = go (form_ok d) refl e where
  go : (t : Bool) → form_ok d ≡ t → refused 5 ≡ cond t (accepted (after_colon d)) (refused 5) → form_ok d ≡ false
  go true q h = cc
  go false q h = q
