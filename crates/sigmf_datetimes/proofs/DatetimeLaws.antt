-- Steps of the definitions of specs/Datetimes.antt, on plain variables.
use Rattle.std.specs.Prelude.{is_some, None, Option, Some}
use mathlib.Core.Path.{◌≡◌, refl}
use mathlib.Core.Bool.{Bool, true, false, not}
use mathlib.Core.List.{List, [], ◌∷◌}
use Prim.Native.Nat.{ℕ}
use Rattle.json_tokens.specs.Number.{digit}
use Rattle.json_strings.specs.declared.Position.{Position}
use Rattle.json_strings.specs.Stream.{next_byte, stream}
use Rattle.json_strings.proofs.DecodeLaws.{streamed_next, streamed_end}
use Rattle.sigmf_datetimes.specs.Datetimes.{bad, pair_of, is_empty, leading_digits}

-- a text ends where it has no next byte
pub end_is : (s : List ℕ) (p : Position) (g : Option (ℕ × Position)) (r : Bool) → g ≡ next_byte s p → is_some g ≡ not r → r ≡ is_empty (stream s p)
end_is s p None r e h = rw (streamed_end s p None e refl) (go r h) where
  go : (r : Bool) → false ≡ not r → r ≡ true
  go true h = refl
  go false h = h
end_is s p (Some (b, q)) r e h = rw (streamed_next s p _ e b q refl) (go r h) where
  go : (r : Bool) → true ≡ not r → r ≡ false
  go true h = h
  go false h = refl

pub no_digits : (y : List ℕ) → is_empty y ≡ true → leading_digits y ≡ []
unfolding leading_digits
no_digits [] e = refl
no_digits (b ∷ l) e = cc

-- one byte that is no digit
pub pair_first : (b : ℕ) (y : List ℕ) → digit b ≡ false → bad ≡ pair_of (b ∷ y)
unfolding pair_of
pair_first b [] e = refl
pair_first b (c ∷ l) e = rw e
