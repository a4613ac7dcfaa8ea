-- Digits.
use mathlib.Core.Path.{◌≡◌, refl}
use mathlib.Core.Bool.{false}
use Rattle.json_blocks.specs.TextBytes.{within}
use Rattle.json_tokens.specs.Number.{digit}

pub no_digit : digit 0 ≡ false
unfolding within
no_digit = refl
