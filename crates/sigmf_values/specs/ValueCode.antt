-- For the code: a uint's digits from one of them on, and which of its answers hold a number.
use Rattle.std.specs.Prelude.{Bool, true, false, cond, ◌&&◌, List, ℕ, ◌^◌, ltb, None, Option, Some}
use Rattle.json_blocks.specs.Lists.{all, number_from}
use Rattle.json_tokens.specs.Number.{digit}

-- the number that the digits l write after those that make n
unfoldable pub digits_from : ℕ → List ℕ → Option ℕ
digits_from n l = cond (all digit l && ltb (number_from n l) (2 ^ 64)) (Some (number_from n l)) None

abbrev pub is_value : Option ℕ → Bool
is_value (Some n) = true
is_value None = false
