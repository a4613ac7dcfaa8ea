-- Document 01, "The listing": "The program reads D on standard input's first line (1 to 20 digits and a line feed), then the
-- metadata; any other first line prints `refused 1`".
use Rattle.std.specs.Prelude.{ℕ, ◌+◌, ◌-◌, ◌^◌, Bool, ◌&&◌, cond, List, take, leb, eqb, None, Option, Some}
use Rattle.json_blocks.specs.TextBytes.{byte, within}
use Rattle.json_tokens.specs.Number.{skip_digits}
use Rattle.refusals.specs.Answer.{Answer, accepted, refused}
use Rattle.decimal.specs.Decimal.{number_of}

-- how many digits the input begins with, and the number that they write
abbrev pub digit_count : List ℕ → ℕ
digit_count s = skip_digits s 0

abbrev pub leading_number : List ℕ → ℕ
leading_number s = number_of (take (digit_count s) s)

-- "1 to 20 digits and a line feed"; D is a u64
unfoldable pub is_first_line : List ℕ → Bool
is_first_line s = within 1 20 (digit_count s) && eqb (byte s (digit_count s)) 0x0A && leb (leading_number s) (2 ^ 64 - 1)

-- D, and the place past the line feed, where the metadata begin
pub record Line : Type 0 where
  pub size : ℕ
  pub rest : ℕ

abbrev pub line : ℕ → ℕ → Line
line d at = record { size = d; rest = at }

-- "any other first line prints `refused 1`"
unfoldable pub first_line : List ℕ → Answer Line
first_line s = cond (is_first_line s) (accepted (line (leading_number s) (digit_count s + 1))) (refused 1)

-- what an answer says
abbrev pub line_says : Option (ℕ × ℕ) → Answer Line
line_says (Some (d, at)) = accepted (line d at)
line_says None = refused 1
