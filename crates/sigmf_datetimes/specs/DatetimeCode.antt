-- For the code: what its steps answer, and a date and a time of day whose bytes stand for themselves.
use Rattle.json_strings.specs.declared.Position.{Position}
use Rattle.std.specs.Prelude.{Bool, ◌&&◌, List, ℕ, ◌+◌, ◌*◌, ◌-◌, length, eqb, leb, None, Option, Some}
use Rattle.std.proofs.Math.Option.{Option as Maybe, none, some}
use Rattle.json_blocks.specs.TextBytes.{byte}
use Rattle.json_tokens.specs.Number.{digit}
use Rattle.json_strings.specs.Stream.{stream}
use Rattle.sigmf_datetimes.specs.declared.Date.{Date}
use Rattle.sigmf_datetimes.specs.declared.Clock.{Clock}
use Rattle.sigmf_datetimes.specs.Datetimes.{Got, got, bad, leading_digits}

-- ---- what answers say of a text s
abbrev pub pair_says : List ℕ → Option (ℕ × Position) → Got ℕ
pair_says s (Some (n, p)) = got n (stream s p)
pair_says s None = bad

abbrev pub date_says : List ℕ → Option (Date × Position) → Got Date
date_says s (Some (d, p)) = got d (stream s p)
date_says s None = bad

abbrev pub clock_says : List ℕ → Option (Clock × Position) → Got Clock
clock_says s (Some (c, p)) = got c (stream s p)
clock_says s None = bad

-- the fraction's digits are those at the position
abbrev pub fraction_says : List ℕ → Option Position → Maybe (List ℕ)
fraction_says s (Some p) = some (leading_digits (stream s p))
fraction_says s None = none

-- ---- at a place of a text s
unfoldable pub has_pair : List ℕ → ℕ → Bool
has_pair s at = digit (byte s at) && digit (byte s (at + 1))

unfoldable pub has_pair_then : ℕ → List ℕ → ℕ → Bool
has_pair_then mark s at = has_pair s at && eqb (byte s (at + 2)) mark

unfoldable pub pair_at : List ℕ → ℕ → ℕ
pair_at s at = (byte s at - 0x30) * 10 + (byte s (at + 1) - 0x30)

unfoldable pub has_date : List ℕ → ℕ → Bool
has_date s at =
    leb (at + 11) (length s) && has_pair s at && has_pair_then 0x2D s (at + 2) && has_pair_then 0x2D s (at + 5) && has_pair_then 0x54 s (at + 8)

unfoldable pub has_clock : List ℕ → ℕ → Bool
has_clock s at = leb (at + 8) (length s) && has_pair_then 0x3A s at && has_pair_then 0x3A s (at + 3) && has_pair s (at + 6)
