-- Datetimes (document 01, "Fields", after source document 001). t is the decoded text.
use Rattle.json_strings.specs.declared.Position.{Position}
use Rattle.std.specs.Prelude.{Bool, true, false, cond, not, ◌&&◌, ◌||◌, List, [], ◌∷◌, ℕ, ◌+◌, ◌*◌, ◌-◌, ◌%◌, get_or, eqb, leb, None, Option, Some}
use Rattle.std.proofs.Math.Option.{Option as Maybe, none, some}
use Rattle.json_tokens.specs.Number.{digit}
use Rattle.json_strings.specs.Stream.{stream}
use Rattle.refusals.specs.Answer.{Answer, accepted, refused, or_refused}
use Rattle.sigmf_datetimes.specs.declared.Date.{Date}
use Rattle.sigmf_datetimes.specs.declared.Clock.{Clock}

-- what was read off the front of a text, and the rest of it; or that it is not there
pub data Got (A : Type 0) : Type 0 where
  got : A → List ℕ → Got A
  bad : Got A

abbrev pub then_got : {A B : Type 0} → Got A → (A → List ℕ → Got B) → Got B
then_got (got a l) f = f a l
then_got bad f = bad

-- two digits
unfoldable pub pair_of : List ℕ → Got ℕ
pair_of [] = bad
pair_of (a ∷ []) = bad
pair_of (a ∷ (b ∷ l)) = cond (digit a && digit b) (got ((a - 0x30) * 10 + (b - 0x30)) l) bad

-- n, with a mark after it
unfoldable pub mark_after : ℕ → ℕ → List ℕ → Got ℕ
mark_after mark n [] = bad
mark_after mark n (b ∷ l) = cond (eqb b mark) (got n l) bad

unfoldable pub pair_then : ℕ → List ℕ → Got ℕ
pair_then mark t = then_got (pair_of t) (mark_after mark)

-- `YYYY-MM-DDT`
unfoldable pub date_of : List ℕ → Got Date
date_of t =
    then_got (pair_of t) (λ c t. then_got (pair_then 0x2D t) (λ y t.
    then_got (pair_then 0x2D t) (λ m t. then_got (pair_then 0x54 t) (λ d t.
    got (record { year = c * 100 + y; month = m; day = d }) t))))

-- `HH:MM:SS`
unfoldable pub clock_of : List ℕ → Got Clock
clock_of t =
    then_got (pair_then 0x3A t) (λ h t. then_got (pair_then 0x3A t) (λ m t. then_got (pair_of t) (λ s t.
    got (record { hour = h; minute = m; second = s }) t)))

abbrev pub is_empty : List ℕ → Bool
is_empty [] = true
is_empty (b ∷ l) = false

abbrev pub starts_digit : List ℕ → Bool
starts_digit [] = false
starts_digit (b ∷ l) = digit b

-- digits, `Z` and no more
unfoldable pub zoned : List ℕ → Bool
zoned [] = false
zoned (b ∷ l) = cond (eqb b 0x5A) (is_empty l) (digit b && zoned l)

unfoldable pub leading_digits : List ℕ → List ℕ
leading_digits [] = []
leading_digits (b ∷ l) = cond (digit b) (b ∷ leading_digits l) []

-- "optionally `.` and one or more digits, then `Z`": the fraction's digits
unfoldable pub fraction_of : List ℕ → Maybe (List ℕ)
fraction_of [] = none
fraction_of (b ∷ l) =
    cond (eqb b 0x2E) (cond (starts_digit l && zoned l) (some (leading_digits l)) none)
    (cond (eqb b 0x5A && is_empty l) (some []) none)

-- "Gregorian month lengths"; "year 0000 is allowed and a leap year"
unfoldable pub leap : ℕ → Bool
leap y = eqb (y % 4) 0 && (not (eqb (y % 100) 0) || eqb (y % 400) 0)

unfoldable pub month_days : List ℕ
month_days = 0 ∷ 31 ∷ 28 ∷ 31 ∷ 30 ∷ 31 ∷ 30 ∷ 31 ∷ 31 ∷ 30 ∷ 31 ∷ 30 ∷ 31 ∷ []

-- the last day of a month of a year; 0 if there is no such month
unfoldable pub last_day : ℕ → ℕ → ℕ
last_day y m = cond (eqb m 2 && leap y) 29 (get_or month_days m 0)

unfoldable pub date_ok : Date → Bool
date_ok d = leb 1 d.day && leb d.day (last_day d.year d.month)

-- "hours to 23, minutes to 59; second 60 only at 23:59 on a month's last day"
unfoldable pub clock_ok : Bool → Clock → Bool
clock_ok last c =
    leb c.hour 23 && leb c.minute 59
    && (leb c.second 59 || eqb c.second 60 && eqb c.hour 23 && eqb c.minute 59 && last)

abbrev pub moment_ok : Date → Clock → Bool
moment_ok d c = date_ok d && clock_ok (eqb d.day (last_day d.year d.month)) c

-- a datetime by its parts; the fraction by its digits, none if there is none
pub record Moment : Type 0 where
  pub date : Date
  pub clock : Clock
  pub fraction : List ℕ

abbrev pub moment_of : Date → Clock → Maybe (List ℕ) → Maybe Moment
moment_of d c (some f) = cond (moment_ok d c) (some (record { date = d; clock = c; fraction = f })) none
moment_of d c none = none

abbrev pub with_clock : Date → Got Clock → Maybe Moment
with_clock d (got c t) = moment_of d c (fraction_of t)
with_clock d bad = none

abbrev pub with_date : Got Date → Maybe Moment
with_date (got d t) = with_clock d (clock_of t)
with_date bad = none

unfoldable pub datetime_of : List ℕ → Maybe Moment
datetime_of t = with_date (date_of t)

-- what an answer says of a text s: the fraction's digits are those that the decoded text from its position on begins with
-- 11: "a `core:datetime` breaks its rule"
abbrev pub datetime_says : List ℕ → Option (Date × Clock × Position) → Answer Moment
datetime_says s (Some (d, c, p)) = accepted (record { date = d; clock = c; fraction = leading_digits (stream s p) })
datetime_says s None = refused 11

abbrev pub datetime_answer : List ℕ → Answer Moment
datetime_answer t = or_refused 11 (datetime_of t)
