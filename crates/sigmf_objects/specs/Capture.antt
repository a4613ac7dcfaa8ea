-- Document 01, "Fields": a capture, and refusals 5, 6, 7 and 11 as it gives cause for them. c is its members.
use Rattle.std.specs.Prelude.{Bool, true, false, List, [], ◌∷◌, ℕ}
use Rattle.std.proofs.Math.Option.{Option, none, some}
use Prim.Native.String.{String}
use Rattle.refusals.specs.Refusals.{Rule, rule, lowest}
use Rattle.sigmf_texts.specs.Texts.{value_text}
use Rattle.sigmf_datetimes.specs.Datetimes.{Moment, datetime_of}
use Rattle.sigmf_names.specs.Names.{capture_fields, field_number}
use Rattle.table.specs.declared.CaptureEntry.{CaptureEntry}
use Rattle.sigmf_objects.specs.declared.CaptureFound.{CaptureFound}
use Rattle.sigmf_objects.specs.Fields.{Value, Field, fields_at, close_at, value_in, given, uint_or, misnamed, missing, mistyped}

abbrev pub in_capture : String → List Field → Option Value
in_capture n c = value_in capture_fields (field_number capture_fields n) c

abbrev pub is_none : Option Moment → Bool
is_none none = true
is_none (some m) = false

-- 11: "a `core:datetime` breaks its rule"
abbrev pub breaks_rule : Option Value → Bool
breaks_rule v = given false (λ v. is_none (datetime_of (value_text v.part))) v

unfoldable pub bad_datetime : List Field → Bool
bad_datetime c = breaks_rule (in_capture "core:datetime" c)

abbrev pub capture_rules : List Field → List Rule
capture_rules c = rule 5 (misnamed c) ∷ rule 6 (missing capture_fields c) ∷ rule 7 (mistyped capture_fields c) ∷ rule 11 (bad_datetime c) ∷ []

-- "sample_start (required), .. header_bytes (0)"
abbrev pub capture_in : List Field → CaptureEntry
capture_in c = record { start = uint_or 0 (in_capture "core:sample_start" c); header = uint_or 0 (in_capture "core:header_bytes" c) }

-- the object at a place: the lowest number that it gives cause for, what it says, and where its closing brace stands
unfoldable pub read_capture : List ℕ → ℕ → CaptureFound
read_capture s at = record { low = lowest (capture_rules (fields_at s at)); entry = capture_in (fields_at s at); close = close_at s at }
