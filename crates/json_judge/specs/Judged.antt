-- A whole text: refusals 2 and 3 of document 01.
use Rattle.std.specs.Prelude.{Bool, not, List, [], ◌∷◌, ℕ, Result, Ok, Err, ⊤}
use Rattle.limits.specs.Limits.{nesting}
use Rattle.refusals.specs.Refusals.{Rule, rule}
use Rattle.json_blocks.specs.TextBytes.{skip_blanks}
use Rattle.json_grammar.specs.ByPlace.{is_json}
use Rattle.json_judge.specs.MemberNames.{bad_members_at}
use Rattle.json_judge.specs.declared.TextError.{TextError}
use Rattle.json_judge.specs.declared.TextError.TheVariants.{NotJson, BadMembers}

-- 2: "not one JSON value in valid UTF-8, or nested beyond 32"
abbrev pub not_json : List ℕ → Bool
not_json s = not (is_json s)

-- 3: "some object, however deep, has a name twice or over 256 members"
abbrev pub bad_members : List ℕ → Bool
bad_members s = bad_members_at nesting s (skip_blanks s 0)

abbrev pub judge_rules : List ℕ → List Rule
judge_rules s = rule 2 (not_json s) ∷ rule 3 (bad_members s) ∷ []

-- document 01's number for each answer
abbrev pub refusal_of : Result ⊤ TextError → ℕ
refusal_of (Ok _) = 0
refusal_of (Err NotJson) = 2
refusal_of (Err BadMembers) = 3
