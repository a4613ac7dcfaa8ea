-- The whole text: from what its value tells to the answer.
use Rattle.std.specs.Prelude.{None, Option, Some, Ok, Err}
use mathlib.Core.Path.{◌≡◌, sym, ◌∙◌}
use mathlib.Core.Bool.{Bool, true, false}
use mathlib.Core.List.{List}
use Prim.Native.Nat.{ℕ, ◌≤◌, ◌<◌}
use lib.ListN.{length}
use borrow.Author.Tests.{lt-leb, le-leb}
use Rattle.limits.specs.Limits.{nesting}
use Rattle.refusals.specs.Refusals.{lowest}
use Rattle.json_blocks.specs.TextBytes.{skip_blanks}
use Rattle.json_blocks.specs.declared.Cursor.{Cursor}
use Rattle.json_grammar.specs.ByPlace.{value_at, is_json}
use Rattle.json_judge.specs.declared.TextError.TheVariants.{NotJson, BadMembers}
use Rattle.json_judge.specs.MemberNames.{bad_members_at}
use Rattle.json_judge.specs.Judged.{judge_rules, refusal_of}
use Rattle.json_judge.specs.Pass.{scan_of}
use Rattle.json_judge.proofs.PassLaws.{scan_bad, scan_to}

module _ (s : List ℕ) (i : ℕ) (ei : i ≡ skip_blanks s 0) (r : Option (Cursor × Bool)) (er : r ≡ scan_of (value_at nesting s i) (bad_members_at nesting s i)) where
  pub judge_none : r ≡ None → refusal_of (Err NotJson) ≡ lowest (judge_rules s)
  unfolding lowest is_json
  judge_none h = rw (← ei, scan_bad (value_at nesting s i) (bad_members_at nesting s i) (sym h ∙ er))

  module _ (c : Cursor) (bad : Bool) (h : r ≡ Some (c, bad)) (at : ℕ) (ea : at ≡ skip_blanks s c.at) where
    value_is : value_at nesting s i ≡ Some c
    value_is = (scan_to (value_at nesting s i) (bad_members_at nesting s i) c bad (sym h ∙ er)).0

    bad_is : bad_members_at nesting s i ≡ bad
    bad_is = (scan_to (value_at nesting s i) (bad_members_at nesting s i) c bad (sym h ∙ er)).1

    pub judge_more : at < length s → refusal_of (Err NotJson) ≡ lowest (judge_rules s)
    unfolding lowest is_json
    judge_more l = rw (← ei, value_is, ← ea, lt-leb _ _ l)

    pub judge_bad : length s ≤ at → bad ≡ true → refusal_of (Err BadMembers) ≡ lowest (judge_rules s)
    unfolding lowest is_json
    judge_bad l b = rw (← ei, value_is, ← ea, le-leb _ _ l, bad_is, b)

    pub judge_good : length s ≤ at → bad ≡ false → refusal_of (Ok tt) ≡ lowest (judge_rules s)
    unfolding lowest is_json
    judge_good l b = rw (← ei, value_is, ← ea, le-leb _ _ l, bad_is, b)
