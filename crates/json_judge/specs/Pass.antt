-- For the code: what one pass tells, of a value, and of an array or object from past its opening byte.
use Rattle.json_blocks.specs.declared.Cursor.{Cursor}
use Rattle.std.specs.Prelude.{◌≡◌, Bool, false, List, ℕ, zero, suc, None, Option, Some}
use Rattle.json_blocks.specs.TextBytes.{skip_blanks}
use Rattle.json_grammar.specs.ByPlace.{group_at, member_at, value_at}
use Rattle.json_walk.specs.Members.{members_from, elements_from}
use Rattle.json_judge.specs.Stack.{FrontKept}
use Rattle.json_judge.specs.MemberNames.{bad_array, bad_object, bad_members_at}

-- a reading, and whether some object in what was read has bad members
abbrev pub scan_of : Option Cursor → Bool → Option (Cursor × Bool)
scan_of (Some c) bad = Some (c, bad)
scan_of None bad = None

unfoldable pub array_at : ℕ → List ℕ → ℕ → Option Cursor
array_at zero s at = None
array_at (suc d) s at = group_at (value_at d s) s 0x5D at

unfoldable pub object_at : ℕ → List ℕ → ℕ → Option Cursor
object_at zero s at = None
object_at (suc d) s at = group_at (member_at (value_at d s) s) s 0x7D at

unfoldable pub bad_array_at : ℕ → List ℕ → ℕ → Bool
bad_array_at zero s at = false
bad_array_at (suc d) s at = bad_array (bad_members_at d s) (elements_from s (skip_blanks s at))

unfoldable pub bad_object_at : ℕ → List ℕ → ℕ → Bool
bad_object_at zero s at = false
bad_object_at (suc d) s at = bad_object (bad_members_at d s) s (members_from s (skip_blanks s at))

abbrev pub value_scan : ℕ → List ℕ → ℕ → Option (Cursor × Bool)
value_scan d s at = scan_of (value_at d s at) (bad_members_at d s at)

abbrev pub array_scan : ℕ → List ℕ → ℕ → Option (Cursor × Bool)
array_scan d s at = scan_of (array_at d s at) (bad_array_at d s at)

abbrev pub object_scan : ℕ → List ℕ → ℕ → Option (Cursor × Bool)
object_scan d s at = scan_of (object_at d s at) (bad_object_at d s at)

-- a pass answers with what it is to tell, and leaves the names of the open objects as they were, in both memories
pub record Passed (used : ℕ) (tell : Option (Cursor × Bool)) (places keys : List ℕ) (r : Option (Cursor × Bool)) (places' keys' : List ℕ) : Type 0 where
  pub told : r ≡ tell
  pub places_kept : FrontKept used places places'
  pub keys_kept : FrontKept used keys keys'
