-- Document 01, refusal 3: "some object, however deep, has a name twice or over 256 members". "Names [..] are judged after
-- escapes are decoded".
use Rattle.std.specs.Prelude.{Bool, false, cond, ◌||◌, List, [], ◌∷◌, map, ℕ, zero, suc, length, eqb, ltb}
use Rattle.limits.specs.Limits.{members}
use Rattle.json_blocks.specs.TextBytes.{byte}
use Rattle.json_blocks.specs.Lists.{any}
use Rattle.json_strings.specs.Decode.{decoded_from}
use Rattle.json_names.specs.Same.{same}
use Rattle.json_walk.specs.declared.Member.{Member}
use Rattle.json_walk.specs.declared.Element.{Element}
use Rattle.json_walk.specs.Members.{members_at, elements_at}

-- a member's name, decoded
abbrev pub decoded_name : List ℕ → Member → List ℕ
decoded_name s m = decoded_from s m.name

unfoldable pub has_name : List ℕ → List (List ℕ) → Bool
has_name x [] = false
has_name x (y ∷ l) = same x y || has_name x l

-- one of the names stands among those before it
unfoldable pub repeated : List (List ℕ) → List (List ℕ) → Bool
repeated seen [] = false
repeated seen (n ∷ l) = has_name n seen || repeated (n ∷ seen) l

-- a name twice, or over 256 members
unfoldable pub bad_names : List (List ℕ) → Bool
bad_names names = repeated [] names || ltb members (length names)

-- an object has such names, or one of its values has such an object in it
abbrev pub bad_object : (ℕ → Bool) → List ℕ → List Member → Bool
bad_object bad s ms = bad_names (map (decoded_name s) ms) || any (λ m. bad m.value) ms

abbrev pub bad_array : (ℕ → Bool) → List Element → Bool
bad_array bad es = any (λ e. bad e.at) es

-- the value at a place, which nests at most d deep, has such an object in it
unfoldable pub bad_members_at : ℕ → List ℕ → ℕ → Bool
bad_members_at zero s at = false
bad_members_at (suc d) s at =
    cond (eqb (byte s at) 0x5B) (bad_array (bad_members_at d s) (elements_at s at))
    (cond (eqb (byte s at) 0x7B) (bad_object (bad_members_at d s) s (members_at s at)) false)
