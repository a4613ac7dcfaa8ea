-- For the code: the names of the open objects, kept by place and key in lent memory.
use Rattle.std.specs.Prelude.{◌≡◌, Bool, true, false, cond, ◌||◌, List, [], ◌∷◌, ℕ, zero, suc, ◌+◌, ◌*◌, ◌-◌, ◌≤◌, ◌<◌, min, length, get_or, take, drop, set, eqb, leb, None, Option, Some}
use Rattle.limits.specs.Limits.{members}
use Rattle.json_strings.specs.Decode.{decoded_from}
use Rattle.json_names.specs.Keys.{key_of, second_key_of}
use Rattle.json_judge.specs.declared.Names.{Names}
use Rattle.json_judge.specs.MemberNames.{has_name}

-- a key is among the keys
unfoldable pub has_key : ℕ → List ℕ → Bool
has_key key [] = false
has_key key (k ∷ l) = eqb k key || has_key key l

-- the n names from a base on, the last one first
unfoldable pub names_on : List ℕ → List ℕ → ℕ → ℕ → List (List ℕ)
names_on s places base zero = []
names_on s places base (suc n) = decoded_from s (get_or places (base + n) 0) ∷ names_on s places base n

-- the key kept for a name after those kept before: its key, or its second one where its key is among them
unfoldable pub kept_key : List ℕ → List ℕ → ℕ
kept_key before x = cond (has_key (key_of x) before) (second_key_of x) (key_of x)

-- one of a name's keys
pub data IsKey (x : List ℕ) : ℕ → Type 0 where
  first_key : IsKey x (key_of x)
  second_key : IsKey x (second_key_of x)

-- each of them has its key
unfoldable pub KeysAgree : List ℕ → List ℕ → List ℕ → ℕ → ℕ → Type 0
KeysAgree s places keys base n =
    (k : ℕ) → k < n → get_or keys (base + k) 0 ≡ kept_key (take k (drop base keys)) (decoded_from s (get_or places (base + k) 0))

-- a name is among the n from a base on, or the key to keep for it
unfoldable pub fresh_key : List ℕ → ℕ → List ℕ → List ℕ → ℕ → ℕ → Option ℕ
fresh_key s at places keys base n =
    cond (has_name (decoded_from s at) (names_on s places base n)) None (Some (kept_key (take n (drop base keys)) (decoded_from s at)))

-- a name is kept: it is counted and stands on top with its key; or it is not, and nothing changes but what is noted
unfoldable pub refuses : List ℕ → List ℕ → ℕ → ℕ → ℕ → Bool
refuses s places base n at = leb members n || has_name (decoded_from s at) (names_on s places base n)

pub data NameKept (s : List ℕ) (at base : ℕ) (names : Names) (places keys : List ℕ) : Names → List ℕ → List ℕ → Type 0 where
  kept : refuses s places base names.count at ≡ false
      → NameKept s at base names places keys (record { count = names.count + 1; bad = names.bad })
      (set places (base + names.count) at) (set keys (base + names.count) (kept_key (take names.count (drop base keys)) (decoded_from s at)))
  refused : refuses s places base names.count at ≡ true
      → NameKept s at base names places keys (record { count = names.count; bad = true }) places keys

-- the first elements are as they were
pub record FrontKept (used : ℕ) (old new : List ℕ) : Type 0 where
  pub same : take used new ≡ take used old
  pub long : length new ≡ length old

-- Room for the names that an array or object can have open at once, from past its opening byte on: those of d levels, and at
-- most one for each four bytes, since a member takes that many.
abbrev pub NamesRoom : ℕ → List ℕ → ℕ → ℕ → ℕ → Type 0
NamesRoom d s at used room = 4 * used + min (4 * (members * d)) (length s + 1 - at) ≤ 4 * room
