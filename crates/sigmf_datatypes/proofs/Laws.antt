-- Laws of the table of datatypes, each a test computed over its rows.
use Prim.Native.Nat.{ℕ, zero, suc, ◌*◌, ◌≤◌, ◌<◌}
use mathlib.Core.Path.{◌≡◌, refl}
use mathlib.Core.Bool.{Bool, true, false}
use mathlib.Core.List.{List, [], ◌∷◌}
use native.Mathlib.Omega.{arith}
use native.Mathlib.Nat.{mul-le-mul, mul-pos}
use native.Mathlib.Decide.{dec_le}
use mir.Syntax.{w64}
use mir.Val.{Fits}
use lib.ListN.{length, get_or, get_or-eq_default}
use lib.Dec.{leb}
use borrow.Author.Tests.{le-ltb, lt-ltb, leb-true, ltb-true}
use Rattle.limits.specs.Limits.{channels}
use Rattle.json_blocks.specs.Lists.{all}
use Rattle.json_blocks.proofs.BlockLaws.{and_left, and_right}
use Rattle.sigmf_datatypes.specs.Datatypes.{Datatype, datatypes, twelve, is_listed, datatype_of, datatype_name, no_datatype, channel_bytes, width_of}

-- a test that passes at every item passes at item k
pub all_at_lem : {A : Type 0} (f : A → Bool) (xs : List A) (k : ℕ) (z : A) → all f xs ≡ true → k < length xs → f (get_or xs k z) ≡ true
unfolding all
all_at_lem f [] k z e h = absurd (omega arith)
all_at_lem f (x ∷ t) zero z e h = and_left (f x) (all f t) e
all_at_lem f (x ∷ t) (suc k) z e h = all_at_lem f t k z (and_right (f x) (all f t) e) (omega arith)

-- a test that every row passes, and the row of an unlisted code too, is passed at every code
pub at_every : (f : Datatype → Bool) → all f datatypes ≡ true → f no_datatype ≡ true → (c : ℕ) → f (datatype_of c) ≡ true
unfolding datatype_of
at_every f e z c = elim (dec_le (length datatypes) c) [ yes h ↦ rw (get_or-eq_default datatypes no_datatype h) z | no h ↦ all_at_lem f datatypes c no_datatype e (omega arith) ]

-- the code's count is the list's length
abbrev pub count : ℕ
count = 28

pub counted : count ≡ length datatypes
unfolding datatypes twelve
counted = refl

-- a listed code is below the list's length
pub listed_below : (c : ℕ) → is_listed c ≡ true → c < length datatypes
unfolding is_listed
listed_below c e = ltb-true c (length datatypes) e

-- a sample of one channel has at least one byte, and at most two components of eight
pub unit_least : (c : ℕ) → is_listed c ≡ true → 1 ≤ channel_bytes (datatype_of c)
unfolding datatype_of datatypes twelve all
unit_least c e = leb-true 1 (channel_bytes (datatype_of c)) (all_at_lem (λ (d : Datatype). leb 1 (channel_bytes d)) datatypes c _ refl (listed_below c e))

pub unit_most : (c : ℕ) → channel_bytes (datatype_of c) ≤ 16
unfolding datatypes twelve all
unit_most c = leb-true (channel_bytes (datatype_of c)) 16 (at_every (λ (d : Datatype). leb (channel_bytes d) 16) refl refl c)

-- request P4: "W may now reach 16,384"
pub width_most : (c n : ℕ) → n ≤ channels → width_of c n ≤ 16384
unfolding width_of
width_most c n h = mul-le-mul (unit_most c) h

-- W of a listed code and an allowed number of channels is at least 1
pub width_least : (c n : ℕ) → is_listed c ≡ true → 1 ≤ n → 1 ≤ width_of c n
unfolding width_of
width_least c n e h = mul-pos (unit_least c e) h

-- ---- the answers
module _ (c : ℕ) where
  pub unlisted : count ≤ c → is_listed c ≡ false
  unfolding is_listed
  unlisted h = rw (← counted) (le-ltb _ _ h)

  pub is_listed_lem : c < count → is_listed c ≡ true
  unfolding is_listed
  is_listed_lem h = rw (← counted) (lt-ltb _ _ h)

-- W is a number of 64 bits
pub width_fits : (c n u : ℕ) → u ≡ channel_bytes (datatype_of c) → n ≤ channels → Fits w64 (u * n)
unfolding width_of
width_fits c n u e h = rw e (omega (arith, width_most c n h))

-- ---- the code's table

-- a code past the list's end has the empty row
pub entry_none : (c : ℕ) → count ≤ c → datatype_of c ≡ no_datatype
unfolding datatype_of
entry_none c h = get_or-eq_default datatypes no_datatype (rw (← counted) h)

-- no name has more than 8 bytes, and no component
pub name_most : (c : ℕ) → length (datatype_name c) ≤ 8
unfolding datatypes twelve all
name_most c = leb-true (length (datatype_name c)) 8 (at_every (λ (d : Datatype). leb (length d.name) 8) refl refl c)

pub component_most : (c : ℕ) → (datatype_of c).bytes ≤ 8
unfolding datatypes twelve all
component_most c = leb-true (datatype_of c).bytes 8 (at_every (λ (d : Datatype). leb d.bytes 8) refl refl c)
