-- The names of datatypes, each a test computed for all codes.
use mathlib.Core.Path.{◌≡◌, refl, ap, ◌∙◌}
use mathlib.Core.Bool.{Bool, true, false, ◌&&◌}
use Prim.Native.Nat.{ℕ, zero, suc, ◌<◌}
use native.Mathlib.Omega.{arith}
use lib.ListN.{length}
use lib.Dec.{eqb}
use borrow.Author.Tests.{eqb-true, eqb-false}
use Rattle.json_blocks.specs.TextBytes.{within}
use Rattle.json_blocks.specs.Lists.{all}
use Rattle.json_names.specs.Same.{same}
use Rattle.sigmf_datatypes.specs.Datatypes.{Datatype, is_listed, datatypes, twelve, datatype_of, datatype_name}
use Rattle.sigmf_datatypes.proofs.Laws.{at_every, listed_below}
use Rattle.sigmf_texts.specs.Lookup.{index_in}
use Rattle.sigmf_texts.specs.Texts.{code_of}
use Rattle.table.proofs.Bools.{and_left, and_right}
use Rattle.claims_written.proofs.Derivations.{ordinary}

-- the test passes below n
unfoldable below : (ℕ → Bool) → ℕ → Bool
below f zero = true
below f (suc n) = f n && below f n

below_at : (f : ℕ → Bool) (n k : ℕ) → below f n ≡ true → k < n → f k ≡ true
unfolding below
below_at f zero k e h = absurd (omega arith)
below_at f (suc n) k e h = go (eqb k n) refl (λ l. below_at f n k (and_right (f n) (below f n) e) l) where
  go : (b : Bool) → eqb k n ≡ b → (k < n → f k ≡ true) → f k ≡ true
  go true q g = ap f (eqb-true k n q) ∙ and_left (f n) (below f n) e
  go false q g = g (let z = eqb-false k n q in omega arith)

pub name_plain : (c : ℕ) → all ordinary (datatype_name c) ≡ true
unfolding datatypes twelve all ordinary within
name_plain c = at_every (λ (d : Datatype). all ordinary d.name) refl refl c

pub code_back : (c : ℕ) → is_listed c ≡ true → code_of (datatype_name c) ≡ c
unfolding datatypes twelve datatype_of below index_in same
code_back c h = eqb-true _ _ (below_at (λ k. eqb (code_of (datatype_name k)) k) (length datatypes) c refl (listed_below c h))
