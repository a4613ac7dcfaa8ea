-- What is gathered does not depend on how many steps are allowed, once they are enough.
use mathlib.Core.Path.{◌≡◌, refl, sym, ap}
use mathlib.Core.List.{List, [], ◌∷◌}
use Prim.Native.Nat.{ℕ, zero, suc, ◌<◌, ◌-◌}
use native.Mathlib.Omega.{arith}
use lib.ListN.{length}
use Rattle.json_blocks.specs.Turns.{on}
use Rattle.json_blocks.proofs.TurnLaws.{Advances, run_out, run_on}
use Rattle.json_walk.specs.Gather.{GatherStep, found, stop, after_step, gather_steps, gather, end_turn, gather_end}

-- each step that finds something passes a byte of s
abbrev pub Steps : {A : Type 0} → List ℕ → (ℕ → GatherStep A) → Type 0
Steps {A} s step = (i : ℕ) (a : A) (j : ℕ) → step i ≡ found a j → (i < j) × (i < length s)

module _ {A : Type 0} (s : List ℕ) (step : ℕ → GatherStep A) where
  pub gather_stop : (i : ℕ) → step i ≡ stop → gather s step i ≡ []
  unfolding gather gather_steps
  gather_stop i e = rw e

  pub end_stop : (i : ℕ) → step i ≡ stop → gather_end s step i ≡ i
  unfolding gather_end
  end_stop i e = sym (run_out s 0 (λ k. end_turn k (step k)) i i (rw e))

  module _ (adv : Steps s step) where
    both : (n m : ℕ) (t : GatherStep A) → ((a : A) (j : ℕ) → t ≡ found a j → gather_steps step n j ≡ gather_steps step m j)
        → after_step t (λ j. gather_steps step n j) ≡ after_step t (λ j. gather_steps step m j)
    both n m (found a j) h = ap (λ (l : List A). a ∷ l) (h a j refl)
    both n m stop h = refl

    same : (n m i : ℕ) → length s - i < n → length s - i < m → gather_steps step n i ≡ gather_steps step m i
    unfolding gather_steps
    same zero m i h k = absurd (omega arith)
    same (suc n) zero i h k = absurd (omega arith)
    same (suc n) (suc m) i h k =
        both n m (step i)
        (λ a j e. let p = (adv i a j e).0 in let q = (adv i a j e).1 in same n m j (omega arith) (omega arith))

    pub gather_found : (i : ℕ) (a : A) (j : ℕ) → step i ≡ found a j → gather s step i ≡ a ∷ gather s step j
    unfolding gather gather_steps
    gather_found i a j e =
        let p = (adv i a j e).0 in
        let q = (adv i a j e).1 in
        rw e (ap (λ (l : List A). a ∷ l) (same (length s) (suc (length s)) j (omega arith) (omega arith)))

    end_advances : Advances s (λ k. end_turn k (step k))
    end_advances i j e = go (step i) refl e where
      go : (t : GatherStep A) → step i ≡ t → end_turn i t ≡ on j → (i < j) × (i < length s)
      go (found a k) p h = let f : k ≡ j = cc in rw f at (adv i a k p)
      go stop p h = let z : ◌≡◌ {A = ℕ} 0 1 = cc in absurd (omega arith)

    pub end_found : (i : ℕ) (a : A) (j : ℕ) → step i ≡ found a j → gather_end s step i ≡ gather_end s step j
    unfolding gather_end
    end_found i a j e = sym (run_on s 0 (λ k. end_turn k (step k)) end_advances i j (rw e))
