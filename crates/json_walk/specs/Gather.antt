-- What stands in a row in a text, as a list.
use Rattle.std.specs.Prelude.{List, [], ◌∷◌, ℕ, zero, suc, length}
use Rattle.json_blocks.specs.Turns.{Turn, on, out, run_text}

-- a thing and the place to go on at, or no more
pub data GatherStep (A : Type 0) : Type 0 where
  found : A → ℕ → GatherStep A
  stop : GatherStep A

abbrev pub after_step : {A : Type 0} → GatherStep A → (ℕ → List A) → List A
after_step (found a j) f = a ∷ f j
after_step stop f = []

-- at most n things
unfoldable pub gather_steps : {A : Type 0} → (ℕ → GatherStep A) → ℕ → ℕ → List A
gather_steps step zero at = []
gather_steps step (suc n) at = after_step (step at) (λ j. gather_steps step n j)

-- each step passes a byte of s
unfoldable pub gather : {A : Type 0} → List ℕ → (ℕ → GatherStep A) → ℕ → List A
gather s step at = gather_steps step (suc (length s)) at

-- on where a thing was found, or out where there is no more
abbrev pub end_turn : {A : Type 0} → ℕ → GatherStep A → Turn ℕ
end_turn at (found a j) = on j
end_turn at stop = out at

-- the place at which the walk of `gather` stops
unfoldable pub gather_end : {A : Type 0} → List ℕ → (ℕ → GatherStep A) → ℕ → ℕ
gather_end s step at = run_text s 0 (λ i. end_turn i (step i)) at
