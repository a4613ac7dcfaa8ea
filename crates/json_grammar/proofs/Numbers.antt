-- Numbers: what the reader finds is a number, and a number that ends before a byte that no number goes on with is found.
use mathlib.Core.Path.{◌≡◌, refl, sym, ap}
use mathlib.Core.Bool.{false}
use mathlib.Core.List.{List, ◌∷◌, ◌++◌}
use Prim.Native.Nat.{ℕ, ◌<◌, ◌+◌}
use native.Mathlib.Omega.{arith}
use lib.Dec.{eqb}
use borrow.Author.Tests.{eq-eqb, ne_eqb, eqb-true, eqb-false}
use Rattle.json_blocks.specs.TextBytes.{byte, to, and_then}
use Rattle.json_tokens.specs.Number.{digit, digits_at, integer_at, fraction_at, skip_sign, exponent_at, skip_minus, number_at}
use Rattle.json_blocks.proofs.ByteLaws.{cond_elim, within_below, within_above}
use Rattle.json_grammar.specs.Grammar.{Between, Digit, Digits, Minus, no_minus, minus, Integer, zero_alone, leading, Fraction, no_fraction, fraction}
use Rattle.json_grammar.specs.Grammar.{Sign, no_sign, plus_sign, minus_sign, Exponent, no_exponent, small_e, capital_e, Number, number}
use Rattle.json_grammar.specs.Stands.{Stands, Ends}
use Rattle.json_grammar.proofs.Stands.{stands_none, stands_join, stands_head, stands_tail, stands_left, stands_right}
use Rattle.json_grammar.proofs.Derived.{Derived, derived, derived_cons, derived_after, stands_here, stands_cons, stands_nil, stands_next}
use Rattle.json_grammar.proofs.Derived.{Got, not_got, got_to_lem, got_map, got_then}
use Rattle.json_grammar.proofs.Skips.{between_is, is_between, digits_sound, digits_complete}

-- ---- sound
module _ (s : List ℕ) (i : ℕ) where
  some_sound : (P : List ℕ → Type 0) → ((ds : List ℕ) → Digit (byte s i) → Digits ds → P (byte s i ∷ ds)) → Got (Derived P s i) (digits_at s i)
  unfolding digits_at
  some_sound P f = cond_elim (Got (Derived P s i)) (digit (byte s i)) _ _ (λ e. got_to_lem (go (between_is e) (digits_sound s (i + 1)))) (λ e. not_got)
    where
      go : {j : ℕ} → Digit (byte s i) → Derived Digits s (i + 1) j → Derived P s i j
      go d (derived {xs = ds} p q) = derived (f ds d p) (stands_cons refl (omega (arith, d.low)) q)

  integer_sound : Got (Derived Integer s i) (integer_at s i)
  unfolding integer_at
  integer_sound =
      cond_elim (Got (Derived Integer s i)) (eqb (byte s i) 0x30) _ _ (λ e. got_to_lem (derived zero_alone (stands_here (eqb-true _ _ e) (omega arith))))
      (λ e. let g = eqb-false (byte s i) 0x30 e in some_sound Integer (λ ds d p. leading (omega arith) p))

  minus_sound : Derived Minus s i (skip_minus s i)
  unfolding skip_minus
  minus_sound =
      cond_elim (Derived Minus s i) (eqb (byte s i) 0x2D) _ _ (λ e. derived minus (stands_here (eqb-true _ _ e) (omega arith)))
      (λ e. derived no_minus (stands_none s i))

  sign_sound : Derived Sign s i (skip_sign s i)
  unfolding skip_sign
  sign_sound =
      cond_elim (Derived Sign s i) (eqb (byte s i) 0x2B) _ _ (λ e. derived plus_sign (stands_here (eqb-true _ _ e) (omega arith)))
      (λ _. cond_elim (Derived Sign s i) (eqb (byte s i) 0x2D) _ _ (λ e. derived minus_sign (stands_here (eqb-true _ _ e) (omega arith)))
      (λ e. derived no_sign (stands_none s i)))

module _ (s : List ℕ) (i : ℕ) where
  fraction_sound : Got (Derived Fraction s i) (fraction_at s i)
  unfolding fraction_at
  fraction_sound =
      cond_elim (Got (Derived Fraction s i)) (eqb (byte s i) 0x2E) _ _
      (λ e. got_map (λ j p. derived_cons (eqb-true _ _ e) (omega arith) p) (some_sound s (i + 1) (λ xs. Fraction (0x2E ∷ xs)) (λ ds d p. fraction d p)))
      (λ e. got_to_lem (derived no_fraction (stands_none s i)))

  -- an `e` of one kind or the other, c
  after_e : (c : ℕ) → 0 < c → ((g ds : List ℕ) (b : ℕ) → Sign g → Digit b → Digits ds → Exponent (c ∷ (g ++ (b ∷ ds)))) → byte s i ≡ c
      → Got (Derived Exponent s i) (digits_at s (skip_sign s (i + 1)))
  after_e c h f e = go (sign_sound s (i + 1)) where
    go : {j : ℕ} → Derived Sign s (i + 1) j → Got (Derived Exponent s i) (digits_at s j)
    go {j} (derived {xs = g} p q) =
        got_map (λ k r. derived_cons e h (derived_after q r)) (some_sound s j (λ xs. Exponent (c ∷ (g ++ xs))) (λ ds d r. f g ds (byte s j) p d r))

  exponent_sound : Got (Derived Exponent s i) (exponent_at s i)
  unfolding exponent_at
  exponent_sound =
      cond_elim (Got (Derived Exponent s i)) (eqb (byte s i) 0x65) _ _ (λ e. after_e 0x65 (omega arith) (λ g ds b p d r. small_e p d r) (eqb-true _ _ e))
      (λ _. cond_elim (Got (Derived Exponent s i)) (eqb (byte s i) 0x45) _ _ (λ e. after_e 0x45 (omega arith) (λ g ds b p d r. capital_e p d r) (eqb-true _ _ e))
      (λ e. got_to_lem (derived no_exponent (stands_none s i))))

number_of : {s : List ℕ} {i j k l m : ℕ} → Derived Minus s i j → Derived Integer s j k → Derived Fraction s k l → Derived Exponent s l m → Derived Number s i m
number_of {s} (derived a p) (derived b q) (derived c r) (derived d t) = derived (number a b c d) (stands_join s p (stands_join s q (stands_join s r t)))

pub number_sound : (s : List ℕ) (i : ℕ) → Got (Derived Number s i) (number_at s i)
unfolding number_at
number_sound s i =
    got_then (λ k. and_then (fraction_at s k) (exponent_at s)) (integer_sound s (skip_minus s i))
    (λ k b. got_then (exponent_at s) (fraction_sound s k) (λ l c. got_map (λ m d. number_of (minus_sound s i) b c d) (exponent_sound s l)))

-- ---- complete
-- every byte below `.`: blanks, the comma, and the 0 past the end
pub ends_below : (b : ℕ) → b < 0x2E → Ends b
ends_below b h = record {
  not_digit = sym (within_below _ _ b (omega arith));
  not_point = omega arith;
  not_e = omega arith;
  not-E = omega arith;
}

module _ {s : List ℕ} {i j : ℕ} where
  some_complete : {b : ℕ} {ds : List ℕ} → Digit b → Digits ds → Stands s i (b ∷ ds) j → digit (byte s j) ≡ false → digits_at s i ≡ to j
  unfolding digits_at
  some_complete d p q e = rw (stands_head s q, is_between d, digits_complete p (stands_tail s q) e)

  integer_first : {n : List ℕ} → Integer n → Stands s i n j → Digit (byte s i)
  integer_first zero_alone q = rw (stands_head s q) (omega arith)
  integer_first (leading d p) q = rw (stands_head s q) (omega arith)

  minus_complete : {m : List ℕ} → Minus m → Stands s i m j → Digit (byte s j) → skip_minus s i ≡ j
  unfolding skip_minus
  minus_complete no_minus q d = let n = stands_nil q in let b = ap (byte s) n in rw (ne_eqb (byte s i) 0x2D (omega arith)) n
  minus_complete minus q d = rw (eq-eqb _ _ (stands_head s q)) (stands_next q)

  sign_complete : {g : List ℕ} → Sign g → Stands s i g j → Digit (byte s j) → skip_sign s i ≡ j
  unfolding skip_sign
  sign_complete no_sign q d =
      let n = stands_nil q in
      let b = ap (byte s) n in
      rw (ne_eqb (byte s i) 0x2B (omega arith), ne_eqb (byte s i) 0x2D (omega arith)) n
  sign_complete plus_sign q d = rw (eq-eqb _ _ (stands_head s q)) (stands_next q)
  sign_complete minus_sign q d = rw (stands_head s q) (stands_next q)

  integer_complete : {n : List ℕ} → Integer n → Stands s i n j → digit (byte s j) ≡ false → integer_at s i ≡ to j
  unfolding integer_at
  integer_complete zero_alone q e = rw (eq-eqb _ _ (stands_head s q), stands_next q)
  integer_complete (leading d p) q e =
      let h = stands_head s q in
      rw (ne_eqb (byte s i) 0x30 (omega arith)) (some_complete (omega arith) p q e)

  fraction_first : {f : List ℕ} → Fraction f → Stands s i f j → digit (byte s j) ≡ false → digit (byte s i) ≡ false
  fraction_first no_fraction q e = rw (stands_nil q) e
  fraction_first (fraction d p) q e = rw (stands_head s q) (sym (within_below 0x30 0x39 0x2E (omega arith)))

  exponent_first : {x : List ℕ} → Exponent x → Stands s i x j → Ends (byte s j) → (digit (byte s i) ≡ false) × (byte s i ≡ 0x2E → ⊥)
  exponent_first no_exponent q e = rw (stands_nil q) (e.not_digit, e.not_point)
  exponent_first (small_e p d r) q e = rw (stands_head s q) (within_above 0x30 0x39 0x65 (omega arith), omega arith)
  exponent_first (capital_e p d r) q e = rw (stands_head s q) (within_above 0x30 0x39 0x45 (omega arith), omega arith)

module _ {s : List ℕ} {i j : ℕ} where
  fraction_complete : {f : List ℕ} → Fraction f → Stands s i f j → digit (byte s j) ≡ false → (byte s j ≡ 0x2E → ⊥) → fraction_at s i ≡ to j
  unfolding fraction_at
  fraction_complete no_fraction q e h = rw (stands_nil q, ne_eqb _ _ h)
  fraction_complete (fraction d p) q e h = rw (eq-eqb _ _ (stands_head s q)) (some_complete d p (stands_tail s q) e)

  after_e_complete : {c b : ℕ} (g : List ℕ) {ds : List ℕ} → Sign g → Digit b → Digits ds → Stands s i (c ∷ (g ++ (b ∷ ds))) j → digit (byte s j) ≡ false
      → digits_at s (skip_sign s (i + 1)) ≡ to j
  after_e_complete {c} {b} g {ds} p d r q e =
      let t = stands_right s g (b ∷ ds) (stands_tail s q) in
      rw (sign_complete p (stands_left s g (b ∷ ds) (stands_tail s q)) (rw (stands_head s t) d)) (some_complete d r t e)

  exponent_complete : {x : List ℕ} → Exponent x → Stands s i x j → Ends (byte s j) → exponent_at s i ≡ to j
  unfolding exponent_at
  exponent_complete no_exponent q e = rw (stands_nil q, ne_eqb _ _ e.not_e, ne_eqb _ _ e.not-E)
  exponent_complete (small_e {g} p d r) q e = rw (eq-eqb _ _ (stands_head s q)) (after_e_complete g p d r q e.not_digit)
  exponent_complete (capital_e {g} p d r) q e = rw (stands_head s q) (after_e_complete g p d r q e.not_digit)

-- a number starts with a `-` or a digit
pub number_first : {s : List ℕ} {i j : ℕ} {x : List ℕ} → Number x → Stands s i x j → Between 0x2D 0x39 (byte s i)
number_first {s} (number {i = n} {f} {e} no_minus b c d) q = let h = integer_first b (stands_left s n (f ++ e) q) in omega arith
number_first {s} (number minus b c d) q = rw (stands_head s q) (omega arith)

-- a number is read where it stands, before a byte that ends it
pub number_complete : {s : List ℕ} {i j : ℕ} {x : List ℕ} → Number x → Stands s i x j → Ends (byte s j) → number_at s i ≡ to j
unfolding number_at
number_complete {s} {i} (number {m} {i = n} {f} {e = x} a b c d) q e =
    let q₁ = stands_right s m (n ++ (f ++ x)) q in
    let q₂ = stands_right s n (f ++ x) q₁ in
    let q₃ = stands_right s f x q₂ in
    let g = exponent_first d q₃ e in
    let p₁ = stands_left s n (f ++ x) q₁ in
    let p₂ = stands_left s f x q₂ in
    rw (minus_complete a (stands_left s m (n ++ (f ++ x)) q) (integer_first b p₁), integer_complete b p₁ (fraction_first c p₂ g.0), fraction_complete c p₂ g.0 g.1)
    (exponent_complete d q₃ e)
