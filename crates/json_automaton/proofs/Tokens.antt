-- What a token may become with one byte more, and what that costs: one law for each row of the table of token_moves.
use mathlib.Core.Path.{◌≡◌, refl, subst}
use mathlib.Core.Bool.{Bool, true, false, ◌&&◌, ◌||◌}
use mathlib.Core.List.{List, [], ◌∷◌}
use Prim.{Unit}
use Prim.Native.Nat.{ℕ, zero, suc, ◌≤◌, ◌<◌, ◌+◌}
use native.Mathlib.Omega.{arith}
use lib.ListN.{length, get_or}
use lib.Dec.{eqb, ltb, leb}
use borrow.Author.Tests.{leb-true, ltb-true}
use Rattle.json_blocks.specs.TextBytes.{within}
use Rattle.json_tokens.specs.Number.{digit}
use Rattle.json_characters.specs.String.{hex_value, short_escape}
use Rattle.json_blocks.proofs.ByteLaws.{cond_elim}
use Rattle.json_automaton.specs.Token.{bad, byte_move, is_move, hex_move, low_move, wide_move, text_move, escape_move, first_hex_move, surrogate_move, minus_move, exponent_move, fraction_move, sign_move, token_moves, token_move}
use Rattle.json_automaton.specs.Reachable.{costs, cost}

-- from token k the token x costs at most one byte more, and a string stays one
fits : ℕ → ℕ → Bool
fits k x = eqb x bad || (leb x 37 && leb (cost x) (cost k + 1) && (ltb 20 k || leb x 20))

module _ (k : ℕ) (bad-fits : fits k bad ≡ true) (b n : ℕ) (h : fits k n ≡ true) where
  byte_fits : (lo hi : ℕ) → fits k (byte_move lo hi n b) ≡ true
  unfolding byte_move
  byte_fits lo hi = cond_elim (λ x. fits k x ≡ true) (within lo hi b) _ _ (λ _. h) (λ _. bad-fits)

  is_fits : (w : ℕ) → fits k (is_move w n b) ≡ true
  unfolding is_move
  is_fits w = cond_elim (λ x. fits k x ≡ true) (eqb b w) _ _ (λ _. h) (λ _. bad-fits)

  hex_fits : fits k (hex_move n b) ≡ true
  unfolding hex_move
  hex_fits = cond_elim (λ x. fits k x ≡ true) (ltb 15 (hex_value b)) _ _ (λ _. bad-fits) (λ _. h)

  low_fits : (lo hi : ℕ) → fits k (low_move lo hi n b) ≡ true
  unfolding low_move
  low_fits lo hi = cond_elim (λ x. fits k x ≡ true) (within lo hi (hex_value b)) _ _ (λ _. h) (λ _. bad-fits)

module _ (b : ℕ) where
  wide_fits : fits 1 (wide_move b) ≡ true
  unfolding wide_move fits cost costs
  wide_fits =
      cond_elim P (within 0xC2 0xDF b) _ _ (λ _. refl)
      (λ _. cond_elim P (eqb b 0xE0) _ _ (λ _. refl)
      (λ _. cond_elim P (within 0xE1 0xEC b) _ _ (λ _. refl)
      (λ _. cond_elim P (eqb b 0xED) _ _ (λ _. refl)
      (λ _. cond_elim P (within 0xEE 0xEF b) _ _ (λ _. refl)
      (λ _. cond_elim P (eqb b 0xF0) _ _ (λ _. refl)
      (λ _. cond_elim P (within 0xF1 0xF3 b) _ _ (λ _. refl)
      (λ _. cond_elim P (eqb b 0xF4) _ _ (λ _. refl) (λ _. refl))))))))
    where
      P : ℕ → Type 0
      P x = fits 1 x ≡ true

  text_fits_lem : fits 1 (text_move b) ≡ true
  unfolding text_move fits cost costs
  text_fits_lem =
      cond_elim P (eqb b 0x22) _ _ (λ _. refl)
      (λ _. cond_elim P (ltb b 0x20) _ _ (λ _. refl)
      (λ _. cond_elim P (eqb b 0x5C) _ _ (λ _. refl)
      (λ _. cond_elim P (ltb b 0x80) _ _ (λ _. refl) (λ _. wide_fits))))
    where
      P : ℕ → Type 0
      P x = fits 1 x ≡ true

  escape_fits : fits 9 (escape_move b) ≡ true
  unfolding escape_move fits cost costs
  escape_fits =
      cond_elim (λ x. fits 9 x ≡ true) (short_escape b) _ _ (λ _. refl)
      (λ _. cond_elim (λ x. fits 9 x ≡ true) (eqb b 0x75) _ _ (λ _. refl) (λ _. refl))

  first_fits : fits 13 (first_hex_move b) ≡ true
  unfolding first_hex_move fits cost costs
  first_fits =
      cond_elim (λ x. fits 13 x ≡ true) (ltb 15 (hex_value b)) _ _ (λ _. refl)
      (λ _. cond_elim (λ x. fits 13 x ≡ true) (eqb (hex_value b) 13) _ _ (λ _. refl) (λ _. refl))

  surrogate_fits : fits 14 (surrogate_move b) ≡ true
  unfolding surrogate_move fits cost costs
  surrogate_fits =
      cond_elim (λ x. fits 14 x ≡ true) (ltb (hex_value b) 8) _ _ (λ _. refl)
      (λ _. cond_elim (λ x. fits 14 x ≡ true) (ltb (hex_value b) 12) _ _ (λ _. refl) (λ _. refl))

  minus_fits : fits 21 (minus_move b) ≡ true
  unfolding minus_move fits cost costs
  minus_fits = cond_elim (λ x. fits 21 x ≡ true) (eqb b 0x30) _ _ (λ _. refl) (λ _. byte_fits 21 refl b 23 refl 0x30 0x39)

  exponent_fits : (k : ℕ) → fits k bad ≡ true → fits k 26 ≡ true → fits k (exponent_move b) ≡ true
  unfolding exponent_move
  exponent_fits k h e = cond_elim (λ x. fits k x ≡ true) (eqb b 0x65) _ _ (λ _. e) (λ _. cond_elim (λ x. fits k x ≡ true) (eqb b 0x45) _ _ (λ _. e) (λ _. h))

  fraction_fits : (k : ℕ) → fits k bad ≡ true → fits k 24 ≡ true → fits k 26 ≡ true → fits k (fraction_move b) ≡ true
  unfolding fraction_move
  fraction_fits k h p e = cond_elim (λ x. fits k x ≡ true) (eqb b 0x2E) _ _ (λ _. p) (λ _. exponent_fits k h e)

  sign_fits : fits 26 (sign_move b) ≡ true
  unfolding sign_move fits cost costs
  sign_fits =
      cond_elim (λ x. fits 26 x ≡ true) (eqb b 0x2B) _ _ (λ _. refl)
      (λ _. cond_elim (λ x. fits 26 x ≡ true) (eqb b 0x2D) _ _ (λ _. refl) (λ _. byte_fits 26 refl b 28 refl 0x30 0x39))

-- each row, from row k on
Rows : ℕ → List ℕ → Type 0
Rows k [] = Unit {0}
Rows k (x ∷ l) = (fits k x ≡ true) × Rows (suc k) l

rows : (b : ℕ) → Rows 0 (token_moves b)
unfolding Rows token_moves fits cost costs
rows b = (
  refl,
  (
    text_fits_lem b,
    (
      byte_fits 2 refl b 1 refl 0x80 0xBF,
      (
        byte_fits 3 refl b 2 refl 0x80 0xBF,
        (
          byte_fits 4 refl b 3 refl 0x80 0xBF,
          (
            byte_fits 5 refl b 2 refl 0xA0 0xBF,
            (
              byte_fits 6 refl b 2 refl 0x80 0x9F,
              (
                byte_fits 7 refl b 3 refl 0x90 0xBF,
                (
                  byte_fits 8 refl b 3 refl 0x80 0x8F,
                  (
                    escape_fits b,
                    (
                      hex_fits 10 refl b 1 refl,
                      (
                        hex_fits 11 refl b 10 refl,
                        (
                          hex_fits 12 refl b 11 refl,
                          (
                            first_fits b,
                            (
                              surrogate_fits b,
                              (
                                hex_fits 15 refl b 16 refl,
                                (
                                  hex_fits 16 refl b 17 refl,
                                  (
                                    is_fits 17 refl b 18 refl 0x5C,
                                    (
                                      is_fits 18 refl b 19 refl 0x75,
                                      (
                                        low_fits 19 refl b 20 refl 13 13,
                                        (
                                          low_fits 20 refl b 11 refl 12 15,
                                          (
                                            minus_fits b,
                                            (
                                              fraction_fits b 22 refl refl refl,
                                              (
                                                cond_elim (λ x. fits 23 x ≡ true) (digit b) _ _ (λ _. refl) (λ _. fraction_fits b 23 refl refl refl),
                                                (
                                                  byte_fits 24 refl b 25 refl 0x30 0x39,
                                                  (
                                                    cond_elim (λ x. fits 25 x ≡ true) (digit b) _ _ (λ _. refl) (λ _. exponent_fits b 25 refl refl),
                                                    (
                                                      sign_fits b,
                                                      (
                                                        byte_fits 27 refl b 28 refl 0x30 0x39,
                                                        (
                                                          byte_fits 28 refl b 28 refl 0x30 0x39,
                                                          (
                                                            is_fits 29 refl b 30 refl 0x72,
                                                            (
                                                              is_fits 30 refl b 31 refl 0x75,
                                                              (
                                                                is_fits 31 refl b 0 refl 0x65,
                                                                (
                                                                  is_fits 32 refl b 33 refl 0x61,
                                                                  (
                                                                    is_fits 33 refl b 34 refl 0x6C,
                                                                    (
                                                                      is_fits 34 refl b 31 refl 0x73,
                                                                      (is_fits 35 refl b 36 refl 0x75, (is_fits 36 refl b 37 refl 0x6C, (is_fits 37 refl b 0 refl 0x6C, tt))),
                                                                    ),
                                                                  ),
                                                                ),
                                                              ),
                                                            ),
                                                          ),
                                                        ),
                                                      ),
                                                    ),
                                                  ),
                                                ),
                                              ),
                                            ),
                                          ),
                                        ),
                                      ),
                                    ),
                                  ),
                                ),
                              ),
                            ),
                          ),
                        ),
                      ),
                    ),
                  ),
                ),
              ),
            ),
          ),
        ),
      ),
    ),
  ),
)

row_at : (k : ℕ) (l : List ℕ) (t : ℕ) → Rows k l → fits (k + t) (get_or l t bad) ≡ true
unfolding Rows fits
row_at k [] t r = refl
row_at k (x ∷ l) zero r = subst (λ (n : ℕ). fits n x ≡ true) (omega arith) r.0
row_at k (x ∷ l) (suc t) r = subst (λ (n : ℕ). fits n (get_or l t bad) ≡ true) (omega arith) (row_at (suc k) l t r.1)

pub record Next (t x : ℕ) : Type 0 where
  pub known : x ≤ 37
  pub dearer : cost x ≤ cost t + 1
  pub string : t ≤ 20 → x ≤ 20

next_of : (t x : ℕ) → fits t x ≡ true → eqb x bad ≡ false → Next t x
unfolding fits
next_of t x e q = go (leb x 37) refl (leb (cost x) (cost t + 1)) refl (ltb 20 t) refl (leb x 20) refl (rw q at e) where
  go : (a : Bool) → leb x 37 ≡ a → (b : Bool) → leb (cost x) (cost t + 1) ≡ b → (c : Bool) → ltb 20 t ≡ c → (d : Bool) → leb x 20 ≡ d
      → (a && b && (c || d)) ≡ true → Next t x
  go true ea true eb true ec d ed e =
      let l : 20 < t = ltb-true _ _ ec in
      record { known = leb-true _ _ ea; dearer = leb-true _ _ eb; string = λ h. absurd (omega arith) }
  go true ea true eb false ec true ed e = record { known = leb-true _ _ ea; dearer = leb-true _ _ eb; string = λ h. leb-true _ _ ed }
  go true ea true eb false ec false ed e = let z : ◌≡◌ {A = ℕ} 0 1 = cc in absurd (omega arith)
  go true ea false eb c ec d ed e = let z : ◌≡◌ {A = ℕ} 0 1 = cc in absurd (omega arith)
  go false ea b eb c ec d ed e = let z : ◌≡◌ {A = ℕ} 0 1 = cc in absurd (omega arith)

-- a token that takes a byte
pub token_next : (t b : ℕ) → eqb (token_move t b) bad ≡ false → Next t (token_move t b)
unfolding token_move
token_next t b q = next_of t _ (subst (λ (n : ℕ). fits n (get_or (token_moves b) t bad) ≡ true) (omega arith) (row_at 0 (token_moves b) t (rows b))) q

-- ---- costs
Dear : ℕ → List ℕ → Type 0
Dear n [] = Unit {0}
Dear n (x ∷ l) = (leb n x ≡ true) × Dear n l

dear_at : (n : ℕ) (l : List ℕ) (t : ℕ) → Dear n l → t < length l → n ≤ get_or l t 0
unfolding Dear
dear_at n [] t r h = absurd (omega arith)
dear_at n (x ∷ l) zero r h = leb-true _ _ r.0
dear_at n (x ∷ l) (suc t) r h = dear_at n l t r.1 (omega arith)

all_dear : Dear 1 costs
unfolding Dear costs
all_dear = (refl, (refl, (refl, (refl, (refl, (refl, (refl, (refl, (refl, (refl, (refl, (refl, (refl, (refl, (refl, (refl, (refl, (refl, (refl, (refl, (refl, (refl, (refl, (refl, (refl, (refl, (refl, (refl, (refl, (refl, (refl, (refl, (refl, (refl, (refl, (refl, (refl, (refl, tt))))))))))))))))))))))))))))))))))))))

costs_long : length costs ≡ 38
unfolding costs
costs_long = refl

pub cost_some : (t : ℕ) → t ≤ 37 → 1 ≤ cost t
unfolding cost
cost_some t h = dear_at 1 costs t all_dear (omega (arith, costs_long))
