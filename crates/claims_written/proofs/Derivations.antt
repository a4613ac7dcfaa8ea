-- Pieces of derivations: texts of plain characters, decimals, items in a row with commas alone between them.
use mathlib.Core.Path.{◌≡◌, refl, sym, ap, subst, ◌∙◌}
use mathlib.Core.Bool.{Bool, true, false, not, ◌&&◌}
use mathlib.Core.List.{List, [], ◌∷◌, ◌++◌, append-nil}
use mathlib.Core.Option.{some}
use Prim.Native.Nat.{ℕ, ◌≤◌, ◌+◌}
use native.Mathlib.Omega.{arith}
use lib.ListN.{length}
use lib.Dec.{eqb}
use borrow.Author.Tests.{eqb-true, eqb-false}
use Rattle.json_blocks.specs.TextBytes.{byte, within}
use Rattle.json_blocks.specs.Lists.{all, number_from}
use Rattle.json_blocks.proofs.ByteLaws.{within_is}
use Rattle.json_tokens.specs.Number.{digit}
use Rattle.json_grammar.specs.Grammar.{Between, Digits, no_digits, digits, Number, leading}
use Rattle.json_grammar.specs.Grammar.{Characters, no_characters, characters, plain, String, string, number, no_minus, zero_alone, no_fraction, no_exponent}
use Rattle.json_grammar.specs.Grammar.{no_blanks, Items, last, more}
use Rattle.json_grammar.proofs.Skips.{between_is}
use Rattle.decimal.specs.Decimal.{digits_of}
use Rattle.decimal.proofs.Digits.{digits_small, digits_all, digits_some, digits_first, digits_back}
use Rattle.table.proofs.Bools.{and_left, and_right}
use Rattle.claims_derived.specs.Derived.{meant, whole_of, items_from}

-- ---- bytes that stand for themselves
unfoldable pub ordinary : ℕ → Bool
ordinary b = within 0x20 0x7F b && (not (eqb b 0x22) && not (eqb b 0x5C))

not_equal : (a b : ℕ) → not (eqb a b) ≡ true → a ≡ b → ⊥
not_equal a b e = go (eqb a b) refl e where
  go : (t : Bool) → eqb a b ≡ t → not t ≡ true → a ≡ b → ⊥
  go true f h = λ _. let z : ◌≡◌ {A = ℕ} 0 1 = cc in omega arith
  go false f h = eqb-false a b f

pub plainly : (w : List ℕ) → all ordinary w ≡ true → Characters w
unfolding all ordinary
plainly [] e = no_characters
plainly (b ∷ w) e =
    let o = and_left (ordinary b) (all ordinary w) e in
    let i = within_is 0x20 0x7F b (and_left (within 0x20 0x7F b) (not (eqb b 0x22) && not (eqb b 0x5C)) o) in
    let n = and_right (within 0x20 0x7F b) (not (eqb b 0x22) && not (eqb b 0x5C)) o in
    characters (plain (record { low = i.0; high = i.1 }) (not_equal b 0x22 (and_left (not (eqb b 0x22)) (not (eqb b 0x5C)) n)) (not_equal b 0x5C (and_right (not (eqb b 0x22)) (not (eqb b 0x5C)) n)))
    (plainly w (and_right (ordinary b) (all ordinary w) e))

-- they mean themselves
pub plainly_meant : (w : List ℕ) (e : all ordinary w ≡ true) → meant (plainly w e) ≡ w
unfolding meant plainly
plainly_meant [] e = refl
plainly_meant (b ∷ w) e = ap (λ (l : List ℕ). b ∷ l) (plainly_meant w _)

abbrev pub quoted : (w : List ℕ) → all ordinary w ≡ true → String (0x22 ∷ (w ++ (0x22 ∷ [])))
quoted w e = string (plainly w e)

-- ---- a whole number in decimal
digits_derived : (l : List ℕ) → all digit l ≡ true → Digits l
unfolding all
digits_derived [] e = no_digits
digits_derived (b ∷ l) e = digits (between_is (and_left (digit b) (all digit l) e)) (digits_derived l (and_right (digit b) (all digit l) e))

-- l writes k
abbrev Writes : List ℕ → ℕ → Type 0
Writes l k = (p : Number l) × (whole_of p ≡ some k)

-- its digits are a number of the grammar, and which one
pub decimal_derived : (n : ℕ) → (p : Number (digits_of n)) × (whole_of p ≡ some n)
unfolding all number_from
decimal_derived n = go (digits_of n) refl (digits_all n) (digits_some n) (digits_first n) (digits_back n) where
  nothing_written : n ≡ 0 → Writes (digits_of n) n
  nothing_written z = rw z (subst (λ (l : List ℕ). Writes l 0) (sym (digits_small 0 (omega arith))) (number no_minus zero_alone no_fraction no_exponent, refl))

  go : (l : List ℕ) → digits_of n ≡ l → all digit (digits_of n) ≡ true → 1 ≤ length (digits_of n) → (byte (digits_of n) 0 ≡ 0x30 → n ≡ 0) → number_from 0 (digits_of n) ≡ n
      → Writes (digits_of n) n
  go [] e a s f b = absurd (omega (arith, ap length e))
  go (c ∷ l) e a s f b = first (eqb c 0x30) refl where
    first : (t : Bool) → eqb c 0x30 ≡ t → Writes (digits_of n) n
    first true q = nothing_written (f (ap (λ (k : List ℕ). byte k 0) e ∙ eqb-true c 0x30 q))
    first false q =
        let d = subst (λ (k : List ℕ). all digit k ≡ true) e a in
        let w : Between 0x30 0x39 c = between_is (and_left (digit c) (all digit l) d) in
        let h = eqb-false c 0x30 q in
        let k : number_from 0 (c ∷ l) ≡ n = ap (number_from 0) (sym e) ∙ b in
        subst (λ (x : List ℕ). Writes x n) (sym e)
        (subst (λ (x : List ℕ). Writes (c ∷ x) n) (append-nil l)
        (number no_minus (leading (omega (arith, w.low, w.high)) (digits_derived l (and_right (digit c) (all digit l) d))) no_fraction no_exponent, ap some k))

-- ---- any number of items in a row, commas alone between them
unfoldable pub joined : {Item : List ℕ → Type 0} → (x : List ℕ) × Item x → List ((x : List ℕ) × Item x) → List ℕ
joined a [] = a.0 ++ []
joined a (b ∷ l) = a.0 ++ (0x2C ∷ joined b l)

unfoldable pub in_row : {Item : List ℕ → Type 0} (a : (x : List ℕ) × Item x) (l : List ((x : List ℕ) × Item x)) → Items Item (joined a l)
unfolding joined
in_row a [] = last a.1 no_blanks
in_row a (b ∷ l) = more a.1 no_blanks no_blanks (in_row b l)

unfoldable pub row_from : {Item : List ℕ → Type 0} {A : Type 0} → (ℕ → (x : List ℕ) → Item x → A) → ℕ → (x : List ℕ) × Item x → List ((x : List ℕ) × Item x) → List A
row_from of i a [] = of i a.0 a.1 ∷ []
row_from of i a (b ∷ l) = of i a.0 a.1 ∷ row_from of (i + length a.0 + 1) b l

-- what is said of them, each at its place
pub row_placed : {Item : List ℕ → Type 0} {A : Type 0} (of : ℕ → (x : List ℕ) → Item x → A) (i : ℕ) (a : (x : List ℕ) × Item x) (l : List ((x : List ℕ) × Item x))
    → items_from of i (in_row a l) ≡ row_from of i a l
unfolding items_from in_row row_from joined
row_placed of i a [] = refl
row_placed {A} of i a (b ∷ l) =
    let e : i + length a.0 + 0 + 1 + 0 ≡ i + length a.0 + 1 = omega arith in
    ap (λ (k : List A). of i a.0 a.1 ∷ k) (ap (λ (n : ℕ). items_from of n (in_row b l)) e ∙ row_placed of (i + length a.0 + 1) b l)
