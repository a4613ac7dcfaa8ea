-- Steps of the definitions of specs/Skip.antt, on plain variables, and what they skip: every string and value of the grammar.
use mathlib.Core.Path.{◌≡◌, refl, sym, ap, subst, ◌∙◌}
use mathlib.Core.Bool.{Bool, true, false, cond}
use mathlib.Core.List.{List, [], ◌∷◌, ◌++◌}
use Prim.Native.Nat.{ℕ, zero, suc, ◌≤◌, ◌<◌, ◌+◌, ◌-◌}
use native.Mathlib.Omega.{arith}
use lib.ListN.{length}
use lib.Dec.{eqb, leb}
use borrow.Author.Tests.{eq-eqb, ne_eqb, le-leb, lt-leb, leb-false}
use Rattle.json_blocks.specs.Turns.{Turn, on, out, after_turn, run_turns, run_text}
use Rattle.json_blocks.specs.TextBytes.{byte, blank, skip_while}
use Rattle.json_blocks.proofs.TurnLaws.{Advances, run_out, run_on}
use Rattle.json_blocks.proofs.ByteLaws.{inside, good_inside, cond_elim, skip_on, skip_out}
use Rattle.json_grammar.specs.Skip.{skip_string_turn, skip_string, opens, closes, skip_open_steps, skip_open, token_byte, skip_value}
use Rattle.json_grammar.specs.Grammar.{Blank, Blanks, Digits, Minus, Integer, Fraction, Sign, Exponent, Number}
use Rattle.json_grammar.specs.Grammar.{HexDigit, CodeUnit, Multibyte, Character, Characters, String, Items, Group, Member, AnyValue, Value}
use Rattle.json_grammar.specs.Grammar
use Rattle.json_grammar.specs.Stands.{Stands}
use Rattle.json_grammar.proofs.Stands.{stands_left, stands_right, stands_head, stands_inside}

-- ---- past a string

-- a turn from i that goes on passes a byte of s, one that ends does not go back
data Forward (s : List ℕ) (i : ℕ) : Turn ℕ → Type 0 where
  goes : {j : ℕ} → i < j → i < length s → Forward s i (on j)
  ends : {a : ℕ} → i ≤ a → Forward s i (out a)

goes_is : {s : List ℕ} {i j : ℕ} → Forward s i (on j) → (i < j) × (i < length s)
goes_is (goes p q) = (p, q)

module _ (s : List ℕ) where
  quoted_forward : (i : ℕ) → Forward s i (skip_string_turn s i)
  unfolding skip_string_turn
  quoted_forward i =
      cond_elim (Forward s i) (leb (length s) i) _ _ (λ _. ends (omega arith))
      (λ e. let l = leb-false _ _ e in
      cond_elim (Forward s i) (eqb (byte s i) 0x22) _ _ (λ _. ends (omega arith))
      (λ _. cond_elim (Forward s i) (eqb (byte s i) 0x5C) _ _ (λ _. goes (omega arith) l) (λ _. goes (omega arith) l)))

  quoted_advances : Advances s (skip_string_turn s)
  quoted_advances i j e = goes_is (subst (Forward s i) e (quoted_forward i))

  quoted_onward_f : (n i : ℕ) → length s - i < n → i ≤ run_turns 0 (skip_string_turn s) n i
  unfolding run_turns
  quoted_onward_f zero i h = absurd (omega arith)
  quoted_onward_f (suc n) i h = step (quoted_forward i) (λ j p q. quoted_onward_f n j (omega arith)) where
    step : {t : Turn ℕ} → Forward s i t → ((j : ℕ) → i < j → i < length s → j ≤ run_turns 0 (skip_string_turn s) n j)
        → i ≤ after_turn t (λ j. run_turns 0 (skip_string_turn s) n j)
    step (goes {j} p q) f = let r = f j p q in omega arith
    step (ends p) f = p

  -- where a string ends is not before
  pub quoted_onward : (i : ℕ) → i ≤ skip_string s i
  unfolding skip_string run_text
  quoted_onward i = quoted_onward_f (suc (length s)) i (omega arith)

  pub quoted_end : (i : ℕ) → length s ≤ i → i ≡ skip_string s i
  unfolding skip_string skip_string_turn
  quoted_end i h = run_out s 0 (skip_string_turn s) i i (rw (le-leb _ _ h))

  module _ (i b : ℕ) (e : b ≡ byte s i) where
    pub quoted_close : b ≡ 0x22 → i + 1 ≡ skip_string s i
    unfolding skip_string skip_string_turn
    quoted_close h =
        run_out s 0 (skip_string_turn s) i (i + 1) (rw (lt-leb _ _ (inside s i b e (omega arith)), ← e, eq-eqb _ _ h))

    pub quoted_escape : b ≡ 0x5C → skip_string s (i + 2) ≡ skip_string s i
    unfolding skip_string skip_string_turn
    quoted_escape h =
        run_on s 0 (skip_string_turn s) quoted_advances i (i + 2) (rw (lt-leb _ _ (inside s i b e (omega arith)), ← e, h))

    pub quoted_other : i < length s → (b ≡ 0x22 → ⊥) → (b ≡ 0x5C → ⊥) → skip_string s (i + 1) ≡ skip_string s i
    unfolding skip_string skip_string_turn
    quoted_other l f g =
        run_on s 0 (skip_string_turn s) quoted_advances i (i + 1) (rw (lt-leb _ _ l, ← e, ne_eqb _ _ f, ne_eqb _ _ g))

-- ---- past the close of n open groups

-- one step, with k for the steps after it
unfoldable open_step : List ℕ → (ℕ → ℕ → ℕ) → ℕ → ℕ → ℕ
open_step s k n i =
    cond (leb (length s) i) i
    (cond (eqb (byte s i) 0x22) (k n (skip_string s (i + 1)))
    (cond (opens (byte s i)) (k (n + 1) (i + 1))
    (cond (closes (byte s i)) (cond (leb n 1) (i + 1) (k (n - 1) (i + 1)))
    (k n (i + 1)))))

cond_same : {A : Type 0} (t : Bool) (a b c : A) → (t ≡ false → b ≡ c) → cond t a b ≡ cond t a c
cond_same true a b c h = refl
cond_same false a b c h = h refl

cond_onward : {i a b : ℕ} (t : Bool) → i ≤ a → i ≤ b → i ≤ cond t a b
cond_onward true p q = p
cond_onward false p q = q

module _ (s : List ℕ) where
  -- a step asks only for what comes further on
  step_same : (k l : ℕ → ℕ → ℕ) (n i : ℕ) → (i < length s → (m j : ℕ) → i < j → k m j ≡ l m j) → open_step s k n i ≡ open_step s l n i
  unfolding open_step
  step_same k l n i h =
      cond_same (leb (length s) i) i _ _ (λ e.
      let p = h (leb-false _ _ e) in
      let q = quoted_onward s (i + 1) in
      rw (p n (skip_string s (i + 1)) (omega arith), p (n + 1) (i + 1) (omega arith), p (n - 1) (i + 1) (omega arith), p n (i + 1) (omega arith)))

  -- enough steps are as good as any more
  same_steps : (f g n i : ℕ) → length s - i < f → length s - i < g → skip_open_steps f s n i ≡ skip_open_steps g s n i
  unfolding skip_open_steps open_step
  same_steps zero g n i h k = absurd (omega arith)
  same_steps (suc f) zero n i h k = absurd (omega arith)
  same_steps (suc f) (suc g) n i h k =
      step_same (skip_open_steps f s) (skip_open_steps g s) n i (λ l m j p. same_steps f g m j (omega arith) (omega arith))

  -- skip_open by its own step
  open_step_lem : (n i : ℕ) → open_step s (skip_open s) n i ≡ skip_open s n i
  unfolding skip_open skip_open_steps open_step
  open_step_lem n i =
      step_same (skip_open s) (skip_open_steps (length s) s) n i (λ l m j p. same_steps (suc (length s)) (length s) m j (omega arith) (omega arith))

  steps_onward : (f n i : ℕ) → i ≤ skip_open_steps f s n i
  unfolding skip_open_steps
  steps_onward zero n i = omega arith
  steps_onward (suc f) n i =
      let q = quoted_onward s (i + 1) in
      let a = steps_onward f n (skip_string s (i + 1)) in
      let b = steps_onward f (n + 1) (i + 1) in
      let c = steps_onward f (n - 1) (i + 1) in
      let d = steps_onward f n (i + 1) in
      cond_onward (leb (length s) i) (omega arith)
      (cond_onward (eqb (byte s i) 0x22) (omega arith)
      (cond_onward (opens (byte s i)) (omega arith)
      (cond_onward (closes (byte s i)) (cond_onward (leb n 1) (omega arith) (omega arith)) (omega arith))))

  -- where the groups end is not before
  pub open_onward : (n i : ℕ) → i ≤ skip_open s n i
  unfolding skip_open
  open_onward n i = steps_onward (suc (length s)) n i

-- a byte that passes a test is not one that fails it
unlike : (good : ℕ → Bool) (b x : ℕ) → good b ≡ true → good x ≡ false → b ≡ x → ⊥
unlike good b x p q e = let z : ◌≡◌ {A = ℕ} 0 1 = cc in omega arith

module _ (s : List ℕ) (n i : ℕ) where
  pub open_end : length s ≤ i → i ≡ skip_open s n i
  unfolding open_step
  open_end h = rw (← open_step_lem s n i, le-leb _ _ h)

  module _ (b : ℕ) (e : b ≡ byte s i) where
    pub open_string : b ≡ 0x22 → skip_open s n (skip_string s (i + 1)) ≡ skip_open s n i
    unfolding open_step
    open_string h = rw (lt-leb _ _ (inside s i b e (omega arith)), ← e, eq-eqb _ _ h) at (open_step_lem s n i)

    pub open_opens : opens b ≡ true → skip_open s (n + 1) (i + 1) ≡ skip_open s n i
    unfolding open_step
    open_opens h = rw (lt-leb _ _ (good_inside opens refl s i b e h), ← e, ne_eqb _ _ (unlike opens b 0x22 h refl), h) at (open_step_lem s n i)

    step_closes : closes b ≡ true → cond (leb n 1) (i + 1) (skip_open s (n - 1) (i + 1)) ≡ skip_open s n i
    unfolding open_step
    step_closes h =
        rw (
          lt-leb _ _ (good_inside closes refl s i b e h),
          ← e,
          ne_eqb _ _ (unlike closes b 0x22 h refl),
          ne_eqb _ _ (unlike closes b 0x5B h refl),
          ne_eqb _ _ (unlike closes b 0x7B h refl),
          h,
        ) at (open_step_lem s n i)

    pub open_last : closes b ≡ true → n ≤ 1 → i + 1 ≡ skip_open s n i
    open_last h l = rw (le-leb _ _ l) at (step_closes h)

    pub open_closes : closes b ≡ true → 1 < n → skip_open s (n - 1) (i + 1) ≡ skip_open s n i
    open_closes h l = rw (lt-leb _ _ l) at (step_closes h)

    pub open_other : i < length s → (b ≡ 0x22 → ⊥) → opens b ≡ false → closes b ≡ false → skip_open s n (i + 1) ≡ skip_open s n i
    unfolding open_step
    open_other l f g h = rw (lt-leb _ _ l, ← e, ne_eqb _ _ f, g, h) at (open_step_lem s n i)

-- ---- past a value
module _ (s : List ℕ) (i b : ℕ) (e : b ≡ byte s i) where
  pub value_string : b ≡ 0x22 → skip_string s (i + 1) ≡ skip_value s i
  unfolding skip_value
  value_string h = rw (← e, h)

  pub value_opens : opens b ≡ true → skip_open s 1 (i + 1) ≡ skip_value s i
  unfolding skip_value
  value_opens h = rw (← e, ne_eqb _ _ (unlike opens b 0x22 h refl), h)

  pub value_scalar : (b ≡ 0x22 → ⊥) → opens b ≡ false → skip_while token_byte s i ≡ skip_value s i
  unfolding skip_value
  value_scalar f g = rw (← e, ne_eqb _ _ f, g)

-- ---- what a list of bytes does to a walk

-- f answers before xs what g answers after it
pub record Moves (s : List ℕ) (f g : ℕ → ℕ) (xs : List ℕ) : Type 0 where
  pub moves : (i j : ℕ) → Stands s i xs j → f i ≡ g j

abbrev pub All : (ℕ → Type 0) → List ℕ → Type 0
All P [] = Unit {0}
All P (b ∷ xs) = P b × All P xs

all_join : (P : ℕ → Type 0) (xs ys : List ℕ) → All P xs → All P ys → All P (xs ++ ys)
all_join P [] ys p q = q
all_join P (b ∷ xs) ys p q = (p.0, all_join P xs ys p.1 q)

module _ {s : List ℕ} where
  move_none : {f : ℕ → ℕ} → Moves s f f []
  move_none {f} = record { moves = λ i j p. ap f (omega (arith, p.end)) }

  move_one : {f g : ℕ → ℕ} {b : ℕ} → ((i : ℕ) → b ≡ byte s i → i < length s → g (i + 1) ≡ f i) → Moves s f g (b ∷ [])
  move_one {g} h = record {
    moves = λ i j p. sym (h i (sym (stands_head s p)) (stands_inside s p)) ∙ ap g (omega (arith, p.end));
  }

  move_join : {f g h : ℕ → ℕ} {xs ys : List ℕ} → Moves s f g xs → Moves s g h ys → Moves s f h (xs ++ ys)
  move_join {xs} {ys} p q = record {
    moves = λ i j r. p.moves _ _ (stands_left s xs ys r) ∙ q.moves _ _ (stands_right s xs ys r);
  }

  move_next : {f g h : ℕ → ℕ} {b : ℕ} {xs : List ℕ} → Moves s f g (b ∷ []) → Moves s g h xs → Moves s f h (b ∷ xs)
  move_next {b} p q = move_join {xs = b ∷ []} p q

  move_all : {P : ℕ → Type 0} {f : ℕ → ℕ} {xs : List ℕ} → ((b : ℕ) → P b → Moves s f f (b ∷ [])) → All P xs → Moves s f f xs
  move_all {xs = []} h p = move_none
  move_all {P} {xs = b ∷ xs} h p = move_next (h b p.0) (move_all {P = P} h p.1)

-- ---- strings

-- a byte of a string that stands for itself
abbrev pub Ordinary : ℕ → Type 0
Ordinary b = (b ≡ 0x22 → ⊥) × (b ≡ 0x5C → ⊥)

hex_ordinary : {b n : ℕ} → HexDigit b n → Ordinary b
hex_ordinary (Grammar.decimal h) = omega arith
hex_ordinary (Grammar.capital h) = omega arith
hex_ordinary (Grammar.small h) = omega arith

pub multibyte_ordinary : {c : List ℕ} → Multibyte c → All Ordinary c
multibyte_ordinary (Grammar.row2 h k) = omega arith
multibyte_ordinary (Grammar.row3 h k) = omega arith
multibyte_ordinary (Grammar.row4 h k l) = omega arith
multibyte_ordinary (Grammar.row5 h k) = omega arith
multibyte_ordinary (Grammar.row6 h k l) = omega arith
multibyte_ordinary (Grammar.row7 h k l) = omega arith
multibyte_ordinary (Grammar.row8 h k l m) = omega arith
multibyte_ordinary (Grammar.row9 h k l) = omega arith

module _ {s : List ℕ} where
  ordinary_moves : {xs : List ℕ} → All Ordinary xs → Moves s (skip_string s) (skip_string s) xs
  ordinary_moves = move_all {P = Ordinary} (λ b h. move_one (λ i e l. quoted_other s i b e l h.0 h.1))

  escape_moves : {b : ℕ} {xs : List ℕ} → All Ordinary xs → Moves s (skip_string s) (skip_string s) (0x5C ∷ (b ∷ xs))
  escape_moves h =
      move_next {g = λ k. skip_string s (k + 1)} (move_one (λ i e l. ap (skip_string s) (omega arith) ∙ quoted_escape s i 0x5C e refl))
      (move_next (move_one (λ i e l. refl)) (ordinary_moves h))

  unit_moves : {u : List ℕ} {n : ℕ} → CodeUnit u n → Moves s (skip_string s) (skip_string s) u
  unit_moves (Grammar.code_unit a b c d) = escape_moves (hex_ordinary a, (hex_ordinary b, (hex_ordinary c, (hex_ordinary d, tt))))

  character_moves : {c : List ℕ} → Character c → Moves s (skip_string s) (skip_string s) c
  character_moves (Grammar.plain h f g) = ordinary_moves ((f, g), tt)
  character_moves (Grammar.multibyte h) = ordinary_moves (multibyte_ordinary h)
  character_moves (Grammar.short h) = escape_moves tt
  character_moves (Grammar.below u h) = unit_moves u
  character_moves (Grammar.above u h) = unit_moves u
  character_moves (Grammar.surrogates u h v k) = move_join (unit_moves u) (unit_moves v)

  characters_move : {cs : List ℕ} → Characters cs → Moves s (skip_string s) (skip_string s) cs
  characters_move Grammar.no_characters = move_none
  characters_move (Grammar.characters c cs) = move_join (character_moves c) (characters_move cs)

  string_moves : {cs : List ℕ} → Characters cs → Moves s (skip_string s) (λ j. j) (cs ++ (0x22 ∷ []))
  string_moves cs = move_join (characters_move cs) (move_one (λ i e l. quoted_close s i 0x22 e refl))

pub string_skipped : (s : List ℕ) (i j : ℕ) (cs : List ℕ) → Characters cs → Stands s i (cs ++ (0x22 ∷ [])) j → skip_string s i ≡ j
string_skipped s i j cs h p = (string_moves h).moves i j p

-- ---- inside n open groups

-- a byte that opens neither a string nor a group
abbrev Still : ℕ → Type 0
Still b = (b ≡ 0x22 → ⊥) × (b ≡ 0x5B → ⊥) × (b ≡ 0x7B → ⊥)

opens_not : (b : ℕ) → Still b → opens b ≡ false
opens_not b h = rw (ne_eqb b 0x5B h.1, ne_eqb b 0x7B h.2)

-- a byte that closes none either
abbrev Plain : ℕ → Type 0
Plain b = Still b × (b ≡ 0x5D → ⊥) × (b ≡ 0x7D → ⊥)

-- a byte of a number or a literal
abbrev Bare : ℕ → Type 0
Bare b = Plain b × (b ≡ 0 → ⊥) × (b ≡ 0x20 → ⊥) × (b ≡ 0x09 → ⊥) × (b ≡ 0x0A → ⊥) × (b ≡ 0x0D → ⊥) × (b ≡ 0x2C → ⊥)

digits_bare : {ds : List ℕ} → Digits ds → All Bare ds
digits_bare Grammar.no_digits = tt
digits_bare (Grammar.digits d ds) = (omega arith, digits_bare ds)

minus_bare : {m : List ℕ} → Minus m → All Bare m
minus_bare Grammar.no_minus = tt
minus_bare Grammar.minus = omega arith

integer_bare : {i : List ℕ} → Integer i → All Bare i
integer_bare Grammar.zero_alone = omega arith
integer_bare (Grammar.leading d ds) = (omega arith, digits_bare ds)

fraction_bare : {f : List ℕ} → Fraction f → All Bare f
fraction_bare Grammar.no_fraction = tt
fraction_bare (Grammar.fraction d ds) = (omega arith, (omega arith, digits_bare ds))

sign_bare : {g : List ℕ} → Sign g → All Bare g
sign_bare Grammar.no_sign = tt
sign_bare Grammar.plus_sign = omega arith
sign_bare Grammar.minus_sign = omega arith

exponent_bare : {e : List ℕ} → Exponent e → All Bare e
exponent_bare Grammar.no_exponent = tt
exponent_bare (Grammar.small_e {g} g' d ds) = (omega arith, all_join Bare g _ (sign_bare g') (omega arith, digits_bare ds))
exponent_bare (Grammar.capital_e {g} g' d ds) = (omega arith, all_join Bare g _ (sign_bare g') (omega arith, digits_bare ds))

number_bare : {x : List ℕ} → Number x → All Bare x
number_bare (Grammar.number {m} {i} {f} {e} p q r t) =
    all_join Bare m _ (minus_bare p) (all_join Bare i _ (integer_bare q) (all_join Bare f e (fraction_bare r) (exponent_bare t)))

blank_plain : {b : ℕ} → Blank b → Plain b
blank_plain Grammar.space = omega arith
blank_plain Grammar.tab = omega arith
blank_plain Grammar.line_feed = omega arith
blank_plain Grammar.carriage_return = omega arith

-- what holds of objects, arrays, strings and bare bytes holds of any value
any : {A O : List ℕ → Type 0} {x : List ℕ} (M : List ℕ → Type 0)
    → ((y : List ℕ) → O y → M y) → ((y : List ℕ) → A y → M y) → ((y : List ℕ) → String y → M y) → ((y : List ℕ) → All Bare y → M y)
    → AnyValue A O x → M x
any M o a t b (Grammar.an_object v) = o _ v
any M o a t b (Grammar.an_array v) = a _ v
any M o a t b (Grammar.a_number v) = b _ (number_bare v)
any M o a t b (Grammar.a_string v) = t _ v
any M o a t b Grammar.a_true = b _ (omega arith)
any M o a t b Grammar.a_false = b _ (omega arith, omega arith)
any M o a t b Grammar.a_null = b _ (omega arith)

-- the walk inside n open groups answers before x what it answers after it
abbrev pub Passed : List ℕ → ℕ → List ℕ → Type 0
Passed s n x = Moves s (skip_open s n) (skip_open s n) x

module _ (s : List ℕ) (n : ℕ) where
  plain_passed : (b : ℕ) → Plain b → Passed s n (b ∷ [])
  plain_passed b h =
      move_one (λ i e l. open_other s n i b e l h.0.0 (opens_not b h.0) (rw (ne_eqb b 0x5D h.1, ne_eqb b 0x7D h.2)))

  bare_passed : (x : List ℕ) → All Bare x → Passed s n x
  bare_passed x h = move_all {P = Bare} (λ b p. plain_passed b p.0) h

  pub blanks_passed : {w : List ℕ} → Blanks w → Passed s n w
  blanks_passed Grammar.no_blanks = move_none
  blanks_passed (Grammar.blanks b w) = move_next (plain_passed _ (blank_plain b)) (blanks_passed w)

  pub string_passed : (x : List ℕ) → String x → Passed s n x
  string_passed x (Grammar.string cs) =
      move_next {g = λ k. skip_open s n (skip_string s k)} (move_one (λ i e l. open_string s n i 0x22 e refl))
      (record { moves = λ i j p. ap (skip_open s n) ((string_moves cs).moves i j p) })

  module _ {Item : List ℕ → Type 0} (inner : (x : List ℕ) → Item x → Passed s n x) where
    pub items_passed : {xs : List ℕ} → Items Item xs → Passed s n xs
    items_passed (Grammar.last x w) = move_join (inner _ x) (blanks_passed w)
    items_passed (Grammar.more x w u xs) =
        move_join (inner _ x) (move_join (blanks_passed w)
        (move_next (plain_passed 0x2C (omega arith)) (move_join (blanks_passed u) (items_passed xs))))

    pub member_passed : (x : List ℕ) → Member Item x → Passed s n x
    member_passed x (Grammar.member m w u v) =
        move_join (string_passed _ m) (move_join (blanks_passed w)
        (move_next (plain_passed 0x3A (omega arith)) (move_join (blanks_passed u) (inner _ v))))

    -- in at an opening byte, and out at the closing one
    group_moves : {f g : ℕ → ℕ} {o c : ℕ} {x : List ℕ}
        → Moves s f (skip_open s n) (o ∷ []) → Moves s (skip_open s n) g (c ∷ []) → Group Item o c x → Moves s f g x
    group_moves p q (Grammar.empty w) = move_next p (move_join (blanks_passed w) q)
    group_moves p q (Grammar.full w xs) = move_next p (move_join (blanks_passed w) (move_join (items_passed xs) q))

pub group_passed : (s : List ℕ) (n : ℕ) {Item : List ℕ → Type 0} {o c : ℕ} → 1 ≤ n → ((x : List ℕ) → Item x → Passed s (n + 1) x)
    → opens o ≡ true → closes c ≡ true → (x : List ℕ) → Group Item o c x → Passed s n x
group_passed s n {o} {c} l inner p q x =
    group_moves s (n + 1) inner (move_one (λ i e _. open_opens s n i o e p))
    (move_one (λ i e _. ap (λ m. skip_open s m (i + 1)) (omega arith) ∙ open_closes s (n + 1) i c e q (omega arith)))

pub value_passed : (d : ℕ) (s : List ℕ) (n : ℕ) → 1 ≤ n → (x : List ℕ) → Value d x → Passed s n x
unfolding Value
value_passed zero s n l x = any (Passed s n) (λ _. absurd) (λ _. absurd) (string_passed s n) (bare_passed s n)
value_passed (suc d) s n l x =
    let inner = value_passed d s (n + 1) (omega arith) in
    any (Passed s n) (group_passed s n l (member_passed s (n + 1) inner) refl refl) (group_passed s n l inner refl refl)
    (string_passed s n) (bare_passed s n)

-- ---- a value

-- past the end no byte belongs to a number or a literal
pub no_scalar : token_byte 0 ≡ false
unfolding token_byte blank
no_scalar = refl

bare_scalar : (b : ℕ) → Bare b → token_byte b ≡ true
unfolding token_byte blank
bare_scalar b h =
    rw (
      ne_eqb b 0 h.1,
      ne_eqb b 0x20 h.2,
      ne_eqb b 0x09 h.3,
      ne_eqb b 0x0A h.4,
      ne_eqb b 0x0D h.5,
      ne_eqb b 0x2C h.6,
      ne_eqb b 0x5D h.0.1,
      ne_eqb b 0x7D h.0.2,
    )

-- x is skipped where no further byte of a number or a literal comes after it
abbrev Skipped : List ℕ → List ℕ → Type 0
Skipped s x = (i j : ℕ) → Stands s i x j → token_byte (byte s j) ≡ false → skip_value s i ≡ j

module _ (s : List ℕ) where
  moves_skipped : {x : List ℕ} → Moves s (skip_value s) (λ j. j) x → Skipped s x
  moves_skipped m i j p h = m.moves i j p

  string_is_skipped : (x : List ℕ) → String x → Skipped s x
  string_is_skipped x (Grammar.string cs) = moves_skipped (move_next (move_one (λ i e l. value_string s i 0x22 e refl)) (string_moves cs))

  group_skipped : {Item : List ℕ → Type 0} {o c : ℕ} → ((x : List ℕ) → Item x → Passed s 1 x)
      → opens o ≡ true → closes c ≡ true → (x : List ℕ) → Group Item o c x → Skipped s x
  group_skipped {o} {c} inner p q x v =
      moves_skipped (group_moves s 1 inner (move_one (λ i e _. value_opens s i o e p)) (move_one (λ i e _. open_last s 1 i c e q (omega arith))) v)

  -- no string or group starts at bare bytes, also where there are none
  start : (x : List ℕ) (i j : ℕ) → All Bare x → Stands s i x j → token_byte (byte s j) ≡ false → Still (byte s i)
  unfolding token_byte blank
  start [] i j h p e =
      let q : i ≡ j = omega arith in
      rw q (omega (arith, unlike token_byte 0x22 (byte s j) refl e, unlike token_byte 0x5B (byte s j) refl e, unlike token_byte 0x7B (byte s j) refl e))
  start (b ∷ x) i j h p e = rw (stands_head s p) h.0.0.0

  bare_skipped : (x : List ℕ) → All Bare x → Skipped s x
  bare_skipped x h i j p e =
      let q = start x i j h p e in
      sym (value_scalar s i (byte s i) refl q.0 (opens_not (byte s i) q))
      ∙ (move_all {P = Bare} (λ b k. move_one (λ i e l. skip_on token_byte no_scalar s i b e (bare_scalar b k))) h).moves i j p
      ∙ sym (skip_out token_byte no_scalar s j (byte s j) refl e)

pub value_skipped : (d : ℕ) (s : List ℕ) (i j : ℕ) (xs : List ℕ) → Value d xs → Stands s i xs j → token_byte (byte s j) ≡ false → skip_value s i ≡ j
unfolding Value
value_skipped zero s i j xs v = any (Skipped s) (λ _. absurd) (λ _. absurd) (string_is_skipped s) (bare_skipped s) v i j
value_skipped (suc d) s i j xs v =
    let inner = value_passed d s 1 (omega arith) in
    any (Skipped s) (group_skipped s (member_passed s 1 inner) refl refl) (group_skipped s inner refl refl)
    (string_is_skipped s) (bare_skipped s) v i j
