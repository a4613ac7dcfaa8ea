-- What n bytes may lead to: a lost text, or a control that n bytes are enough for.
use mathlib.Core.Path.{◌≡◌, refl, ap, subst}
use mathlib.Core.Bool.{Bool, true, false, cond, ◌&&◌, ◌||◌}
use mathlib.Core.List.{List, [], ◌∷◌}
use Prim.Native.Nat.{ℕ, zero, suc, ◌≤◌, ◌<◌, ◌+◌, ◌*◌, ◌/◌, ◌^◌}
use native.Mathlib.Omega.{arith}
use native.Mathlib.Nat.{pow-suc}
use lib.ListN.{length, get_or}
use lib.Dec.{eqb, ltb, leb}
use borrow.Author.Tests.{ne_eqb, lt-ltb, le-ltb, le-leb, eqb-true, ltb-true, ltb-false, leb-true}
use Rattle.json_blocks.specs.TextBytes.{within, blank}
use Rattle.json_blocks.proofs.ByteLaws.{cond_elim}
use Rattle.json_automaton.specs.Token.{bad, byte_move, minus_move, token_moves, token_move, whole}
use Rattle.json_automaton.specs.declared.Control.{Control}
use Rattle.json_automaton.specs.Control.{control, lost, start, full_stack, is_object_top, closing, push, pop, number_move, value_move, item_move, first_move, colon_move, after_move, place_moves, place_move, moved, move, run_moves}
use Rattle.json_automaton.specs.Reachable.{extra, opened_in, opened, ready, costs, cost, in_object}
use Rattle.json_automaton.proofs.Accept.{move_lost}
use Rattle.json_automaton.proofs.Tokens.{Next, token_next, cost_some}

-- ---- the fewest bytes of the open brackets
module _ (o : ℕ) where
  pub extra_array : is_object_top o ≡ false → extra o ≡ 0
  unfolding extra in_object
  extra_array e = rw e (go (leb 2 o)) where
    go : (t : Bool) → ◌≡◌ {A = ℕ} (cond (t && false) 3 0) 0
    go true = refl
    go false = refl

  pub extra_object : in_object o ≡ true → extra o ≡ 3
  unfolding extra in_object
  extra_object e = rw e

-- more levels than there are brackets make no difference
same_opened : (n o : ℕ) → o < 2 ^ suc n → opened_in n o ≡ opened_in (suc n) o
unfolding opened_in
same_opened zero o h = rw (lt-ltb o 2 h)
same_opened (suc n) o h =
    let p : 2 ^ suc (suc n) ≡ 2 ^ suc n * 2 = pow-suc 2 (suc n) in
    let q : o / 2 < 2 ^ suc n = omega (arith, p, h) in
    rw (same_opened n (o / 2) q)

pub opened_half : (o : ℕ) → 2 ≤ o → o < full_stack + full_stack → opened o ≡ ready (o / 2) + 1
unfolding opened_in
opened_half o h l =
    rw (le-ltb o 2 h) (ap (λ (k : ℕ). k + extra (o / 2) + 1) (same_opened 31 (o / 2) (omega arith)))

-- ---- what n bytes lead to
pub data Led (n : ℕ) : Control → Type 0 where
  gone : 1 ≤ n → Led n lost
  at_value : {o : ℕ} → 1 ≤ o → o < full_stack + full_stack → (eqb o 1 || in_object o) ≡ true → ready o ≤ n → Led n (control 1 0 o)
  at_first : {o : ℕ} → 2 ≤ o → o < full_stack + full_stack → opened o ≤ n → Led n (control 2 0 o)
  at_next : {o : ℕ} → 2 ≤ o → o < full_stack + full_stack → ready o + 2 ≤ n → Led n (control 3 0 o)
  at_colon : {t o : ℕ} → in_object o ≡ true → o < full_stack + full_stack → t ≤ 20 → opened o + cost t ≤ n → Led n (control 4 t o)
  at_after : {t o : ℕ} → 1 ≤ o → o < full_stack + full_stack → t ≤ 37 → ready o + cost t ≤ n → Led n (control 5 t o)

pub in_inside : (o : ℕ) → in_object o ≡ true → (2 ≤ o) × (is_object_top o ≡ true)
unfolding in_object
in_inside o e = go (leb 2 o) refl e where
  go : (t : Bool) → leb 2 o ≡ t → (t && is_object_top o) ≡ true → (2 ≤ o) × (is_object_top o ≡ true)
  go true h e = (leb-true _ _ h, e)
  go false h e = let z : ◌≡◌ {A = ℕ} 0 1 = cc in absurd (omega arith)

is_inside : (o : ℕ) → 2 ≤ o → is_object_top o ≡ true → in_object o ≡ true
unfolding in_object
is_inside o h e = rw (le-leb 2 o h, e)

-- costs of the tokens that begin
cost_0 : cost 0 ≡ 2
unfolding cost costs
cost_0 = refl

begin_cost : (cost 1 ≡ 1) × (cost 21 ≡ 1) × (cost 22 ≡ 1) × (cost 23 ≡ 1) × (cost 29 ≡ 1) × (cost 32 ≡ 1) × (cost 35 ≡ 1)
unfolding cost costs
begin_cost = (refl, refl, refl, refl, refl, refl, refl)

module _ (n o b : ℕ) (bound : o < full_stack + full_stack) where
  pushed : (k : ℕ) → 1 ≤ o → k ≤ 1 → ready o ≤ n → Led (n + 1) (push o k)
  unfolding push
  pushed k i h l = cond_elim (Led (n + 1)) (ltb o full_stack) _ _ (λ e. go (ltb-true _ _ e)) (λ _. gone (omega arith)) where
    go : o < full_stack → Led (n + 1) (control 2 0 (o * 2 + k))
    go f =
        let q : (o * 2 + k) / 2 ≡ o = omega arith in
        let r : opened (o * 2 + k) ≡ ready ((o * 2 + k) / 2) + 1 = opened_half (o * 2 + k) (omega arith) (omega arith) in
        at_first {o = o * 2 + k} (omega arith) (omega arith) (omega (arith, r, ap ready q))

  begun : (t : ℕ) → 1 ≤ o → ready o ≤ n → t ≤ 37 → cost t ≡ 1 → Led (n + 1) (control 5 t o)
  begun t i l h e = at_after i bound h (omega arith)

  number_led : 1 ≤ o → ready o ≤ n → Led (n + 1) (number_move o b)
  unfolding number_move minus_move byte_move
  number_led i l =
      cond_elim (Led (n + 1)) (eqb b 0x2D) _ _ (λ _. begun 21 i l (omega arith) begin_cost.1)
      (λ _. cond_elim N (eqb b 0x30) _ _ (λ _. begun 22 i l (omega arith) begin_cost.2)
      (λ _. cond_elim N (within 0x30 0x39 b) _ _ (λ _. begun 23 i l (omega arith) begin_cost.3) (λ _. gone (omega arith))))
    where
      N : ℕ → Type 0
      N x = Led (n + 1) (cond (eqb x bad) lost (control 5 x o))

  value_led : 1 ≤ o → ready o ≤ n → Led (n + 1) (value_move o b)
  unfolding value_move
  value_led i l =
      cond_elim (Led (n + 1)) (eqb b 0x22) _ _ (λ _. begun 1 i l (omega arith) begin_cost.0)
      (λ _. cond_elim (Led (n + 1)) (eqb b 0x5B) _ _ (λ _. pushed 0 i (omega arith) l)
      (λ _. cond_elim (Led (n + 1)) (eqb b 0x7B) _ _ (λ _. pushed 1 i (omega arith) l)
      (λ _. cond_elim (Led (n + 1)) (eqb b 0x74) _ _ (λ _. begun 29 i l (omega arith) begin_cost.4)
      (λ _. cond_elim (Led (n + 1)) (eqb b 0x66) _ _ (λ _. begun 32 i l (omega arith) begin_cost.5)
      (λ _. cond_elim (Led (n + 1)) (eqb b 0x6E) _ _ (λ _. begun 35 i l (omega arith) begin_cost.6)
      (λ _. number_led i l))))))

  item_led : 2 ≤ o → opened o ≤ n → Led (n + 1) (item_move o b)
  unfolding item_move
  item_led i l =
      cond_elim (Led (n + 1)) (is_object_top o) _ _
      (λ e. cond_elim (Led (n + 1)) (eqb b 0x22) _ _ (λ _. at_colon (is_inside o i e) bound (omega arith) (omega (arith, begin_cost.0))) (λ _. gone (omega arith)))
      (λ e. value_led (omega arith) (omega (arith, extra_array o e)))

  pop_led : 2 ≤ o → opened o ≤ n → Led (n + 1) (pop o)
  pop_led i l = at_after {t = 0} {o = o / 2} (omega arith) (omega arith) (omega arith) (omega (arith, cost_0, opened_half o i bound))

  first_led : 2 ≤ o → opened o ≤ n → Led (n + 1) (first_move o b)
  unfolding first_move
  first_led i l = cond_elim (Led (n + 1)) (eqb b (closing o)) _ _ (λ _. pop_led i l) (λ _. item_led i l)

  place_led : (p : ℕ) → Led (n + 1) (control p 0 o) → Led (n + 1) (get_or (place_moves o b) p lost) → Led (n + 1) (place_move p o b)
  unfolding place_move
  place_led p f g = cond_elim (Led (n + 1)) (blank b) _ _ (λ _. f) (λ _. g)

  colon_led : in_object o ≡ true → opened o + 2 ≤ n → Led (n + 1) (place_move 4 o b)
  unfolding place_moves colon_move
  colon_led i l =
      place_led 4 (at_colon i bound (omega arith) (omega (arith, cost_0)))
      (cond_elim (Led (n + 1)) (eqb b 0x3A) _ _ (λ _. at_value (omega (arith, (in_inside o i).0)) bound (rw i (or_true (eqb o 1))) (omega (arith, extra_object o i))) (λ _. gone (omega arith)))
    where
      or_true : (t : Bool) → (t || true) ≡ true
      or_true true = refl
      or_true false = refl

  after_led : 1 ≤ o → ready o + 1 ≤ n → Led (n + 1) (place_move 5 o b)
  unfolding place_moves after_move
  after_led i l =
      place_led 5 (at_after i bound (omega arith) (omega (arith, cost_0)))
      (cond_elim (Led (n + 1)) (ltb o 2) _ _ (λ _. gone (omega arith))
      (λ e. cond_elim (Led (n + 1)) (eqb b 0x2C) _ _ (λ _. at_next (ltb-false _ _ e) bound (omega arith))
      (λ _. cond_elim (Led (n + 1)) (eqb b (closing o)) _ _ (λ _. pop_led (ltb-false _ _ e) (omega arith)) (λ _. gone (omega arith)))))

-- ---- one byte more
token_led : (n p o t b : ℕ) → (Next t (token_move t b) → Led (n + 1) (control p (token_move t b) o)) → (whole t ≡ true → Led (n + 1) (place_move p o b))
    → Led (n + 1) (move (control p t o) b)
unfolding move moved
token_led n p o t b f g = go (eqb (token_move t b) bad) refl where
  go : (x : Bool) → eqb (token_move t b) bad ≡ x → Led (n + 1) (cond x (cond (whole t) (place_move p o b) lost) (control p (token_move t b) o))
  go true e = cond_elim (Led (n + 1)) (whole t) _ _ g (λ _. gone (omega arith))
  go false e = f (token_next t b e)

no_token : (n p o b : ℕ) → Led (n + 1) (place_move p o b) → Led (n + 1) (move (control p 0 o) b)
unfolding move moved token_move token_moves whole
no_token n p o b f = f

whole_string : (t : ℕ) → t ≤ 20 → whole t ≡ true → t ≡ 0
unfolding whole
whole_string t h e = go (eqb t 0) refl e where
  go : (x : Bool) → eqb t 0 ≡ x → (x || eqb t 22 || eqb t 23 || eqb t 25 || eqb t 28) ≡ true → t ≡ 0
  go true q e = eqb-true _ _ q
  go false q e =
      let a : eqb t 22 ≡ false = ne_eqb t 22 (omega arith) in
      let b : eqb t 23 ≡ false = ne_eqb t 23 (omega arith) in
      let c : eqb t 25 ≡ false = ne_eqb t 25 (omega arith) in
      let d : eqb t 28 ≡ false = ne_eqb t 28 (omega arith) in
      let y : false ≡ true = rw (a, b, c, d) at e in
      let z : ◌≡◌ {A = ℕ} 0 1 = cc in
      absurd (omega arith)

place_rows : (o b : ℕ) → (get_or (place_moves o b) 1 lost ≡ value_move o b) × (get_or (place_moves o b) 2 lost ≡ first_move o b) × (get_or (place_moves o b) 3 lost ≡ item_move o b)
unfolding place_moves
place_rows o b = (refl, refl, refl)

pub led_move : {n : ℕ} {c : Control} (b : ℕ) → Led n c → Led (n + 1) (move c b)
led_move {n} b (gone h) = rw (move_lost b) (gone (omega arith))
led_move {n} b (at_value {o} i l e h) = no_token n 1 o b (place_led n o b l 1 (at_value i l e (omega arith)) (rw (place_rows o b).0 (value_led n o b l i h)))
led_move {n} b (at_first {o} i l h) = no_token n 2 o b (place_led n o b l 2 (at_first i l (omega arith)) (rw (place_rows o b).1 (first_led n o b l i h)))
led_move {n} b (at_next {o} i l h) = no_token n 3 o b (place_led n o b l 3 (at_next i l (omega arith)) (rw (place_rows o b).2 (item_led n o b l i (omega arith))))
led_move {n} b (at_colon {t} {o} i l m h) =
    token_led n 4 o t b (λ x. at_colon i l (x.string m) (omega (arith, x.dearer)))
    (λ w. colon_led n o b l i (omega (arith, cost_0, ap cost (whole_string t m w))))
led_move {n} b (at_after {t} {o} i l m h) =
    token_led n 5 o t b (λ x. at_after i l x.known (omega (arith, x.dearer))) (λ w. after_led n o b l i (omega (arith, cost_some t m)))

led_from : {n : ℕ} {c : Control} (s : List ℕ) → Led n c → Led (n + length s) (run_moves c s)
unfolding run_moves
led_from {n} {c} [] h = subst (λ (k : ℕ). Led k c) (omega arith) h
led_from {n} {c} (b ∷ s) h = subst (λ (k : ℕ). Led k (run_moves (move c b) s)) (omega arith) (led_from {n = n + 1} {c = move c b} s (led_move b h))

led_start : Led 0 start
unfolding in_object opened_in extra
led_start = at_value {o = 1} (omega arith) (omega arith) refl (omega arith)

-- a text leads to what its length is enough for
pub led : (s : List ℕ) → Led (length s) (run_moves start s)
led s = subst (λ (k : ℕ). Led k (run_moves start s)) (omega arith) (led_from s led_start)
