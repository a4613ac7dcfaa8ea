-- To each consistent control a text of the fewest bytes leads, and with blanks before it one of any more.
use mathlib.Core.Path.{◌≡◌, refl, sym, ap, subst, ◌∙◌}
use mathlib.Core.Bool.{Bool, true, false, cond, ◌&&◌}
use mathlib.Core.List.{List, [], ◌∷◌, ◌++◌}
use Prim.{Unit}
use Prim.Native.Nat.{ℕ, zero, suc, ◌≤◌, ◌<◌, ◌+◌, ◌-◌, ◌*◌, ◌/◌, ◌%◌, ◌^◌}
use native.Mathlib.Omega.{arith}
use native.Mathlib.Nat.{pow-suc}
use lib.ListN.{length, get_or, length-append}
use lib.Dec.{eqb, leb}
use borrow.Author.Tests.{lt-ltb, le-ltb, eqb-true, eqb-false, leb-true, leb-false}
use Rattle.json_blocks.specs.TextBytes.{within, blank}
use Rattle.json_blocks.specs.Lists.{all}
use Rattle.json_characters.specs.String.{hex_value, short_escape}
use Rattle.json_blocks.proofs.ByteLaws.{cond_elim}
use Rattle.json_automaton.specs.Token.{byte_move, is_move, hex_move, low_move, wide_move, text_move, escape_move, first_hex_move, surrogate_move, minus_move, exponent_move, fraction_move, sign_move, token_moves, token_move, whole}
use Rattle.json_automaton.specs.declared.Control.{Control}
use Rattle.json_automaton.specs.Control.{control, lost, start, full_stack, is_object_top, push, number_move, value_move, item_move, first_move, colon_move, after_move, place_moves, place_move, moved, move, run_moves}
use Rattle.json_automaton.specs.Reachable.{extra, opened_in, opened, ready, costs, cost, in_object}
use Rattle.json_automaton.specs.Lost.{is_byte}
use Rattle.json_automaton.proofs.Accept.{run_lost}
use Rattle.json_automaton.proofs.Chunks.{run_append}

-- a text of n bytes leads to c
pub data Lead (c : Control) (n : ℕ) : Type 0 where
  lead : (s : List ℕ) → run_moves start s ≡ c → length s ≡ n → all is_byte s ≡ true → Lead c n

pub all_append : (good : ℕ → Bool) (a b : List ℕ) → all good a ≡ true → all good b ≡ true → all good (a ++ b) ≡ true
unfolding all
all_append good [] b h k = k
all_append good (x ∷ a) b h k = go (good x) h (λ e. all_append good a b e k) where
  go : (t : Bool) → (t && all good a) ≡ true → (all good a ≡ true → all good (a ++ b) ≡ true) → (t && all good (a ++ b)) ≡ true
  go true e f = f e
  go false e f = e

pub lead_on : {c d : Control} {n : ℕ} (m : ℕ) (w : List ℕ) → Lead c n → run_moves c w ≡ d → all is_byte w ≡ true → n + length w ≡ m → Lead d m
lead_on {c} m w (lead s r z y) e a h =
    lead (s ++ w) (run_append start s w ∙ ap (λ (x : Control). run_moves x w) r ∙ e) (length-append s w ∙ ap (λ (k : ℕ). k + length w) z ∙ h) (all_append is_byte s w y a)

-- ---- a value may stand here
data Ready (o : ℕ) : Control → Type 0 where
  at_value : Ready o (control 1 0 o)
  at_array : is_object_top o ≡ false → Ready o (control 2 0 o)

ready_move : {o : ℕ} {c : Control} (w : ℕ) → Ready o c → blank w ≡ false → eqb w 0x5D ≡ false → move c w ≡ value_move o w
unfolding move moved token_move token_moves whole place_move place_moves first_move item_move
ready_move w at_value b e = rw b
ready_move w (at_array h) b e = rw (b, h, e)

data LeadReady (o n : ℕ) : Type 0 where
  lead_ready : {c : Control} → Ready o c → Lead c n → LeadReady o n

bracket : ℕ → ℕ
bracket o = cond (is_object_top o) 0x7B 0x5B

pushes : (o k : ℕ) → o < full_stack + full_stack → o % 2 ≡ k → push (o / 2) k ≡ control 2 0 o
unfolding push
pushes o k l e =
    let h : o / 2 < full_stack = omega arith in
    let q : o / 2 * 2 + k ≡ o = omega arith in
    rw (lt-ltb (o / 2) full_stack h, q)

opens : (o : ℕ) {c : Control} → o < full_stack + full_stack → Ready (o / 2) c → run_moves c (bracket o ∷ []) ≡ control 2 0 o
unfolding run_moves bracket value_move blank
opens o {c} l r = go (is_object_top o) refl where
  go : (t : Bool) → is_object_top o ≡ t → move c (cond t 0x7B 0x5B) ≡ control 2 0 o
  go true e = ready_move 0x7B r refl refl ∙ pushes o 1 l (eqb-true _ _ e)
  go false e =
      let n : o % 2 ≡ 1 → ⊥ = eqb-false (o % 2) 1 e in
      ready_move 0x5B r refl refl ∙ pushes o 0 l (omega arith)

byte_bracket : (o : ℕ) → all is_byte (bracket o ∷ []) ≡ true
unfolding all bracket
byte_bracket o = cond_elim (λ (b : ℕ). all is_byte (b ∷ []) ≡ true) (is_object_top o) _ _ (λ _. refl) (λ _. refl)

-- `"":` after an object's brace
named : (o : ℕ) → is_object_top o ≡ true → run_moves (control 2 0 o) (0x22 ∷ (0x22 ∷ (0x3A ∷ []))) ≡ control 1 0 o
unfolding run_moves move moved token_move token_moves text_move whole place_move place_moves first_move item_move colon_move blank
named o e = rw e

ready_from : (o k : ℕ) → 1 ≤ o → (2 ≤ o → Lead (control 2 0 o) k) → (o ≡ 1 → k ≡ 0) → LeadReady o (k + extra o)
unfolding extra in_object run_moves all
ready_from o k h f g = go (leb 2 o) refl (is_object_top o) refl where
  go : (t : Bool) → leb 2 o ≡ t → (u : Bool) → is_object_top o ≡ u → LeadReady o (k + cond (t && u) 3 0)
  go true e true q = lead_ready at_value (lead_on (k + 3) (0x22 ∷ (0x22 ∷ (0x3A ∷ []))) (f (leb-true _ _ e)) (named o q) refl refl)
  go true e false q = lead_ready (at_array q) (subst (Lead (control 2 0 o)) (omega arith) (f (leb-true _ _ e)))
  go false e u q =
      let l : o < 2 = leb-false 2 o e in
      let m : o ≡ 1 = omega arith in
      let z : 0 ≡ k + 0 = omega (arith, g m) in
      subst (λ (x : ℕ). LeadReady x (k + 0)) (sym m) (lead_ready at_value (lead [] refl z refl))

-- ---- the open brackets
none : (n : ℕ) → opened_in n 1 ≡ 0
unfolding opened_in
none zero = refl
none (suc n) = refl

lead_opened : (n o : ℕ) → 2 ≤ o → o < 2 ^ suc n → o < full_stack + full_stack → Lead (control 2 0 o) (opened_in n o)
unfolding opened_in
lead_opened zero o h l m = absurd (omega arith)
lead_opened (suc n) o h l m = rw (le-ltb o 2 h) (go (ready_from (o / 2) (opened_in n (o / 2)) (omega arith) (λ i. lead_opened n (o / 2) i (omega (arith, pow-suc 2 (suc n))) (omega arith)) one)) where
  one : o / 2 ≡ 1 → opened_in n (o / 2) ≡ 0
  one e = rw e (none n)

  go : LeadReady (o / 2) (opened_in n (o / 2) + extra (o / 2)) → Lead (control 2 0 o) (opened_in n (o / 2) + extra (o / 2) + 1)
  go (lead_ready r x) = lead_on _ (bracket o ∷ []) x (opens o m r) (byte_bracket o) refl

-- ---- tokens: the bytes that begin each
words : List (List ℕ)
words =
    (0x22 ∷ (0x22 ∷ []))  -- 0
    ∷ ((0x22 ∷ [])  -- 1
    ∷ ((0x22 ∷ (0xC2 ∷ []))  -- 2
    ∷ ((0x22 ∷ (0xE1 ∷ []))  -- 3
    ∷ ((0x22 ∷ (0xF1 ∷ []))  -- 4
    ∷ ((0x22 ∷ (0xE0 ∷ []))  -- 5
    ∷ ((0x22 ∷ (0xED ∷ []))  -- 6
    ∷ ((0x22 ∷ (0xF0 ∷ []))  -- 7
    ∷ ((0x22 ∷ (0xF4 ∷ []))  -- 8
    ∷ ((0x22 ∷ (0x5C ∷ []))  -- 9
    ∷ ((0x22 ∷ (0x5C ∷ (0x75 ∷ (0x30 ∷ (0x30 ∷ (0x30 ∷ []))))))  -- 10
    ∷ ((0x22 ∷ (0x5C ∷ (0x75 ∷ (0x30 ∷ (0x30 ∷ [])))))  -- 11
    ∷ ((0x22 ∷ (0x5C ∷ (0x75 ∷ (0x30 ∷ []))))  -- 12
    ∷ ((0x22 ∷ (0x5C ∷ (0x75 ∷ [])))  -- 13
    ∷ ((0x22 ∷ (0x5C ∷ (0x75 ∷ (0x64 ∷ []))))  -- 14
    ∷ ((0x22 ∷ (0x5C ∷ (0x75 ∷ (0x64 ∷ (0x38 ∷ [])))))  -- 15
    ∷ ((0x22 ∷ (0x5C ∷ (0x75 ∷ (0x64 ∷ (0x38 ∷ (0x30 ∷ []))))))  -- 16
    ∷ ((0x22 ∷ (0x5C ∷ (0x75 ∷ (0x64 ∷ (0x38 ∷ (0x30 ∷ (0x30 ∷ [])))))))  -- 17
    ∷ ((0x22 ∷ (0x5C ∷ (0x75 ∷ (0x64 ∷ (0x38 ∷ (0x30 ∷ (0x30 ∷ (0x5C ∷ []))))))))  -- 18
    ∷ ((0x22 ∷ (0x5C ∷ (0x75 ∷ (0x64 ∷ (0x38 ∷ (0x30 ∷ (0x30 ∷ (0x5C ∷ (0x75 ∷ [])))))))))  -- 19
    ∷ ((0x22 ∷ (0x5C ∷ (0x75 ∷ (0x64 ∷ (0x38 ∷ (0x30 ∷ (0x30 ∷ (0x5C ∷ (0x75 ∷ (0x64 ∷ []))))))))))  -- 20
    ∷ ((0x2D ∷ [])  -- 21
    ∷ ((0x30 ∷ [])  -- 22
    ∷ ((0x31 ∷ [])  -- 23
    ∷ ((0x30 ∷ (0x2E ∷ []))  -- 24
    ∷ ((0x30 ∷ (0x2E ∷ (0x30 ∷ [])))  -- 25
    ∷ ((0x30 ∷ (0x65 ∷ []))  -- 26
    ∷ ((0x30 ∷ (0x65 ∷ (0x2B ∷ [])))  -- 27
    ∷ ((0x30 ∷ (0x65 ∷ (0x30 ∷ [])))  -- 28
    ∷ ((0x74 ∷ [])  -- 29
    ∷ ((0x74 ∷ (0x72 ∷ []))  -- 30
    ∷ ((0x74 ∷ (0x72 ∷ (0x75 ∷ [])))  -- 31
    ∷ ((0x66 ∷ [])  -- 32
    ∷ ((0x66 ∷ (0x61 ∷ []))  -- 33
    ∷ ((0x66 ∷ (0x61 ∷ (0x6C ∷ [])))  -- 34
    ∷ ((0x6E ∷ [])  -- 35
    ∷ ((0x6E ∷ (0x75 ∷ []))  -- 36
    ∷ ((0x6E ∷ (0x75 ∷ (0x6C ∷ [])))  -- 37
    ∷ [])))))))))))))))))))))))))))))))))))))

record Word (o t : ℕ) (w : List ℕ) : Type 0 where
  value : {c : Control} → Ready o c → run_moves c w ≡ control 5 t o
  name : t ≤ 20 → is_object_top o ≡ true → run_moves (control 2 0 o) w ≡ control 4 t o
  size : length w ≡ cost t
  bytes : all is_byte w ≡ true

run_cons : (c d : Control) (b : ℕ) (w : List ℕ) → move c b ≡ d → run_moves c (b ∷ w) ≡ run_moves d w
unfolding run_moves
run_cons c d b w e = rw e

name_first : (o : ℕ) → is_object_top o ≡ true → move (control 2 0 o) 0x22 ≡ control 4 1 o
unfolding move moved token_move token_moves whole place_move place_moves first_move item_move blank
name_first o e = rw e

value_string : (o : ℕ) → value_move o 0x22 ≡ control 5 1 o
unfolding value_move
value_string o = refl

quote_plain : (blank 0x22 ≡ false) × (eqb 0x22 0x5D ≡ false)
unfolding blank
quote_plain = (refl, refl)

string_word : (o t : ℕ) (w : List ℕ) → run_moves (control 5 1 o) w ≡ control 5 t o → run_moves (control 4 1 o) w ≡ control 4 t o → length (0x22 ∷ w) ≡ cost t → all is_byte (0x22 ∷ w) ≡ true
    → Word o t (0x22 ∷ w)
string_word o t w e f z b = record {
  value = λ r. run_cons _ _ 0x22 w (ready_move 0x22 r quote_plain.0 quote_plain.1 ∙ value_string o) ∙ e;
  name = λ h q. run_cons _ _ 0x22 w (name_first o q) ∙ f;
  size = z;
  bytes = b;
}

other_word : (o t b : ℕ) (w : List ℕ) → blank b ≡ false → eqb b 0x5D ≡ false → run_moves (value_move o b) w ≡ control 5 t o → length (b ∷ w) ≡ cost t → all is_byte (b ∷ w) ≡ true → 20 < t
    → Word o t (b ∷ w)
other_word o t b w p q e z y h = record {
  value = λ r. run_cons _ _ b w (ready_move b r p q) ∙ e;
  name = λ l _. absurd (omega arith);
  size = z;
  bytes = y;
}

Words : ℕ → ℕ → List (List ℕ) → Type 0
Words o t [] = Unit {0}
Words o t (w ∷ l) = Word o t w × Words o (suc t) l

all_words : (o : ℕ) → Words o 0 words
unfolding Words words run_moves move moved token_move token_moves whole text_move wide_move escape_move first_hex_move surrogate_move hex_move low_move is_move byte_move hex_value short_escape within minus_move exponent_move fraction_move sign_move value_move number_move blank all cost costs
all_words o = (
  string_word o 0 _ refl refl refl refl,
  (
    string_word o 1 _ refl refl refl refl,
    (
      string_word o 2 _ refl refl refl refl,
      (
        string_word o 3 _ refl refl refl refl,
        (
          string_word o 4 _ refl refl refl refl,
          (
            string_word o 5 _ refl refl refl refl,
            (
              string_word o 6 _ refl refl refl refl,
              (
                string_word o 7 _ refl refl refl refl,
                (
                  string_word o 8 _ refl refl refl refl,
                  (
                    string_word o 9 _ refl refl refl refl,
                    (
                      string_word o 10 _ refl refl refl refl,
                      (
                        string_word o 11 _ refl refl refl refl,
                        (
                          string_word o 12 _ refl refl refl refl,
                          (
                            string_word o 13 _ refl refl refl refl,
                            (
                              string_word o 14 _ refl refl refl refl,
                              (
                                string_word o 15 _ refl refl refl refl,
                                (
                                  string_word o 16 _ refl refl refl refl,
                                  (
                                    string_word o 17 _ refl refl refl refl,
                                    (
                                      string_word o 18 _ refl refl refl refl,
                                      (
                                        string_word o 19 _ refl refl refl refl,
                                        (
                                          string_word o 20 _ refl refl refl refl,
                                          (
                                            other_word o 21 _ _ refl refl refl refl refl (omega arith),
                                            (
                                              other_word o 22 _ _ refl refl refl refl refl (omega arith),
                                              (
                                                other_word o 23 _ _ refl refl refl refl refl (omega arith),
                                                (
                                                  other_word o 24 _ _ refl refl refl refl refl (omega arith),
                                                  (
                                                    other_word o 25 _ _ refl refl refl refl refl (omega arith),
                                                    (
                                                      other_word o 26 _ _ refl refl refl refl refl (omega arith),
                                                      (
                                                        other_word o 27 _ _ refl refl refl refl refl (omega arith),
                                                        (
                                                          other_word o 28 _ _ refl refl refl refl refl (omega arith),
                                                          (
                                                            other_word o 29 _ _ refl refl refl refl refl (omega arith),
                                                            (
                                                              other_word o 30 _ _ refl refl refl refl refl (omega arith),
                                                              (
                                                                other_word o 31 _ _ refl refl refl refl refl (omega arith),
                                                                (
                                                                  other_word o 32 _ _ refl refl refl refl refl (omega arith),
                                                                  (
                                                                    other_word o 33 _ _ refl refl refl refl refl (omega arith),
                                                                    (
                                                                      other_word o 34 _ _ refl refl refl refl refl (omega arith),
                                                                      (
                                                                        other_word o 35 _ _ refl refl refl refl refl (omega arith),
                                                                        (
                                                                          other_word o 36 _ _ refl refl refl refl refl (omega arith),
                                                                          (other_word o 37 _ _ refl refl refl refl refl (omega arith), tt),
                                                                        ),
                                                                      ),
                                                                    ),
                                                                  ),
                                                                ),
                                                              ),
                                                            ),
                                                          ),
                                                        ),
                                                      ),
                                                    ),
                                                  ),
                                                ),
                                              ),
                                            ),
                                          ),
                                        ),
                                      ),
                                    ),
                                  ),
                                ),
                              ),
                            ),
                          ),
                        ),
                      ),
                    ),
                  ),
                ),
              ),
            ),
          ),
        ),
      ),
    ),
  ),
)

word_at : (o k : ℕ) (l : List (List ℕ)) (t : ℕ) → Words o k l → t < length l → Word o (k + t) (get_or l t [])
unfolding Words
word_at o k [] t r h = absurd (omega arith)
word_at o k (w ∷ l) zero r h = subst (λ (n : ℕ). Word o n w) (omega arith) r.0
word_at o k (w ∷ l) (suc t) r h = subst (λ (n : ℕ). Word o n (get_or l t [])) (omega arith) (word_at o (suc k) l t r.1 (omega arith))

words_long : length words ≡ 38
unfolding words
words_long = refl

word : (o t : ℕ) → t ≤ 37 → Word o t (get_or words t [])
word o t h = subst (λ (n : ℕ). Word o n (get_or words t [])) (omega arith) (word_at o 0 words t (all_words o) (omega (arith, words_long)))

-- ---- each place
module _ (o : ℕ) (some : 1 ≤ o) (bound : o < full_stack + full_stack) where
  pub opened_lead : 2 ≤ o → Lead (control 2 0 o) (opened o)
  opened_lead i = lead_opened 32 o i (omega arith) bound

  ready_lead : LeadReady o (ready o)
  ready_lead = ready_from o (opened o) some opened_lead (λ e. rw e (none 32))

  pub value_lead : is_object_top o ≡ true → Lead (control 1 0 o) (ready o)
  value_lead e = go ready_lead where
    go : LeadReady o (ready o) → Lead (control 1 0 o) (ready o)
    go (lead_ready at_value x) = x
    go (lead_ready (at_array f) x) = let z : ◌≡◌ {A = Bool} true false = sym e ∙ f in let y : ◌≡◌ {A = ℕ} 0 1 = cc in absurd (omega arith)

  zero_comma : {c : Control} → 2 ≤ o → Ready o c → run_moves c (0x30 ∷ (0x2C ∷ [])) ≡ control 3 0 o
  unfolding run_moves value_move number_move minus_move moved token_move token_moves fraction_move exponent_move whole place_move place_moves after_move blank move
  zero_comma {c} i r = run_cons c (value_move o 0x30) 0x30 (0x2C ∷ []) (ready_move 0x30 r refl refl) ∙ rw (le-ltb o 2 i)

  pub next_lead : 2 ≤ o → Lead (control 3 0 o) (ready o + 2)
  unfolding all
  next_lead i = go ready_lead where
    go : LeadReady o (ready o) → Lead (control 3 0 o) (ready o + 2)
    go (lead_ready r x) = lead_on (ready o + 2) (0x30 ∷ (0x2C ∷ [])) x (zero_comma i r) refl refl

  pub colon_lead : (t : ℕ) → 2 ≤ o → is_object_top o ≡ true → t ≤ 20 → Lead (control 4 t o) (opened o + cost t)
  colon_lead t i e h =
      let w = word o t (omega arith) in
      lead_on _ (get_or words t []) (opened_lead i) (w.name h e) w.bytes (ap (λ (n : ℕ). opened o + n) w.size)

  pub after_lead : (t : ℕ) → t ≤ 37 → Lead (control 5 t o) (ready o + cost t)
  after_lead t h = go ready_lead where
    go : LeadReady o (ready o) → Lead (control 5 t o) (ready o + cost t)
    go (lead_ready r x) =
        let w = word o t h in
        lead_on _ (get_or words t []) x (w.value r) w.bytes (ap (λ (n : ℕ). ready o + n) w.size)

-- ---- blanks before it
spaces : ℕ → List ℕ
spaces zero = []
spaces (suc n) = 0x20 ∷ spaces n

spaces_run : (n : ℕ) (s : List ℕ) → run_moves start (spaces n ++ s) ≡ run_moves start s
unfolding spaces run_moves move moved token_move token_moves whole place_move blank
spaces_run zero s = refl
spaces_run (suc n) s = spaces_run n s

spaces_long : (n : ℕ) → length (spaces n) ≡ n
unfolding spaces
spaces_long zero = refl
spaces_long (suc n) = ap suc (spaces_long n)

spaces_bytes : (n : ℕ) → all is_byte (spaces n) ≡ true
unfolding spaces all
spaces_bytes zero = refl
spaces_bytes (suc n) = spaces_bytes n

pub lead_more : {c : Control} {n : ℕ} (m : ℕ) → Lead c n → n ≤ m → Lead c m
lead_more {c} {n} m (lead s r z y) h =
    lead (spaces (m - n) ++ s) (spaces_run (m - n) s ∙ r) (length-append (spaces (m - n)) s ∙ omega (arith, spaces_long (m - n), z))
    (all_append is_byte (spaces (m - n)) s (spaces_bytes (m - n)) y)

-- ---- a lost text
xs : ℕ → List ℕ
xs zero = []
xs (suc n) = 0x78 ∷ xs n

xs_long : (n : ℕ) → length (xs n) ≡ n
unfolding xs
xs_long zero = refl
xs_long (suc n) = ap suc (xs_long n)

xs_bytes : (n : ℕ) → all is_byte (xs n) ≡ true
unfolding xs all
xs_bytes zero = refl
xs_bytes (suc n) = xs_bytes n

pub lost_lead : (n : ℕ) → 1 ≤ n → Lead lost n
unfolding xs run_moves move moved token_move token_moves whole place_move place_moves blank value_move number_move minus_move byte_move within
lost_lead zero h = absurd (omega arith)
lost_lead (suc n) h = lead (xs (suc n)) (run_lost (xs n)) (xs_long (suc n)) (xs_bytes (suc n))
