-- A string's body by itself is the grammar's characters, and its decoded text is what they mean, in valid UTF-8.
use Rattle.json_blocks.specs.declared.Cursor.{Cursor}
use Rattle.std.specs.Prelude.{None, Option, Some}
use mathlib.Core.Path.{◌≡◌, refl, sym, ap, subst, ◌∙◌}
use mathlib.Core.Bool.{Bool, true, false}
use mathlib.Core.Logic.{◌↔◌}
use mathlib.Core.List.{List, [], ◌∷◌, ◌++◌}
use Prim.Native.Nat.{ℕ, zero, suc, ◌≤◌, ◌<◌, ◌+◌, ◌*◌, ◌-◌, ◌/◌, ◌%◌}
use native.Mathlib.Omega.{arith}
use lib.ListN.{length, take, drop}
use lib.Seq.{take_at}
use lib.Dec.{eqb, ltb, leb}
use borrow.Author.Tests.{eq-eqb, ne_eqb, lt-ltb, ltb-true, ltb-false, leb-true, eqb-true, eqb-false}
use Rattle.json_blocks.specs.Turns.{Turn, after_turn, run_turns, run_text}
use Rattle.json_blocks.specs.TextBytes.{byte, to}
use Rattle.json_characters.specs.String.{character_at}
use Rattle.json_blocks.proofs.ByteLaws.{inside, cond_elim, within_below, within_above}
use Rattle.json_characters.proofs.StringLaws.{character_inside}
use Rattle.json_grammar.specs.Grammar as G
use Rattle.json_grammar.specs.Grammar.{Between, Multibyte, row2, row3, row4, row5, row6, row7, row8, row9, Short, Character, Characters, no_characters, characters}
use Rattle.json_grammar.specs.Stands.{Stands}
use Rattle.json_grammar.proofs.Stands.{stands_none, stands_head, stands_tail, stands_inside, stands_left, stands_right, stands_join}
use Rattle.json_grammar.proofs.Derived.{Derived, derived, stands_nil, stands_next, stands_whole, stands_all, Got, got, not_got}
use Rattle.json_grammar.proofs.Skips.{is_between}
use Rattle.json_grammar.proofs.Strings.{character_sound, character_complete, CodeAt, unit_complete, unit_limit}
use Rattle.json_grammar.proofs.SkipLaws.{All, Ordinary, multibyte_ordinary}
use Rattle.json_strings.specs.declared.Step.{Step}
use Rattle.json_strings.specs.Decode.{short_code, pair_code, unicode_unit, escape_unit, unit_at, unit_bytes, unit_end, ends_string, decoded_from, body_onward, body_turn, is_body}
use Rattle.json_strings.specs.Utf8.{utf8}
use Rattle.json_strings.specs.Characters.{four, step_of, step_at, stepped}
use Rattle.json_strings.specs.Utf8.{Scalar, below, above, Encoded, single, several, Utf8, no_text, text}
use Rattle.json_strings.specs.Meaning.{Letter, quotation_mark, reverse_solidus, solidus, backspace, form_feed, new_line, return, tabulation}
use Rattle.json_strings.specs.Meaning.{Meaning, plain, multibyte, short, unit, surrogates, Means, nothing, next, step_raw, step_bytes, Steps, end, step}
use Rattle.json_strings.proofs.DecodeLaws.{ends_over, ends_quote, ends_not, from_end, from_unit, unit_plain, low_4, unicode_2, unicode_4, past_character, body_end, body_on}
use Rattle.json_strings.proofs.StepLaws.{step_end, step_unit, step_raw_lem}

-- ---- a body is characters
-- characters stand from i up to the end
data Whole (s : List ℕ) (i : ℕ) : Type 0 where
  whole : {k : ℕ} → Derived Characters s i k → length s ≤ k → Whole s i

whole_on : {s : List ℕ} {i j : ℕ} → Derived Character s i j → Whole s j → Whole s i
whole_on {s} (derived p q) (whole (derived r t) l) = whole (derived (characters p r) (stands_join s q t)) l

-- a turn that goes on passes a character
whole_turn : {s : List ℕ} {i : ℕ} {f : ℕ → Bool} {r : (Option Cursor)} → ((j : ℕ) → f j ≡ true → Whole s j) → Got (Derived Character s i) r
    → after_turn (body_onward r) f ≡ true → Whole s i
whole_turn f (got {c} p) e = whole_on p (f c.at e)
whole_turn f not_got e = let z : ◌≡◌ {A = ℕ} 0 1 = cc in absurd (omega arith)

body_sound : (s : List ℕ) (n i : ℕ) → run_turns false (body_turn s) n i ≡ true → Whole s i
unfolding run_turns body_turn
body_sound s zero i = λ e. let z : ◌≡◌ {A = ℕ} 0 1 = cc in absurd (omega arith)
body_sound s (suc n) i =
    cond_elim P (leb (length s) i) _ _ (λ q _. whole (derived no_characters (stands_none s i)) (leb-true _ _ q))
    (λ _. cond_elim P (eqb (byte s i) 0x22) _ _ (λ _ e. let z : ◌≡◌ {A = ℕ} 0 1 = cc in absurd (omega arith))
    (λ q. whole_turn (body_sound s n) (character_sound s i (eqb-false _ _ q))))
  where
    P : Turn Bool → Type 0
    P t = after_turn t (run_turns false (body_turn s) n) ≡ true → Whole s i

body_complete : {s cs : List ℕ} {i k : ℕ} → Characters cs → Stands s i cs k → length s ≤ k → run_text s false (body_turn s) i ≡ true
body_complete {s} {i} no_characters q l = sym (body_end s i (omega (arith, stands_nil q)))
body_complete {s} {i} (characters {c} {cs} p r) q l =
    let f = character_complete p (stands_left s c cs q) in
    sym (body_on s i (character_inside s i _ f.reads) f.inner _ refl _ f.reads) ∙ body_complete r (stands_right s c cs q) l

pub body_is_characters : (s : List ℕ) → (is_body s ≡ true) ↔ Characters s
unfolding is_body run_text
body_is_characters s = (λ e. go (body_sound s (suc (length s)) 0 e), λ p. body_complete p (stands_all s) (omega arith)) where
  go : Whole s 0 → Characters s
  go (whole (derived p q) l) = subst Characters (stands_whole q l) p

-- ---- UTF-8
-- below a limit or from it on
split : {A : Type 0} (p m : ℕ) → (p < m → A) → (m ≤ p → A) → A
split {A} p m f g = go (ltb p m) refl where
  go : (t : Bool) → ltb p m ≡ t → A
  go true e = f (ltb-true p m e)
  go false e = g (ltb-false p m e)

equal_or : {A : Type 0} (a b : ℕ) → (a ≡ b → A) → ((a ≡ b → ⊥) → A) → A
equal_or {A} a b f g = go (eqb a b) refl where
  go : (t : Bool) → eqb a b ≡ t → A
  go true e = f (eqb-true a b e)
  go false e = g (eqb-false a b e)

-- by a first byte that is a numeral
led : {a k : ℕ} {t : List ℕ} → a ≡ k → Multibyte (k ∷ t) → Multibyte (a ∷ t)
led {t} e m = subst (λ (b : ℕ). Multibyte (b ∷ t)) (sym e) m

module _ (p : ℕ) where
  three_bytes_lem : Scalar p → 0x800 ≤ p → p < 0x10000 → Multibyte ((0xE0 + p / 0x1000) ∷ ((0x80 + p / 0x40 % 0x40) ∷ ((0x80 + p % 0x40) ∷ [])))
  three_bytes_lem (below h) l m =
      split p 0x1000 (λ k. led {k = 0xE0} (omega arith) (row3 (omega arith) (omega arith)))
      (λ k. split p 0xD000 (λ n. row4 (omega arith) (omega arith) (omega arith))
      (λ n. led {k = 0xED} (omega arith) (row5 (omega arith) (omega arith))))
  three_bytes_lem (above h) l m = led refl (row6 (omega arith) (omega arith) (omega arith))

  four_bytes : 0x10000 ≤ p → p ≤ 0x10FFFF
      → Multibyte ((0xF0 + p / 0x40000) ∷ ((0x80 + p / 0x1000 % 0x40) ∷ ((0x80 + p / 0x40 % 0x40) ∷ ((0x80 + p % 0x40) ∷ []))))
  four_bytes l m =
      split p 0x40000 (λ k. led {k = 0xF0} (omega arith) (row7 (omega arith) (omega arith) (omega arith)))
      (λ k. split p 0x100000 (λ n. row8 (omega arith) (omega arith) (omega arith) (omega arith))
      (λ n. led {k = 0xF4} (omega arith) (row9 (omega arith) (omega arith) (omega arith))))

  scalar_limit : Scalar p → p ≤ 0x10FFFF
  scalar_limit (below h) = omega arith
  scalar_limit (above h) = h.high

  -- every scalar value is encoded as one character
  pub utf8_encodes : Scalar p → Encoded (utf8 p)
  unfolding utf8
  utf8_encodes h =
      cond_elim Encoded (ltb p 0x80) _ _ (λ e. let l = ltb-true p 0x80 e in single (omega arith))
      (λ e. cond_elim Encoded (ltb p 0x800) _ _
      (λ f. let l = ltb-false p 0x80 e in let m = ltb-true p 0x800 f in several (row2 (omega arith) (omega arith)))
      (λ f. cond_elim Encoded (ltb p 0x10000) _ _ (λ g. several (three_bytes_lem h (ltb-false p 0x800 f) (ltb-true p 0x10000 g)))
      (λ g. several (four_bytes (ltb-false p 0x10000 g) (scalar_limit h)))))

utf8_ascii : (p : ℕ) → p ≤ 0x7F → utf8 p ≡ p ∷ []
unfolding utf8
utf8_ascii p h = rw (lt-ltb p 0x80 (omega arith))

-- ---- units
letter_code : {b p : ℕ} → Letter b p → (short_code b ≡ p) × (p ≤ 0x7F)
unfolding short_code
letter_code quotation_mark = (refl, omega arith)
letter_code reverse_solidus = (refl, omega arith)
letter_code solidus = (refl, omega arith)
letter_code backspace = (refl, omega arith)
letter_code form_feed = (refl, omega arith)
letter_code new_line = (refl, omega arith)
letter_code return = (refl, omega arith)
letter_code tabulation = (refl, omega arith)

module _ {s : List ℕ} {i : ℕ} where
  short_unit : {b p j : ℕ} → Letter b p → Stands s i (0x5C ∷ (b ∷ [])) j → unit_at s i ≡ Some (p, j)
  unfolding unit_at escape_unit
  short_unit {p} l q =
      let c = letter_code l in
      let r = stands_tail s q in
      rw (stands_head s q, stands_head s r, c.0, ne_eqb p 256 (omega (arith, c.1)), stands_next r)

  -- the escape of a code unit is what follows `\u`
  code_unit : {n k : ℕ} {w : (Option (ℕ × ℕ))} → CodeAt s i n k → w ≡ unicode_unit s (i + 2) → unit_at s i ≡ w
  unfolding unit_at escape_unit short_code
  code_unit c e = rw (c.slash, c.letter, e) (ap (unicode_unit s) (omega arith))

  single_unit : {n k : ℕ} → CodeAt s i n k → Scalar n → unit_at s i ≡ Some (n, k)
  single_unit {n} {k} c (below h) =
      code_unit c (unicode_4 s (i + 2) _ refl n (record { at = k }) c.code (sym (within_below _ _ n (omega arith))) (sym (within_below _ _ n (omega arith))))
  single_unit {n} {k} c (above h) =
      code_unit c (unicode_4 s (i + 2) _ refl n (record { at = k }) c.code (within_above _ _ n (omega arith)) (within_above _ _ n (omega arith)))

  pair_unit : {n m k j : ℕ} → CodeAt s i n k → Between 0xD800 0xDBFF n → CodeAt s k m j → Between 0xDC00 0xDFFF m
      → unit_at s i ≡ Some ((0x10000 + (n - 0xD800) * 0x400 + (m - 0xDC00)), j)
  unfolding pair_code
  pair_unit {n} {m} {k} {j} c h d g =
      code_unit c
      (unicode_2 s (i + 2) _ refl n (record { at = k }) c.code _ (is_between h)
      (low_4 s n k _ (sym d.slash) _ refl (sym d.letter) _ refl refl m (record { at = j }) d.code _ (is_between g) refl))

-- ---- what characters mean is what they are decoded to
ordinary_from : {s : List ℕ} (xs : List ℕ) {i j : ℕ} → All Ordinary xs → Stands s i xs j → decoded_from s i ≡ xs ++ decoded_from s j
ordinary_from {s} [] h q = ap (decoded_from s) (stands_nil q)
ordinary_from {s} (b ∷ xs) {i} h q =
    let e = stands_head s q in
    from_unit s i None (ends_not s i (stands_inside s q) (rw e h.0.0)) (unit_plain s i (rw e h.0.1))
    ∙ rw (e, ordinary_from xs h.1 (stands_tail s q))

escape_from : (s : List ℕ) (i : ℕ) {j p : ℕ} → byte s i ≡ 0x5C → unit_at s i ≡ Some (p, j) → decoded_from s i ≡ utf8 p ++ decoded_from s j
escape_from s i {j} {p} e u = from_unit s i (Some (p, j)) (ends_not s i (inside s i 0x5C (sym e) (omega arith)) (λ z. omega arith)) u

meaning_from : {s c t : List ℕ} {i j : ℕ} → Meaning c t → Stands s i c j → decoded_from s i ≡ t ++ decoded_from s j
meaning_from (plain {b} h f g) q = ordinary_from (b ∷ []) ((f, g), tt) q
meaning_from (multibyte {c} m) q = ordinary_from c (multibyte_ordinary m) q
meaning_from {s} {i} {j} (short {p} l) q =
    escape_from s i (stands_head s q) (short_unit l q) ∙ ap (λ (x : List ℕ). x ++ decoded_from s j) (utf8_ascii p (letter_code l).1)
meaning_from {s} {i} (unit c h) q = let u = unit_complete c q in escape_from s i u.slash (single_unit u h)
meaning_from {s} {i} (surrogates {u} {v} c h d g) q =
    let a = unit_complete c (stands_left s u v q) in
    escape_from s i a.slash (pair_unit a h (unit_complete d (stands_right s u v q)) g)

means_from : {s cs t : List ℕ} {i k : ℕ} → Means cs t → Stands s i cs k → ends_string s k ≡ true → decoded_from s i ≡ t
means_from {s} {k} nothing q e = ap (decoded_from s) (stands_nil q) ∙ from_end s k e
means_from {s} (next {c} {t} {cs} m r) q e =
    meaning_from m (stands_left s c cs q) ∙ ap (λ (x : List ℕ). t ++ x) (means_from r (stands_right s c cs q) e)

-- characters are decoded to what they mean
pub means_decoded : {s t : List ℕ} → Means s t → decoded_from s 0 ≡ t
means_decoded {s} m = means_from m (stands_all s) (ends_over s (length s) (omega arith))

-- ---- every character has a meaning, and it is one character in UTF-8
short_means : {b : ℕ} → Short b → (p : ℕ) × Letter b p
short_means G.quotation_mark = (_, quotation_mark)
short_means G.reverse_solidus = (_, reverse_solidus)
short_means G.solidus = (_, solidus)
short_means G.backspace = (_, backspace)
short_means G.form_feed = (_, form_feed)
short_means G.new_line = (_, new_line)
short_means G.return = (_, return)
short_means G.tabulation = (_, tabulation)

character_means : {c : List ℕ} → Character c → (t : List ℕ) × Meaning c t
character_means (G.plain h f g) = (_, plain h f g)
character_means (G.multibyte m) = (_, multibyte m)
character_means (G.short p) = let l = short_means p in (_, short l.1)
character_means (G.below u h) = (_, unit u (below h))
character_means (G.above u h) = (_, unit u (above (omega arith)))
character_means (G.surrogates u h v g) = (_, surrogates u h v g)

characters_mean : {cs : List ℕ} → Characters cs → (t : List ℕ) × Means cs t
characters_mean no_characters = (_, nothing)
characters_mean (characters p r) = let m = character_means p in let n = characters_mean r in (_, next m.1 n.1)

-- and what has a meaning is a character
letter_short : {b p : ℕ} → Letter b p → Short b
letter_short quotation_mark = G.quotation_mark
letter_short reverse_solidus = G.reverse_solidus
letter_short solidus = G.solidus
letter_short backspace = G.backspace
letter_short form_feed = G.form_feed
letter_short new_line = G.new_line
letter_short return = G.return
letter_short tabulation = G.tabulation

meaning_character : {c t : List ℕ} → Meaning c t → Character c
meaning_character (plain h f g) = G.plain h f g
meaning_character (multibyte m) = G.multibyte m
meaning_character (short l) = G.short (letter_short l)
meaning_character (unit u (below h)) = G.below u h
meaning_character (unit u (above h)) = G.above u (record { low = h.low; high = unit_limit u })
meaning_character (surrogates u h v g) = G.surrogates u h v g

pub means_characters : {cs t : List ℕ} → Means cs t → Characters cs
means_characters nothing = no_characters
means_characters (next m r) = characters (meaning_character m) (means_characters r)

meaning_encoded : {c t : List ℕ} → Meaning c t → Encoded t
meaning_encoded (plain h f g) = single h.high
meaning_encoded (multibyte m) = several m
meaning_encoded (short l) = single (letter_code l).1
meaning_encoded (unit {n} u h) = utf8_encodes n h
meaning_encoded (surrogates u h v g) = utf8_encodes _ (above (omega arith))

means_utf8 : {cs t : List ℕ} → Means cs t → Utf8 t
means_utf8 nothing = no_text
means_utf8 (next m r) = text (meaning_encoded m) (means_utf8 r)

-- ---- a character at a time
four_all : (l : List ℕ) → length l ≤ 4 → take (length l) (four l) ≡ l
four_all [] h = refl
four_all (a ∷ []) h = refl
four_all (a ∷ (b ∷ [])) h = refl
four_all (a ∷ (b ∷ (c ∷ []))) h = refl
four_all (a ∷ (b ∷ (c ∷ (d ∷ [])))) h = refl
four_all (a ∷ (b ∷ (c ∷ (d ∷ (e ∷ l))))) h = absurd (omega arith)

utf8_short : (p : ℕ) → length (utf8 p) ≤ 4
unfolding utf8
utf8_short p =
    cond_elim P (ltb p 0x80) _ _ (λ _. omega arith)
    (λ _. cond_elim P (ltb p 0x800) _ _ (λ _. omega arith) (λ _. cond_elim P (ltb p 0x10000) _ _ (λ _. omega arith) (λ _. omega arith)))
  where
    P : List ℕ → Type 0
    P l = length l ≤ 4

unit_short : (s : List ℕ) (at : ℕ) (u : Option (ℕ × ℕ)) → length (unit_bytes s at u) ≤ 4
unit_short s at None = omega arith
unit_short s at (Some (p, j)) = utf8_short p

multibyte_short : {c : List ℕ} → Multibyte c → length c ≤ 4
multibyte_short (row2 h g) = omega arith
multibyte_short (row3 h g) = omega arith
multibyte_short (row4 h g f) = omega arith
multibyte_short (row5 h g) = omega arith
multibyte_short (row6 h g f) = omega arith
multibyte_short (row7 h g f) = omega arith
multibyte_short (row8 h g f e) = omega arith
multibyte_short (row9 h g f) = omega arith

encoded_short : {t : List ℕ} → Encoded t → length t ≤ 4
encoded_short (single h) = omega arith
encoded_short (several m) = multibyte_short m

pub stands_part : {s xs : List ℕ} {i j : ℕ} → Stands s i xs j → take (j - i) (drop i s) ≡ xs
stands_part {s} {xs} {i} {j} q =
    let n : length xs ≡ j - i = omega (arith, q.end) in
    ap (take (j - i)) q.rest ∙ take_at xs (drop j s) (j - i) n

-- raw bytes that are one character are one step
raw_step_lem : {s : List ℕ} (c : List ℕ) {i j : ℕ} → Character c → Stands s i c j → All Ordinary c → step_at s i ≡ step_of c j
raw_step_lem {s} [] {i} {j} p q h =
    let l = past_character s i (record { at = j }) (character_complete p q).reads in
    let e = stands_nil q in
    absurd (omega arith)
raw_step_lem {s} (b ∷ xs) {i} {j} p q h =
    let f = character_complete p q in
    sym (step_raw_lem s i (stands_inside s q) (rw (stands_head s q) h.0.1) f.inner (to j) (sym f.reads) (to j) refl)
    ∙ ap (λ (x : List ℕ). step_of x j) (stands_part q)

escape_step : (s : List ℕ) (i : ℕ) {j p : ℕ} → byte s i ≡ 0x5C → unit_at s i ≡ Some (p, j) → step_at s i ≡ step_of (utf8 p) j
unfolding step_at
escape_step s i {j} {p} e u = rw (ends_not s i (inside s i 0x5C (sym e) (omega arith)) (λ z. omega arith), eq-eqb _ _ e, u)

meaning_step : {s c t : List ℕ} {i j : ℕ} → Meaning c t → Stands s i c j → step_at s i ≡ step_of t j
meaning_step (plain {b} h f g) q = raw_step_lem (b ∷ []) (G.plain h f g) q ((f, g), tt)
meaning_step (multibyte {c} m) q = raw_step_lem c (G.multibyte m) q (multibyte_ordinary m)
meaning_step {s} {i} {j} (short {p} l) q =
    escape_step s i (stands_head s q) (short_unit l q) ∙ ap (λ (x : List ℕ). step_of x j) (utf8_ascii p (letter_code l).1)
meaning_step {s} {i} (unit c h) q = let u = unit_complete c q in escape_step s i u.slash (single_unit u h)
meaning_step {s} {i} (surrogates {u} {v} c h d g) q =
    let a = unit_complete c (stands_left s u v q) in
    escape_step s i a.slash (pair_unit a h (unit_complete d (stands_right s u v q)) g)

step_as : {s c t ts : List ℕ} {i j : ℕ} → step_at s i ≡ step_of t j → take (j - i) (drop i s) ≡ c → Meaning c t → Encoded t → Steps s j ts → Steps s i (t ++ ts)
step_as {s} {c} {t} {ts} {i} {j} e p m n r =
    let raw : step_raw s i ≡ c = ap (λ (x : Step). take (x.at - i) (drop i s)) e ∙ p in
    let bytes : step_bytes s i ≡ t = ap (λ (x : Step). take x.len x.bytes) e ∙ four_all t (encoded_short n) in
    let past : (step_at s i).at ≡ j = ap (λ (x : Step). x.at) e in
    subst (λ (x : List ℕ). Steps s i (x ++ ts)) bytes
    (step (subst (λ (x : List ℕ). Meaning x (step_bytes s i)) (sym raw) (subst (Meaning c) (sym bytes) m)) (subst Encoded (sym bytes) n)
    (subst (λ (x : ℕ). Steps s x ts) (sym past) r))

means_steps : {s cs t : List ℕ} {i k : ℕ} → Means cs t → Stands s i cs k → ends_string s k ≡ true → Steps s i t
means_steps {s} {i} {k} nothing q e = end (ap (λ (r : Step). r.len) (sym (step_end s i (rw (stands_nil q) e))))
means_steps {s} (next {c} {cs = cs} m r) q e =
    let l = stands_left s c cs q in
    step_as (meaning_step m l) (stands_part l) m (meaning_encoded m) (means_steps r (stands_right s c cs q) e)

-- what a body is decoded to is what its characters mean
pub body_means : (s : List ℕ) → is_body s ≡ true → Means s (decoded_from s 0)
body_means s e = let m = (characters_mean ((body_is_characters s).0 e)).1 in rw (means_decoded m) m

-- and valid UTF-8
pub body_utf8 : (s : List ℕ) → is_body s ≡ true → Utf8 (decoded_from s 0)
body_utf8 s e = means_utf8 (body_means s e)

-- the steps from its beginning on yield it, a character each
pub body_steps : (s : List ℕ) → is_body s ≡ true → Steps s 0 (decoded_from s 0)
body_steps s e = means_steps (body_means s e) (stands_all s) (ends_over s (length s) (omega arith))

module _ (s : List ℕ) (at : ℕ) where
  said : (l : List ℕ) (j : ℕ) → step_at s at ≡ step_of l j → length l ≤ 4 → decoded_from s at ≡ l ++ decoded_from s j → stepped s (step_at s at) ≡ decoded_from s at
  said l j e h d = ap (stepped s) e ∙ ap (λ (x : List ℕ). x ++ decoded_from s j) (four_all l h) ∙ sym d

  end_said : ends_string s at ≡ true → stepped s (step_at s at) ≡ decoded_from s at
  end_said e = said [] at (sym (step_end s at e)) (omega arith) refl

  module _ (l : at < length s) (q : byte s at ≡ 0x22 → ⊥) where
    escape_said : byte s at ≡ 0x5C → stepped s (step_at s at) ≡ decoded_from s at
    unfolding unit_at
    escape_said e =
        let u = unit_at s at in
        let f : u ≡ escape_unit s (at + 1) = rw (eq-eqb _ _ e) in
        said (unit_bytes s at u) (unit_end at u) (sym (step_unit s at l e u f u refl)) (unit_short s at u) (from_unit s at u (ends_not s at l q) refl)

    raw_said : (byte s at ≡ 0x5C → ⊥) → stepped s (step_at s at) ≡ decoded_from s at
    raw_said h = go refl (character_sound s at q) where
      go : {r : (Option Cursor)} → character_at s at ≡ r → Got (Derived Character s at) r → stepped s (step_at s at) ≡ decoded_from s at
      go e (got {c} (derived p d)) = let m = character_means p in said m.0 c.at (meaning_step m.1 d) (encoded_short (meaning_encoded m.1)) (meaning_from m.1 d)
      go e not_got = said (byte s at ∷ []) (at + 1) (sym (step_raw_lem s at l h q None (sym e) None refl)) (omega arith) (from_unit s at None (ends_not s at l q) (unit_plain s at h))

  -- whatever the bytes are, a step yields the beginning of the decoded text, which goes on past it
  pub step_decoded : stepped s (step_at s at) ≡ decoded_from s at
  step_decoded =
      split at (length s)
      (λ l. equal_or (byte s at) 0x22 (λ e. end_said (ends_quote s at l e)) (λ q. equal_or (byte s at) 0x5C (escape_said l q) (raw_said l q)))
      (λ l. end_said (ends_over s at l))

-- a string that stands in a text is decoded as its characters are by themselves
pub decoded_local : {s cs : List ℕ} {i k : ℕ} → Characters cs → Stands s i cs k → byte s k ≡ 0x22 → decoded_from s i ≡ decoded_from cs 0
decoded_local {s} {k} p q e =
    let m = (characters_mean p).1 in
    means_from m q (ends_quote s k (inside s k 0x22 (sym e) (omega arith)) e) ∙ sym (means_decoded m)
