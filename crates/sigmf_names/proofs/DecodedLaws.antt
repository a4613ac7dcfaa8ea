-- A raw name and its decoded text: names that stand for themselves, and how the text is counted and written, byte by byte.
use Rattle.std.specs.Prelude.{None, Option, Some}
use mathlib.Core.Path.{◌≡◌, refl, sym, ap, ◌∙◌}
use mathlib.Core.Bool.{Bool, true, false, ◌&&◌}
use mathlib.Core.List.{List, [], ◌∷◌, ◌++◌, append_assoc, append-nil}
use Prim.Native.Nat.{ℕ, suc, ◌≤◌, ◌<◌, ◌+◌}
use native.Mathlib.Omega.{arith}
use native.Mathlib.Numerals.{add-one}
use Rattle.std.specs.List.{list_all}
use lib.ListN.{length, take, set, length-set}
use lib.Seq.{length-take-le, take_all, take_at, take-suc-set}
use lib.Dec.{eqb, ltb, leb}
use borrow.Author.Tests.{le-leb, leb-true, leb-false, ltb-true, ltb-false, eqb-true}
use Rattle.json_blocks.specs.TextBytes.{byte}
use Rattle.json_blocks.specs.Blocks.{ordinary_byte, block_at}
use Rattle.json_blocks.specs.Lists.{all}
use Rattle.json_blocks.proofs.BlockLaws.{and_left, and_right, ordinary_is, all_of, all_each, block_good}
use Rattle.json_strings.specs.declared.Position.{Position}
use Rattle.json_strings.specs.Stream.{start_at, next_byte, stream}
use Rattle.json_strings.proofs.DecodeLaws.{plain_whole, next_plain, stream_start, streamed_next, streamed_end}
use Rattle.sigmf_datatypes.proofs.Laws.{all_at_lem}
use Rattle.sigmf_texts.specs.Texts.{name_text}
use Rattle.sigmf_names.specs.DecodedCode.{direct_at}

-- ---- a name of bytes that stand for themselves is its own decoded text
abbrev pub OrdinaryTo : List ℕ → ℕ → Type 0
OrdinaryTo s i = (j : ℕ) → j < i → ordinary_byte (byte s j) ≡ true

each : (s : List ℕ) → all ordinary_byte s ≡ true → OrdinaryTo s (length s)
each s e j l = all_at_lem ordinary_byte s j 0 e l

itself : (s : List ℕ) → all ordinary_byte s ≡ true → name_text s ≡ s
itself s e = plain_whole s (λ i h. let o = ordinary_is (byte s i) (each s e i h) in (o.slash, o.quote))

all_ordinary : (s : List ℕ) → OrdinaryTo s (length s) → all ordinary_byte s ≡ true
unfolding all
all_ordinary [] h = refl
all_ordinary (b ∷ s) h = rw (h 0 (omega arith)) (all_ordinary s (λ j l. h (suc j) (omega arith)))

pub listed : (test : ℕ → Bool) (s : List ℕ) → list_all test s ≡ all test s
unfolding all
listed test [] = refl
listed test (b ∷ s) = ap (λ (t : Bool). test b && t) (listed test s)

-- ---- in blocks of eight, the last one being that at the name's end
module _ (s : List ℕ) where
  pub blocks_on : (i : ℕ) → OrdinaryTo s i → block_at ordinary_byte s i ≡ true → OrdinaryTo s (i + 8)
  blocks_on i u h j l = go (ltb j i) refl where
    go : (t : Bool) → ltb j i ≡ t → ordinary_byte (byte s j) ≡ true
    go true e = u j (ltb-true _ _ e)
    go false e = all_each ordinary_byte s 8 i (block_good ordinary_byte s i h) j (ltb-false _ _ e) l

  pub blocks_not : (i : ℕ) → i + 8 ≤ length s → block_at ordinary_byte s i ≡ false → false ≡ all ordinary_byte s
  blocks_not i l h = go (all ordinary_byte s) refl where
    go : (t : Bool) → all ordinary_byte s ≡ t → false ≡ t
    go false e = refl
    go true e =
        sym h ∙ rw (le-leb (i + 8) (length s) l) (all_of ordinary_byte s 8 i (λ j a b. each s e j (omega arith)))

  pub blocks_end : (i last : ℕ) → last + 8 ≡ length s → last ≤ i → OrdinaryTo s i → (r : Bool) → r ≡ block_at ordinary_byte s last
      → r ≡ all ordinary_byte s
  blocks_end i last e l u true q = sym (all_ordinary s (λ j m. go j m (ltb j i) refl)) where
    go : (j : ℕ) → j < length s → (t : Bool) → ltb j i ≡ t → ordinary_byte (byte s j) ≡ true
    go j m true p = u j (ltb-true _ _ p)
    go j m false p =
        let k = ltb-false j i p in
        all_each ordinary_byte s 8 last (block_good ordinary_byte s last (sym q)) j (omega arith) (omega arith)
  blocks_end i last e l u false q = blocks_not last (omega arith) (sym q)

-- ---- a byte that stands for itself
module _ (s : List ℕ) (p : Position) (h : direct_at s p ≡ true) where
  direct_start : p.passed ≡ 0
  unfolding direct_at
  direct_start = eqb-true _ _ (and_left (eqb p.passed 0) _ (and_left (eqb p.passed 0 && ltb p.at (length s)) _ h))

  pub direct_inside : p.at < length s
  unfolding direct_at
  direct_inside = ltb-true _ _ (and_right (eqb p.passed 0) _ (and_left (eqb p.passed 0 && ltb p.at (length s)) _ h))

  pub direct_next : Some ((byte s p.at), (start_at (p.at + 1))) ≡ next_byte s p
  unfolding direct_at
  direct_next =
      let o = ordinary_is (byte s p.at) (and_right (eqb p.passed 0 && ltb p.at (length s)) _ h) in
      next_plain s p direct_inside o.slash o.quote direct_start

-- ---- counting the decoded text, up to a limit: n bytes of it are passed
pub record Counted (s : List ℕ) (limit : ℕ) (p : Position) (n : ℕ) : Type 0 where
  pub below : n ≤ limit
  pub rest : n + length (stream s p) ≡ length (name_text s)

pub count_start : (s : List ℕ) (limit : ℕ) → Counted s limit (start_at 0) 0
count_start s limit = record { below = omega arith; rest = omega (arith, ap length (stream_start s 0)) }

module _ (s : List ℕ) (limit : ℕ) (p : Position) (n : ℕ) (c : Counted s limit p n) where
  pub count_full : limit ≤ n → limit ≡ length (take limit (name_text s))
  count_full h = omega (arith, c.below, length-take-le limit (name_text s) (omega (arith, c.rest)))

  module _ (g : Option (ℕ × Position)) (e : g ≡ next_byte s p) where
    pub count_on : (b : ℕ) (q : Position) → n < limit → g ≡ Some (b, q) → Counted s limit q (n + 1)
    count_on b q l h = record { below = omega arith; rest = omega (arith, c.rest, ap length (streamed_next s p g e b q h)) }

    pub count_end : g ≡ None → n ≡ length (take limit (name_text s))
    count_end h =
        let m : n ≡ length (name_text s) = omega (arith, c.rest, ap length (streamed_end s p g e h)) in
        rw (take_all limit (name_text s) (omega (arith, c.below))) m

-- ---- writing it into a small memory: n bytes of it stand there, the rest is the stream from position o on
-- m is the memory before, out is it now
pub record Put (s m : List ℕ) (o : Position) (n : ℕ) (out : List ℕ) : Type 0 where
  pub long : length out ≡ length m
  pub room : n ≤ length out
  pub text : take n out ++ stream s o ≡ name_text s

pub put_start : (s m : List ℕ) → Put s m (start_at 0) 0 m
put_start s m = record { long = refl; room = omega arith; text = stream_start s 0 }

module _ (s m : List ℕ) (o : Position) (n : ℕ) (out : List ℕ) (p : Put s m o n out) where
  pub put_full : length m ≤ n → take (length out) out ≡ take (length m) (name_text s)
  put_full h =
      let e : length out ≡ n = omega (arith, p.room, p.long) in
      let l : length (take n out) ≡ length m = length-take-le n out p.room ∙ omega (arith, p.room, p.long) in
      rw (e, ← p.text) (sym (take_at (take n out) (stream s o) (length m) l))

  module _ (g : Option (ℕ × Position)) (e : g ≡ next_byte s o) (h : n < length m) where
    pub put_on : (b : ℕ) (i : Position) → g ≡ Some (b, i) → Put s m i (n + 1) (set out n b)
    put_on b i q = record {
      long = length-set out n b ∙ p.long;
      room = rw (length-set out n b) (omega arith);
      text =
          rw (add-one n, take-suc-set out n b (omega (arith, p.long)))
          (append_assoc (take n out) (b ∷ []) (stream s i)
          ∙ ap (λ (x : List ℕ). take n out ++ x) (sym (streamed_next s o g e b i q)) ∙ p.text);
    }

    pub put_end : g ≡ None → take n out ≡ take (length m) (name_text s)
    put_end q = sym (whole (name_text s) (sym p.text ∙ ap (λ (x : List ℕ). take n out ++ x) (streamed_end s o g e q)))
      where
        whole : (x : List ℕ) → x ≡ take n out ++ [] → take (length m) x ≡ take n out
        whole x f =
            let w : x ≡ take n out = f ∙ append-nil (take n out) in
            let l : length x ≤ length m = omega (arith, ap length w, length-take-le n out p.room, p.long, p.room) in
            take_all (length m) x l ∙ w

-- what a count up to 21 says of the whole
module _ (x : List ℕ) (n : ℕ) (e : n ≡ length (take 21 x)) where
  pub counted_long : 20 < n → 20 < length x
  counted_long l = go (leb (length x) 20) refl where
    go : (t : Bool) → leb (length x) 20 ≡ t → 20 < length x
    go true q = let m = leb-true (length x) 20 q in absurd (omega (arith, e, l, ap length (take_all 21 x (omega arith))))
    go false q = leb-false (length x) 20 q

  pub counted_short : n ≤ 20 → length x ≤ 20
  counted_short l = go (leb (length x) 20) refl where
    go : (t : Bool) → leb (length x) 20 ≡ t → length x ≤ 20
    go true q = leb-true (length x) 20 q
    go false q = let m = leb-false (length x) 20 q in absurd (omega (arith, e, l, length-take-le 21 x (omega arith)))

-- ---- the text that is looked up: the raw name if it stands for itself, else what was written
module _ (s : List ℕ) where
  pub text_raw : (v : Bool) → v ≡ all ordinary_byte s → v ≡ true → s ≡ name_text s
  text_raw v h e = sym (itself s (sym h ∙ e))

  pub text_decoded : (x : List ℕ) → length (name_text s) ≤ 20 → x ≡ take 20 (name_text s) → x ≡ name_text s
  text_decoded x l q = q ∙ take_all 20 (name_text s) l
