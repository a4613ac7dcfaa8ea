-- Laws that the proofs of the code cite.
use Rattle.std.proofs.Common.{w64}
use Rattle.std.proofs.lemmas.List.{take_more, take_more_set, drop-set-lt, take-append-drop}
use Rattle.std.specs.Int.{to_le_bytes}
use Rattle.std.specs.List.{starts_with}
use lib.Pointwise.{pointwise}
use Prim.Native.Nat.{ℕ, ◌+◌, ◌/◌, ◌≤◌, ◌<◌}
use mathlib.Core.Path.{◌≡◌, refl, sym, ap, ◌∙◌}
use mathlib.Core.Bool.{false≢true}
use mathlib.Core.List.{List, [], ◌∷◌, ◌++◌, append-nil}
use native.Mathlib.Omega.{arith}
use native.Mathlib.Numerals.{add-one}
use lib.ListN.{length, get_or, take, drop, set, drop_of_length-le}
use lib.Seq.{drop-cons, drop-drop, take-length}
use lib.Dec.{eqb}
use borrow.Author.Tests.{le-leb, lt-leb, eq-eqb, eqb-true}
use Rattle.table.proofs.Bools.{same_test}
use Rattle.json_names.specs.Same.{same}
use Rattle.little_endian.specs.LittleEndian.{little_endian, number_width, numbers_of}
use Rattle.little_endian.proofs.NumberLaws.{numbers_length}
use Rattle.table.specs.Rows.{flat}
use Rattle.output.specs.Put.{put_front}
use Rattle.output.proofs.Writing.{Writes, writes_split, writes_empty}
use Rattle.table_stored.specs.Form.{opening, opening_size, eight_each}
use Rattle.table_stored.specs.Load.{opens}

-- ---- one number in eight bytes
pub eight_bytes : (x : ℕ) → to_le_bytes w64 x ≡ little_endian number_width x
unfolding little_endian
eight_bytes x =
    let two : x / 0x10000 ≡ x / 256 / 256 = omega arith in
    let three : x / 0x1000000 ≡ x / 256 / 256 / 256 = omega arith in
    let four : x / 0x100000000 ≡ x / 256 / 256 / 256 / 256 = omega arith in
    let five : x / 0x10000000000 ≡ x / 256 / 256 / 256 / 256 / 256 = omega arith in
    let six : x / 0x1000000000000 ≡ x / 256 / 256 / 256 / 256 / 256 / 256 = omega arith in
    let seven : x / 0x100000000000000 ≡ x / 256 / 256 / 256 / 256 / 256 / 256 / 256 = omega arith in
    rw (two, three, four, five, six, seven)

-- ---- of the numbers l, those from number k on are left to be written
abbrev pub NumbersLeft : (l m out : List ℕ) (p k : ℕ) → Type 0
NumbersLeft l m out p k = Writes (eight_each l) m out p (eight_each (drop k l) ∷ [])

pub next_number : (l m out : List ℕ) (p k : ℕ) → k < length l → NumbersLeft l m out p k → Writes (eight_each l) m out p (little_endian number_width (get_or l k 0) ∷ eight_each (drop (k + 1) l) ∷ [])
unfolding flat
next_number l m out p k h S =
    let e : eight_each (drop k l) ≡ little_endian number_width (get_or l k 0) ++ eight_each (drop (k + 1) l) = rw (drop-cons l k 0 h, add-one k) in
    writes_split S (record { whole = e ∙ ap (λ x. little_endian number_width (get_or l k 0) ++ x) (sym (append-nil (eight_each (drop (k + 1) l)))) })

pub numbers_end : (l m out : List ℕ) (p k : ℕ) → length l ≤ k → NumbersLeft l m out p k → Writes (eight_each l) m out p []
unfolding flat
numbers_end l m out p k h S = writes_empty S (rw (drop_of_length-le l {i = k} h))

-- ---- the numbers of l read into the front of m, which is out now: i of them
abbrev pub NumbersRead : (l m out : List ℕ) (i : ℕ) → Type 0
NumbersRead l m out i = (take i out ≡ take i (numbers_of l)) × (drop i out ≡ drop i m)

module _ (l m : List ℕ) where
  many : length (numbers_of l) ≡ length l / number_width
  many = numbers_length (length l / number_width) l

  pub read_next : (out : List ℕ) (i x : ℕ) → i < length l / number_width → i < length out → x ≡ get_or (numbers_of l) i 0 → NumbersRead l m out i → NumbersRead l m (set out i x) (i + 1)
  read_next out i x h k e S =
      let g : i < length (numbers_of l) = omega (arith, h, many) in
      (take_more_set out i x k ∙ rw (S.0, e) (sym (take_more (numbers_of l) i 0 g)), drop-set-lt (i + 1) out i x (omega arith) ∙ sym (drop-drop 1 i out) ∙ ap (drop 1) S.1 ∙ drop-drop 1 i m)

  pub read_all : (out : List ℕ) (i : ℕ) → i ≡ length l / number_width → length l / number_width ≤ length m → NumbersRead l m out i → out ≡ put_front (numbers_of l) m
  unfolding put_front
  read_all out i e h S =
      let k : i ≡ length (numbers_of l) = omega (arith, e, many) in
      let g : length (numbers_of l) ≤ length m = omega (arith, h, many) in
      rw (le-leb _ _ g) (sym (take-append-drop i out) ∙ rw (S.0, S.1, k, take-length (numbers_of l)))

  pub read_none : length m < length l / number_width → m ≡ put_front (numbers_of l) m
  unfolding put_front
  read_none h =
      let g : length m < length (numbers_of l) = omega (arith, h, many) in
      rw (lt-leb _ _ g)

-- ---- mark and version
eqb_swap : (a b : ℕ) → eqb a b ≡ eqb b a
eqb_swap a b = same_test (eqb a b) (eqb b a) (λ h. eq-eqb b a (sym (eqb-true a b h))) (λ h g. false≢true (sym h ∙ eq-eqb a b (sym (eqb-true b a g))))

same_reversed : (k l : List ℕ) → pointwise eqb l k ≡ same k l
unfolding same
same_reversed [] [] = refl
same_reversed [] (b ∷ l) = refl
same_reversed (a ∷ k) [] = refl
same_reversed (a ∷ k) (b ∷ l) = rw (eqb_swap b a, same_reversed k l)

pub opens_is : (f : List ℕ) → starts_with eqb f (0x53 ∷ 0x47 ∷ 0x54 ∷ 1 ∷ 0 ∷ []) ≡ opens f
unfolding opens little_endian
opens_is f = same_reversed (take opening_size f) opening
