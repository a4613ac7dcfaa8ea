-- Bytes written to the front of lent memory, one part after the other.
use Prim.Native.Nat.{ℕ, suc, ◌+◌, ◌-◌, ◌≤◌, ◌<◌}
use mathlib.Core.Path.{◌≡◌, refl, sym, ap, ◌∙◌}
use mathlib.Core.List.{List, [], ◌∷◌, ◌++◌, append_assoc, append-nil}
use native.Mathlib.Omega.{arith}
use native.Mathlib.Nat.{zero-add}
use native.Mathlib.Numerals.{add-one}
use lib.ListN.{length, get_or, take, drop, set, length-append, length-drop, drop_of_length-le}
use lib.Seq.{append_snoc, set_split, drop-cons, take_all, drop-drop}
use borrow.Author.Tests.{le-leb, lt-leb}
use Rattle.table.specs.Memory.{written}
use Rattle.table.proofs.Filling.{Filling, fill_none, fill_many, fill_room, fill_all}
use Rattle.output.specs.Put.{put_count, put_front}

-- ---- parts, one after the other
abbrev pub joined : List (List ℕ) → List ℕ
joined [] = []
joined (X ∷ ps) = X ++ joined ps

-- F is made of the parts ps
pub record Parts (F : List ℕ) (ps : List (List ℕ)) : Type 0 where
  pub whole : F ≡ joined ps

-- parts joined from the left
abbrev pub joined_to : List ℕ → List (List ℕ) → List ℕ
joined_to a [] = a
joined_to a (X ∷ ps) = joined_to (a ++ X) ps

joined_to_lem : (a : List ℕ) (ps : List (List ℕ)) → joined_to a ps ≡ a ++ joined ps
joined_to_lem a [] = sym (append-nil a)
joined_to_lem a (X ∷ ps) = joined_to_lem (a ++ X) ps ∙ append_assoc a X (joined ps)

pub parts_of : (a : List ℕ) (ps : List (List ℕ)) → Parts (joined_to a ps) (a ∷ ps)
parts_of a ps = record { whole = joined_to_lem a ps }

pub pair_parts : (X Y : List ℕ) → Parts (X ++ Y) (X ∷ Y ∷ [])
pair_parts X Y = parts_of X (Y ∷ [])

-- the first two parts as one
joined_pair : (X Y : List ℕ) (ps : List (List ℕ)) → joined (X ∷ Y ∷ ps) ≡ joined ((X ++ Y) ∷ ps)
joined_pair X Y ps = sym (append_assoc X Y (joined ps))

pub parts_pair : {F X Y : List ℕ} {ps : List (List ℕ)} → Parts F (X ∷ Y ∷ ps) → Parts F ((X ++ Y) ∷ ps)
parts_pair {F} {X} {Y} {ps} P = record { whole = P.whole ∙ joined_pair X Y ps }

-- the second and the third
pub parts_pair_next : {F W X Y : List ℕ} {ps : List (List ℕ)} → Parts F (W ∷ X ∷ Y ∷ ps) → Parts F (W ∷ (X ++ Y) ∷ ps)
parts_pair_next {F} {W} {X} {Y} {ps} P = record { whole = P.whole ∙ ap (λ (l : List ℕ). W ++ l) (joined_pair X Y ps) }

pub whole_part : (F : List ℕ) → Parts F (F ∷ [])
whole_part F = parts_of F []

-- how long they are
abbrev pub total : List (List ℕ) → ℕ
total [] = 0
total (X ∷ ps) = length X + total ps

joined_long : (ps : List (List ℕ)) → length (joined ps) ≡ total ps
joined_long [] = refl
joined_long (X ∷ ps) = length-append X (joined ps) ∙ ap (λ (n : ℕ). length X + n) (joined_long ps)

pub parts_long : {F : List ℕ} {ps : List (List ℕ)} → Parts F ps → length F ≡ total ps
parts_long {ps = ps} P = ap length P.whole ∙ joined_long ps

-- ---- of F, p bytes are written to the front of m, which is out now; the parts ps are left
pub record Writes (F m out : List ℕ) (p : ℕ) (ps : List (List ℕ)) : Type 0 where
  pub room : length F ≤ length m
  pub fill : Filling F m out p
  pub left : drop p F ≡ joined ps

pub writes_none : {F : List ℕ} {ps : List (List ℕ)} (m : List ℕ) → Parts F ps → length F ≤ length m → Writes F m m 0 ps
writes_none {F} m P h = record { room = h; fill = fill_none F m; left = P.whole }

pub writes_end : {F m out : List ℕ} {p : ℕ} → Writes F m out p [] → (p ≡ length F) × (out ≡ written F m)
writes_end {F} {m} {out} {p} S = (omega (arith, S.fill.upto, ap length S.left, length-drop p F), fill_all F m out p S.left S.fill)

pub writes_long : {F m out : List ℕ} {p : ℕ} {ps : List (List ℕ)} → Writes F m out p ps → length out ≡ length m
writes_long S = S.fill.long

module _ {F m out : List ℕ} {p : ℕ} {X : List ℕ} {ps : List (List ℕ)} (S : Writes F m out p (X ∷ ps)) where
  -- the next part is empty, or two parts
  pub writes_empty : X ≡ [] → Writes F m out p ps
  writes_empty e = record { room = S.room; fill = S.fill; left = S.left ∙ ap (λ (x : List ℕ). x ++ joined ps) e }

  pub writes_split : {Y Z : List ℕ} → Parts X (Y ∷ Z ∷ []) → Writes F m out p (Y ∷ Z ∷ ps)
  writes_split {Y} {Z} P =
      record {
        room = S.room;
        fill = S.fill;
        left = S.left ∙ ap (λ (x : List ℕ). x ++ joined ps) (P.whole ∙ ap (λ (x : List ℕ). Y ++ x) (append-nil Z)) ∙ append_assoc Y Z (joined ps);
      }

  -- it is written
  writes_part : (out' : List ℕ) → out' ≡ take p out ++ X ++ drop (p + length X) out → Writes F m out' (p + length X) ps
  writes_part out' z =
      let r = fill_many F m out p (length X) X (joined ps) S.room S.left refl S.fill out' z in
      record { room = S.room; fill = r.0; left = r.1 }

  within : p + length X ≤ length out
  within = fill_room F m out p (length X) X (joined ps) S.room S.left refl S.fill

-- ---- one byte
module _ {F m out : List ℕ} {p b : ℕ} {ps : List (List ℕ)} (S : Writes F m out p ((b ∷ []) ∷ ps)) where
  pub byte_inside : p < length out
  byte_inside = omega (arith, within S)

  pub byte_sum : p + 1 ≤ length m
  byte_sum = omega (arith, within S, S.fill.long)

  pub writes_byte : Writes F m (set out p b) (p + 1) ps
  writes_byte = writes_part S (set out p b) (set_split out p b byte_inside ∙ rw (add-one p) (sym (append_snoc (take p out) b (drop (suc p) out))))

-- ---- a part written by a callee: the first into the whole memory, a later one into its rest from p on
module _ {F X : List ℕ} {ps : List (List ℕ)} (m : List ℕ) (P : Parts F (X ∷ ps)) (h : length F ≤ length m) where
  pub first_room : length X ≤ length m
  first_room = omega (arith, ap length P.whole, length-append X (joined ps))

  pub writes_first : {out : List ℕ} {r : ℕ} → (r ≡ length X) × (out ≡ written X m) → Writes F m out r ps
  writes_first {out} {r} e =
      let q : r ≡ 0 + length X = omega (arith, e.0) in
      rw q (writes_part (writes_none m P h) out (e.1 ∙ rw (zero-add (length X))))

-- the rest of the memory from p on, as a callee sees it
abbrev pub tail : List ℕ → ℕ → List ℕ
tail out p = take (length out - p) (drop p out)

-- the memory when the rest is back with the content new
abbrev pub rejoined : List ℕ → ℕ → List ℕ → List ℕ
rejoined out p new = take p out ++ (new ++ drop (length out - p) (drop p out))

tail_is : (out : List ℕ) (p : ℕ) → tail out p ≡ drop p out
tail_is out p = take_all (length out - p) (drop p out) (omega (arith, length-drop p out))

pub next_from : {F m out : List ℕ} {p : ℕ} {ps : List (List ℕ)} → Writes F m out p ps → p ≤ length out
next_from S = omega (arith, S.fill.upto, S.room, S.fill.long)

module _ {F m out : List ℕ} {p : ℕ} {X : List ℕ} {ps : List (List ℕ)} (S : Writes F m out p (X ∷ ps)) where
  pub next_room : length X ≤ length (tail out p)
  next_room = rw (tail_is out p) (omega (arith, within S, length-drop p out))

  module _ {new : List ℕ} {r : ℕ} (e : (r ≡ length X) × (new ≡ written X (tail out p))) where
    pub next_sum : p + r ≤ length m
    next_sum = omega (arith, within S, S.fill.long, e.0)

    pub writes_next : Writes F m (rejoined out p new) (p + r) ps
    writes_next = rw e.0 (writes_part S (rejoined out p new) whole)
      where
        none : drop (length out - p) (drop p out) ≡ []
        none = drop_of_length-le (drop p out) {i = length out - p} (omega (arith, length-drop p out))

        whole : rejoined out p new ≡ take p out ++ X ++ drop (p + length X) out
        whole = rw (none, e.1, tail_is out p, append-nil (X ++ drop (length X) (drop p out)), drop-drop (length X) p out) (sym (append_assoc (take p out) X (drop (p + length X) out)))

-- what a writer of all or nothing does where there is room
pub put_all : (X m : List ℕ) {out : List ℕ} {r : ℕ} → length X ≤ length m → (r ≡ put_count X m) × (out ≡ put_front X m) → (r ≡ length X) × (out ≡ written X m)
unfolding put_count put_front
put_all X m h e = (e.0 ∙ rw (le-leb _ _ h), e.1 ∙ rw (le-leb _ _ h))

pub put_some : (X m : List ℕ) {out : List ℕ} {r : ℕ} → length X ≤ length m → (r ≡ length X) × (out ≡ written X m) → (r ≡ put_count X m) × (out ≡ put_front X m)
unfolding put_count put_front
put_some X m h e = (e.0 ∙ rw (le-leb _ _ h), e.1 ∙ rw (le-leb _ _ h))

pub put_none : (X m : List ℕ) (n : ℕ) → n ≡ length X → length m < n → (0 ≡ put_count X m) × (m ≡ put_front X m)
unfolding put_count put_front
put_none X m n e h =
    let q : length m < length X = omega arith in
    (rw (lt-leb _ _ q), rw (lt-leb _ _ q))

-- a part written by such a callee
pub first_put : {F X : List ℕ} {ps : List (List ℕ)} (m : List ℕ) → Parts F (X ∷ ps) → length F ≤ length m → {out : List ℕ} {r : ℕ} → (r ≡ put_count X m) × (out ≡ put_front X m) → Writes F m out r ps
first_put {X = X} m P h e = writes_first m P h (put_all X m (first_room m P h) e)

module _ {F m out : List ℕ} {p : ℕ} {X : List ℕ} {ps : List (List ℕ)} (S : Writes F m out p (X ∷ ps)) {new : List ℕ} {r : ℕ} (e : (r ≡ put_count X (tail out p)) × (new ≡ put_front X (tail out p))) where
  pub next_put : Writes F m (rejoined out p new) (p + r) ps
  next_put = writes_next S (put_all X (tail out p) (next_room S) e)

-- ---- F byte by byte; it has n
pub record Copied (F m out : List ℕ) (n i : ℕ) : Type 0 where
  pub many : n ≡ length F
  pub state : Writes F m out i (drop i F ∷ [])

pub copy_begin : (F m : List ℕ) (n : ℕ) → n ≡ length F → n ≤ length m → Copied F m m n 0
copy_begin F m n e h = record { many = e; state = writes_none m (whole_part F) (omega arith) }

module _ (F m out : List ℕ) (n i : ℕ) (S : Copied F m out n i) where
  next_is : (b : ℕ) → i < n → b ≡ get_or F i 0 → Writes F m out i ((b ∷ []) ∷ drop (i + 1) F ∷ [])
  next_is b h e = writes_split S.state (record { whole = rw (add-one i, e) (drop-cons F i 0 (omega (arith, S.many)) ∙ rw (append-nil (drop (suc i) F))) })

  pub copy_inside : i < n → i < length out
  copy_inside h = byte_inside (next_is (get_or F i 0) h refl)

  pub copy_on : (b : ℕ) → i < n → b ≡ get_or F i 0 → Copied F m (set out i b) n (i + 1)
  copy_on b h e = record { many = S.many; state = writes_byte (next_is b h e) }

  pub copy_long : length out ≡ length m
  copy_long = writes_long S.state

  pub copy_end : n ≤ i → (n ≡ put_count F m) × (out ≡ put_front F m)
  copy_end h = put_some F m S.state.room (S.many, (writes_end (writes_empty S.state (drop_of_length-le F {i = i} (omega (arith, S.many))))).1)
