-- Every control that is not lost can be completed.
use mathlib.Core.Path.{◌≡◌, refl, ap, subst, ◌∙◌}
use mathlib.Core.Bool.{Bool, true, false}
use mathlib.Core.List.{List, [], ◌∷◌, ◌++◌}
use Prim.{Unit}
use Prim.Native.Nat.{ℕ, zero, suc, ◌≤◌, ◌<◌, ◌+◌, ◌/◌, ◌^◌}
use native.Mathlib.Omega.{arith}
use native.Mathlib.Nat.{pow-suc}
use lib.ListN.{length, get_or}
use lib.Dec.{eqb, ltb}
use borrow.Author.Tests.{le-ltb, ltb-true, ltb-false}
use Rattle.json_blocks.specs.TextBytes.{within, blank}
use Rattle.json_blocks.specs.Lists.{all}
use Rattle.json_characters.specs.String.{hex_value, short_escape}
use Rattle.json_automaton.specs.Token.{byte_move, is_move, hex_move, low_move, wide_move, text_move, escape_move, first_hex_move, surrogate_move, minus_move, exponent_move, fraction_move, sign_move, token_moves, token_move, whole}
use Rattle.json_automaton.specs.declared.Control.{Control}
use Rattle.json_automaton.specs.Control.{control, lost, full_stack, is_object_top, pop, number_move, value_move, item_move, first_move, colon_move, after_move, place_moves, place_move, moved, move, run_moves}
use Rattle.json_automaton.proofs.Chunks.{run_append}
use Rattle.json_automaton.proofs.Led.{Led, gone, at_value, at_first, at_next, at_colon, at_after, in_inside}
use Rattle.json_automaton.specs.Lost.{is_byte}
use Rattle.json_automaton.proofs.Lead.{all_append}

-- some bytes lead from c to d
pub data From (c d : Control) : Type 0 where
  from : (s : List ℕ) → run_moves c s ≡ d → all is_byte s ≡ true → From c d

from_from : {c d e : Control} → From c d → From d e → From c e
from_from {c} (from s p a) (from t q b) = from (s ++ t) (run_append c s t ∙ ap (λ (x : Control). run_moves x t) p ∙ q) (all_append is_byte s t a b)

-- ---- tokens: the bytes that end each
ends : List (List ℕ)
ends =
    []  -- 0
    ∷ ((0x22 ∷ [])  -- 1
    ∷ ((0x80 ∷ (0x22 ∷ []))  -- 2
    ∷ ((0x80 ∷ (0x80 ∷ (0x22 ∷ [])))  -- 3
    ∷ ((0x80 ∷ (0x80 ∷ (0x80 ∷ (0x22 ∷ []))))  -- 4
    ∷ ((0xA0 ∷ (0x80 ∷ (0x22 ∷ [])))  -- 5
    ∷ ((0x80 ∷ (0x80 ∷ (0x22 ∷ [])))  -- 6
    ∷ ((0x90 ∷ (0x80 ∷ (0x80 ∷ (0x22 ∷ []))))  -- 7
    ∷ ((0x80 ∷ (0x80 ∷ (0x80 ∷ (0x22 ∷ []))))  -- 8
    ∷ ((0x6E ∷ (0x22 ∷ []))  -- 9
    ∷ ((0x30 ∷ (0x22 ∷ []))  -- 10
    ∷ ((0x30 ∷ (0x30 ∷ (0x22 ∷ [])))  -- 11
    ∷ ((0x30 ∷ (0x30 ∷ (0x30 ∷ (0x22 ∷ []))))  -- 12
    ∷ ((0x30 ∷ (0x30 ∷ (0x30 ∷ (0x30 ∷ (0x22 ∷ [])))))  -- 13
    ∷ ((0x30 ∷ (0x30 ∷ (0x30 ∷ (0x22 ∷ []))))  -- 14
    ∷ ((0x30 ∷ (0x30 ∷ (0x5C ∷ (0x75 ∷ (0x64 ∷ (0x63 ∷ (0x30 ∷ (0x30 ∷ (0x22 ∷ [])))))))))  -- 15
    ∷ ((0x30 ∷ (0x5C ∷ (0x75 ∷ (0x64 ∷ (0x63 ∷ (0x30 ∷ (0x30 ∷ (0x22 ∷ []))))))))  -- 16
    ∷ ((0x5C ∷ (0x75 ∷ (0x64 ∷ (0x63 ∷ (0x30 ∷ (0x30 ∷ (0x22 ∷ [])))))))  -- 17
    ∷ ((0x75 ∷ (0x64 ∷ (0x63 ∷ (0x30 ∷ (0x30 ∷ (0x22 ∷ []))))))  -- 18
    ∷ ((0x64 ∷ (0x63 ∷ (0x30 ∷ (0x30 ∷ (0x22 ∷ [])))))  -- 19
    ∷ ((0x63 ∷ (0x30 ∷ (0x30 ∷ (0x22 ∷ []))))  -- 20
    ∷ ((0x30 ∷ (0x20 ∷ []))  -- 21
    ∷ ((0x20 ∷ [])  -- 22
    ∷ ((0x20 ∷ [])  -- 23
    ∷ ((0x30 ∷ (0x20 ∷ []))  -- 24
    ∷ ((0x20 ∷ [])  -- 25
    ∷ ((0x30 ∷ (0x20 ∷ []))  -- 26
    ∷ ((0x30 ∷ (0x20 ∷ []))  -- 27
    ∷ ((0x20 ∷ [])  -- 28
    ∷ ((0x72 ∷ (0x75 ∷ (0x65 ∷ [])))  -- 29
    ∷ ((0x75 ∷ (0x65 ∷ []))  -- 30
    ∷ ((0x65 ∷ [])  -- 31
    ∷ ((0x61 ∷ (0x6C ∷ (0x73 ∷ (0x65 ∷ []))))  -- 32
    ∷ ((0x6C ∷ (0x73 ∷ (0x65 ∷ [])))  -- 33
    ∷ ((0x73 ∷ (0x65 ∷ []))  -- 34
    ∷ ((0x75 ∷ (0x6C ∷ (0x6C ∷ [])))  -- 35
    ∷ ((0x6C ∷ (0x6C ∷ []))  -- 36
    ∷ ((0x6C ∷ [])  -- 37
    ∷ [])))))))))))))))))))))))))))))))))))))

record End (o t : ℕ) (w : List ℕ) : Type 0 where
  value : run_moves (control 5 t o) w ≡ control 5 0 o
  name : t ≤ 20 → run_moves (control 4 t o) w ≡ control 4 0 o
  bytes : all is_byte w ≡ true

string_end : (o t : ℕ) (w : List ℕ) → run_moves (control 5 t o) w ≡ control 5 0 o → run_moves (control 4 t o) w ≡ control 4 0 o → all is_byte w ≡ true → End o t w
string_end o t w e f b = record { value = e; name = λ _. f; bytes = b }

other_end : (o t : ℕ) (w : List ℕ) → run_moves (control 5 t o) w ≡ control 5 0 o → all is_byte w ≡ true → 20 < t → End o t w
other_end o t w e b h = record { value = e; name = λ l. absurd (omega arith); bytes = b }

Ends : ℕ → ℕ → List (List ℕ) → Type 0
Ends o t [] = Unit {0}
Ends o t (w ∷ l) = End o t w × Ends o (suc t) l

all_ends : (o : ℕ) → Ends o 0 ends
unfolding Ends ends run_moves move moved token_move token_moves whole text_move wide_move escape_move first_hex_move surrogate_move hex_move low_move is_move byte_move hex_value short_escape within minus_move exponent_move fraction_move sign_move place_move place_moves blank all
all_ends o = (
  string_end o 0 _ refl refl refl,
  (
    string_end o 1 _ refl refl refl,
    (
      string_end o 2 _ refl refl refl,
      (
        string_end o 3 _ refl refl refl,
        (
          string_end o 4 _ refl refl refl,
          (
            string_end o 5 _ refl refl refl,
            (
              string_end o 6 _ refl refl refl,
              (
                string_end o 7 _ refl refl refl,
                (
                  string_end o 8 _ refl refl refl,
                  (
                    string_end o 9 _ refl refl refl,
                    (
                      string_end o 10 _ refl refl refl,
                      (
                        string_end o 11 _ refl refl refl,
                        (
                          string_end o 12 _ refl refl refl,
                          (
                            string_end o 13 _ refl refl refl,
                            (
                              string_end o 14 _ refl refl refl,
                              (
                                string_end o 15 _ refl refl refl,
                                (
                                  string_end o 16 _ refl refl refl,
                                  (
                                    string_end o 17 _ refl refl refl,
                                    (
                                      string_end o 18 _ refl refl refl,
                                      (
                                        string_end o 19 _ refl refl refl,
                                        (
                                          string_end o 20 _ refl refl refl,
                                          (
                                            other_end o 21 _ refl refl (omega arith),
                                            (
                                              other_end o 22 _ refl refl (omega arith),
                                              (
                                                other_end o 23 _ refl refl (omega arith),
                                                (
                                                  other_end o 24 _ refl refl (omega arith),
                                                  (
                                                    other_end o 25 _ refl refl (omega arith),
                                                    (
                                                      other_end o 26 _ refl refl (omega arith),
                                                      (
                                                        other_end o 27 _ refl refl (omega arith),
                                                        (
                                                          other_end o 28 _ refl refl (omega arith),
                                                          (
                                                            other_end o 29 _ refl refl (omega arith),
                                                            (
                                                              other_end o 30 _ refl refl (omega arith),
                                                              (
                                                                other_end o 31 _ refl refl (omega arith),
                                                                (
                                                                  other_end o 32 _ refl refl (omega arith),
                                                                  (
                                                                    other_end o 33 _ refl refl (omega arith),
                                                                    (
                                                                      other_end o 34 _ refl refl (omega arith),
                                                                      (
                                                                        other_end o 35 _ refl refl (omega arith),
                                                                        (
                                                                          other_end o 36 _ refl refl (omega arith),
                                                                          (other_end o 37 _ refl refl (omega arith), tt),
                                                                        ),
                                                                      ),
                                                                    ),
                                                                  ),
                                                                ),
                                                              ),
                                                            ),
                                                          ),
                                                        ),
                                                      ),
                                                    ),
                                                  ),
                                                ),
                                              ),
                                            ),
                                          ),
                                        ),
                                      ),
                                    ),
                                  ),
                                ),
                              ),
                            ),
                          ),
                        ),
                      ),
                    ),
                  ),
                ),
              ),
            ),
          ),
        ),
      ),
    ),
  ),
)

end_at : (o k : ℕ) (l : List (List ℕ)) (t : ℕ) → Ends o k l → t < length l → End o (k + t) (get_or l t [])
unfolding Ends
end_at o k [] t r h = absurd (omega arith)
end_at o k (w ∷ l) zero r h = subst (λ (n : ℕ). End o n w) (omega arith) r.0
end_at o k (w ∷ l) (suc t) r h = subst (λ (n : ℕ). End o n (get_or l t [])) (omega arith) (end_at o (suc k) l t r.1 (omega arith))

ends_long : length ends ≡ 38
unfolding ends
ends_long = refl

end : (o t : ℕ) → t ≤ 37 → End o t (get_or ends t [])
end o t h = subst (λ (n : ℕ). End o n (get_or ends t [])) (omega arith) (end_at o 0 ends t (all_ends o) (omega (arith, ends_long)))

-- ---- places: a value, then the closing brackets
value_done : (o : ℕ) → From (control 1 0 o) (control 5 0 o)
unfolding run_moves move moved token_move token_moves whole place_move place_moves value_move number_move minus_move fraction_move exponent_move blank all
value_done o = from (0x30 ∷ (0x20 ∷ [])) refl refl

colon_done : (o : ℕ) → From (control 4 0 o) (control 1 0 o)
unfolding run_moves move moved token_move token_moves whole place_move place_moves colon_move blank all
colon_done o = from (0x3A ∷ []) refl refl

next_array : (o : ℕ) → is_object_top o ≡ false → From (control 3 0 o) (control 5 0 o)
unfolding run_moves move moved token_move token_moves whole place_move place_moves item_move value_move number_move minus_move fraction_move exponent_move blank all
next_array o e = from (0x30 ∷ (0x20 ∷ [])) (rw e) refl

next_object : (o : ℕ) → is_object_top o ≡ true → From (control 3 0 o) (control 4 0 o)
unfolding run_moves move moved token_move token_moves text_move whole place_move place_moves item_move blank all
next_object o e = from (0x22 ∷ (0x22 ∷ [])) (rw e) refl

module _ (o : ℕ) where
  first_closes : From (control 2 0 o) (pop o)
  unfolding run_moves move moved token_move token_moves whole place_move place_moves first_move blank all
  first_closes = go (is_object_top o) refl where
    go : (t : Bool) → is_object_top o ≡ t → From (control 2 0 o) (pop o)
    go true e = from (0x7D ∷ []) (rw e) refl
    go false e = from (0x5D ∷ []) (rw e) refl

  after_closes : 2 ≤ o → From (control 5 0 o) (pop o)
  unfolding run_moves move moved token_move token_moves whole place_move place_moves after_move blank all
  after_closes h = go (is_object_top o) refl where
    go : (t : Bool) → is_object_top o ≡ t → From (control 5 0 o) (pop o)
    go true e = from (0x7D ∷ []) (rw (le-ltb o 2 h, e)) refl
    go false e = from (0x5D ∷ []) (rw (le-ltb o 2 h, e)) refl

-- every open bracket
all_closed : (n o : ℕ) → 1 ≤ o → o < 2 ^ suc n → From (control 5 0 o) (control 5 0 1)
unfolding run_moves all
all_closed zero o h l = let e : 1 ≡ o = omega arith in subst (λ (x : ℕ). From (control 5 0 x) (control 5 0 1)) e (from [] refl refl)
all_closed (suc n) o h l = go (ltb o 2) refl (λ i. all_closed n (o / 2) (omega arith) (omega (arith, pow-suc 2 (suc n)))) where
  go : (t : Bool) → ltb o 2 ≡ t → (2 ≤ o → From (control 5 0 (o / 2)) (control 5 0 1)) → From (control 5 0 o) (control 5 0 1)
  go true e f =
      let m : o < 2 = ltb-true _ _ e in
      let q : 1 ≡ o = omega arith in
      subst (λ (x : ℕ). From (control 5 0 x) (control 5 0 1)) q (from [] refl refl)
  go false e f = let i : 2 ≤ o = ltb-false _ _ e in from_from (after_closes o i) (f i)

done : (o : ℕ) → 1 ≤ o → o < full_stack + full_stack → From (control 5 0 o) (control 5 0 1)
done o h l = all_closed 32 o h (omega arith)

-- what n bytes lead to is lost, or bytes lead from it to a whole text
pub data Completed (c : Control) : Type 0 where
  is_lost_lem : c ≡ lost → Completed c
  completed : (eqb c.place 6 ≡ false) → From c (control 5 0 1) → Completed c

pub complete : {n : ℕ} {c : Control} → Led n c → Completed c
complete (gone h) = is_lost_lem refl
complete (at_value {o} i l e h) = completed refl (from_from (value_done o) (done o i l))
complete (at_first {o} i l h) = completed refl (from_from (first_closes o) (done (o / 2) (omega arith) (omega arith)))
complete (at_next {o} i l h) = completed refl (go (is_object_top o) refl) where
  go : (t : Bool) → is_object_top o ≡ t → From (control 3 0 o) (control 5 0 1)
  go true e = from_from (next_object o e) (from_from (colon_done o) (from_from (value_done o) (done o (omega arith) l)))
  go false e = from_from (next_array o e) (done o (omega arith) l)
complete (at_colon {t} {o} i l m h) =
    completed refl (from_from (from (get_or ends t []) ((end o t (omega arith)).name m) (end o t (omega arith)).bytes)
    (from_from (colon_done o) (from_from (value_done o) (done o (omega (arith, (in_inside o i).0)) l))))
complete (at_after {t} {o} i l m h) = completed refl (from_from (from (get_or ends t []) (end o t m).value (end o t m).bytes) (done o i l))
