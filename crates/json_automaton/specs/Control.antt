-- A text taken byte by byte. `place` says what may stand next once the token has ended, `stack` which brackets are open: a
-- one, then for each open bracket from the outermost on a binary digit, 0 for an array and 1 for an object.
use Rattle.std.specs.Prelude.{Bool, cond, ◌&&◌, List, [], ◌∷◌, ℕ, ◌+◌, ◌*◌, ◌/◌, ◌%◌, ◌^◌, get_or, eqb, ltb}
use Rattle.limits.specs.Limits.{nesting}
use Rattle.json_blocks.specs.TextBytes.{blank}
use Rattle.json_automaton.specs.Token.{bad, minus_move, token_move, whole}
use Rattle.json_automaton.specs.declared.Control.{Control}

abbrev pub control : ℕ → ℕ → ℕ → Control
control p t o = record { place = p; token = t; stack = o }

-- ---- the places
-- a value, at the top level or after a colon
abbrev pub value_place : ℕ
value_place = 1

-- past an opening bracket: an item or the close
abbrev pub first_place : ℕ
first_place = 2

-- past a comma: an item
abbrev pub next_place : ℕ
next_place = 3

-- after a name
abbrev pub colon_place : ℕ
colon_place = 4

-- after a value
abbrev pub after_place : ℕ
after_place = 5

-- no continuation makes a JSON text
abbrev pub lost : Control
lost = control 6 0 0

-- before the first byte
abbrev pub start : Control
start = control value_place 0 1

-- ---- the brackets
-- a stack that is not below has as many brackets open as may nest
abbrev pub full_stack : ℕ
full_stack = 2 ^ nesting

-- the innermost open bracket is an object's
abbrev pub is_object_top : ℕ → Bool
is_object_top o = eqb (o % 2) 1

-- the byte that closes it
abbrev pub closing : ℕ → ℕ
closing o = cond (is_object_top o) 0x7D 0x5D

-- past an opening bracket: kind is 0 for an array, 1 for an object
unfoldable pub push : ℕ → ℕ → Control
push o kind = cond (ltb o full_stack) (control first_place 0 (o * 2 + kind)) lost

-- past a closing one
abbrev pub pop : ℕ → Control
pop o = control after_place 0 (o / 2)

-- ---- one byte more, b
-- the token goes on as n and is not whole
abbrev pub in_token : ℕ → ℕ → ℕ → Control
in_token p o n = cond (eqb n bad) lost (control p n o)

-- a number: past a `-`, or as if past one
unfoldable pub number_move : ℕ → ℕ → Control
number_move o b = cond (eqb b 0x2D) (control after_place 21 o) (in_token after_place o (minus_move b))

-- a value
unfoldable pub value_move : ℕ → ℕ → Control
value_move o b =
    cond (eqb b 0x22) (control after_place 1 o)
    (cond (eqb b 0x5B) (push o 0)
    (cond (eqb b 0x7B) (push o 1)
    (cond (eqb b 0x74) (control after_place 29 o)
    (cond (eqb b 0x66) (control after_place 32 o)
    (cond (eqb b 0x6E) (control after_place 35 o)
    (number_move o b))))))

-- an element, or a member's name
unfoldable pub item_move : ℕ → ℕ → Control
item_move o b = cond (is_object_top o) (cond (eqb b 0x22) (control colon_place 1 o) lost) (value_move o b)

-- past an opening bracket
unfoldable pub first_move : ℕ → ℕ → Control
first_move o b = cond (eqb b (closing o)) (pop o) (item_move o b)

unfoldable pub colon_move : ℕ → ℕ → Control
colon_move o b = cond (eqb b 0x3A) (control value_place 0 o) lost

unfoldable pub after_move : ℕ → ℕ → Control
after_move o b = cond (ltb o 2) lost (cond (eqb b 0x2C) (control next_place 0 o) (cond (eqb b (closing o)) (pop o) lost))

unfoldable pub place_moves : ℕ → ℕ → List Control
place_moves o b = lost ∷ (value_move o b ∷ (first_move o b ∷ (item_move o b ∷ (colon_move o b ∷ (after_move o b ∷ [])))))

unfoldable pub place_move : ℕ → ℕ → ℕ → Control
place_move p o b = cond (blank b) (control p 0 o) (get_or (place_moves o b) p lost)

-- where the token goes on as n; w says whether it was whole
unfoldable pub moved : ℕ → ℕ → Bool → ℕ → ℕ → Control
moved p o w n b = cond (eqb n bad) (cond w (place_move p o b) lost) (control p n o)

unfoldable pub move : Control → ℕ → Control
move c b = moved c.place c.stack (whole c.token) (token_move c.token b) b

unfoldable pub run_moves : Control → List ℕ → Control
run_moves c [] = c
run_moves c (b ∷ s) = run_moves (move c b) s

-- the bytes so far are a text
unfoldable pub accepting : Control → Bool
accepting c = whole c.token && eqb c.place after_place && ltb c.stack 2
