-- A JSON text read from place to place (ECMA-404, 5 to 7). proofs/Theorem.antt shows that this reading accepts exactly the
-- texts of specs/Grammar.antt.
use Rattle.json_blocks.specs.declared.Cursor.{Cursor}
use Rattle.std.specs.Prelude.{Bool, false, cond, List, ℕ, zero, suc, ◌+◌, length, eqb, leb, None, Option, Some}
use Rattle.limits.specs.Limits.{nesting}
use Rattle.json_blocks.specs.Turns.{Turn, on, out, run_text}
use Rattle.json_blocks.specs.TextBytes.{byte, ascii, to, and_then, skip_blanks, literal_at}
use Rattle.json_characters.specs.String.{string_at}
use Rattle.json_tokens.specs.Number.{number_at}
use Rattle.json_blocks.specs.Group.{after_item}
use Rattle.json_tokens.specs.MemberName.{name_at}
use Rattle.json_blocks.specs.declared.After.{After}
use Rattle.json_blocks.specs.declared.After.TheVariants as A

-- on to the next item, or out at the close
abbrev pub close_turn : Option After → Turn (Option Cursor)
close_turn (Some (A.Item c)) = on c.at
close_turn (Some (A.Close c)) = out (Some c)
close_turn None = out None

abbrev pub then_turn : Option Cursor → (ℕ → Turn (Option Cursor)) → Turn (Option Cursor)
then_turn (Some c) f = f c.at
then_turn None f = out None

-- one item, as `item` reads it, and what stands after it
unfoldable pub item_turn : (ℕ → Option Cursor) → List ℕ → ℕ → ℕ → Turn (Option Cursor)
item_turn item s close at = then_turn (item at) (λ j. close_turn (after_item s close j))

-- items up to the close
unfoldable pub items_at : (ℕ → Option Cursor) → List ℕ → ℕ → ℕ → Option Cursor
items_at item s close at = run_text s None (item_turn item s close) at

-- an array or object, from past its opening byte: the close, or items
unfoldable pub group_at : (ℕ → Option Cursor) → List ℕ → ℕ → ℕ → Option Cursor
group_at item s close at =
    cond (eqb (byte s (skip_blanks s at)) close) (to (skip_blanks s at + 1)) (items_at item s close (skip_blanks s at))

-- a name, a colon and a value
unfoldable pub member_at : (ℕ → Option Cursor) → List ℕ → ℕ → Option Cursor
member_at value s at = and_then (name_at s at) value

unfoldable pub any_value_at : (ℕ → Option Cursor) → (ℕ → Option Cursor) → List ℕ → ℕ → Option Cursor
any_value_at array object s at =
    cond (eqb (byte s at) 0x22) (string_at s (at + 1))
    (cond (eqb (byte s at) 0x5B) (array (at + 1))
    (cond (eqb (byte s at) 0x7B) (object (at + 1))
    (cond (eqb (byte s at) 0x74) (literal_at s (ascii "true") at)
    (cond (eqb (byte s at) 0x66) (literal_at s (ascii "false") at)
    (cond (eqb (byte s at) 0x6E) (literal_at s (ascii "null") at)
    (number_at s at))))))

-- the value at a place, where it nests at most d deep
unfoldable pub value_at : ℕ → List ℕ → ℕ → Option Cursor
value_at zero s at = any_value_at (λ _. None) (λ _. None) s at
value_at (suc d) s at = any_value_at (group_at (value_at d s) s 0x5D) (group_at (member_at (value_at d s) s) s 0x7D) s at

-- blanks up to the end of the text
abbrev pub ends_text : List ℕ → Option Cursor → Bool
ends_text s (Some c) = leb (length s) (skip_blanks s c.at)
ends_text s None = false

-- "one JSON value in valid UTF-8", nested to the limit, and nothing else but blanks
unfoldable pub is_json : List ℕ → Bool
is_json s = ends_text s (value_at nesting s (skip_blanks s 0))
