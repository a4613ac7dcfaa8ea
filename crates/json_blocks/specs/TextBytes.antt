-- Bytes, blanks and literals of a text s, read from the place `at` on.
use Rattle.json_blocks.specs.declared.Cursor.{Cursor}
use Rattle.std.specs.Prelude.{Bool, cond, ◌&&◌, ◌||◌, List, [], ◌∷◌, ℕ, ◌+◌, length, get_or, take, drop, eqb, ltb, leb, None, Option, Some}
use Prim.Native.Char.{code}
use Prim.Native.String.{String, [] as empty, ◌∷◌ as ◌then◌}
use Rattle.json_blocks.specs.Turns.{Turn, on, out, run_text}

-- the byte at a place: 0 past the end, and no token takes a 0
abbrev pub byte : List ℕ → ℕ → ℕ
byte s at = get_or s at 0

-- n bytes from a place on, as far as the text goes
abbrev pub slice : List ℕ → ℕ → ℕ → List ℕ
slice s at n = take n (drop at s)

-- the bytes of a word in ASCII
abbrev pub ascii : String → List ℕ
ascii empty = []
ascii (c then t) = code c ∷ ascii t

abbrev pub to : ℕ → Option Cursor
to n = Some (record { at = n })

-- go on where a read got to
abbrev pub and_then : Option Cursor → (ℕ → Option Cursor) → Option Cursor
and_then (Some c) f = f c.at
and_then None f = None

-- b lies from lo to hi
unfoldable pub within : ℕ → ℕ → ℕ → Bool
within lo hi b = leb lo b && leb b hi

-- space, tab, line feed, carriage return
unfoldable pub blank : ℕ → Bool
blank b = eqb b 0x20 || eqb b 0x09 || eqb b 0x0A || eqb b 0x0D

-- where the bytes that are `good` end
unfoldable pub skip_turn : (ℕ → Bool) → List ℕ → ℕ → Turn ℕ
skip_turn good s at = cond (good (byte s at)) (on (at + 1)) (out at)

unfoldable pub skip_while : (ℕ → Bool) → List ℕ → ℕ → ℕ
skip_while good s at = run_text s 0 (skip_turn good s) at

abbrev pub skip_blanks : List ℕ → ℕ → ℕ
skip_blanks = skip_while blank

-- one byte from lo to hi
unfoldable pub byte_within : List ℕ → ℕ → ℕ → ℕ → Option Cursor
byte_within s lo hi at = cond (within lo hi (byte s at)) (to (at + 1)) None

-- the bytes of a word, one by one
unfoldable pub literal_at : List ℕ → List ℕ → ℕ → Option Cursor
literal_at s [] at = to at
literal_at s (b ∷ w) at = cond (ltb at (length s) && eqb (byte s at) b) (literal_at s w (at + 1)) None
