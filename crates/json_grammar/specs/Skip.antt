-- Past a string or a value by its quotes and brackets alone. In a text that is JSON this is where the string or value ends
-- (proofs/SkipLaws.antt).
use Rattle.std.specs.Prelude.{Bool, cond, not, ◌||◌, List, ℕ, zero, suc, ◌+◌, ◌-◌, length, eqb, leb}
use Rattle.json_blocks.specs.Turns.{Turn, on, out, run_text}
use Rattle.json_blocks.specs.TextBytes.{byte, blank, skip_while}

-- From past the opening quote: past the first quote, where a backslash and the byte after it are passed together; the end of the
-- text where there is none.
unfoldable pub skip_string_turn : List ℕ → ℕ → Turn ℕ
skip_string_turn s at =
    cond (leb (length s) at) (out at)
    (cond (eqb (byte s at) 0x22) (out (at + 1))
    (cond (eqb (byte s at) 0x5C) (on (at + 2)) (on (at + 1))))

unfoldable pub skip_string : List ℕ → ℕ → ℕ
skip_string s at = run_text s 0 (skip_string_turn s) at

abbrev pub opens : ℕ → Bool
opens b = eqb b 0x5B || eqb b 0x7B

abbrev pub closes : ℕ → Bool
closes b = eqb b 0x5D || eqb b 0x7D

-- past the closing byte of the outermost of n open arrays and objects, in at most `fuel` steps
unfoldable pub skip_open_steps : ℕ → List ℕ → ℕ → ℕ → ℕ
skip_open_steps zero s n at = at
skip_open_steps (suc fuel) s n at =
    cond (leb (length s) at) at
    (cond (eqb (byte s at) 0x22) (skip_open_steps fuel s n (skip_string s (at + 1)))
    (cond (opens (byte s at)) (skip_open_steps fuel s (n + 1) (at + 1))
    (cond (closes (byte s at)) (cond (leb n 1) (at + 1) (skip_open_steps fuel s (n - 1) (at + 1)))
    (skip_open_steps fuel s n (at + 1)))))

-- each step passes a byte of s
unfoldable pub skip_open : List ℕ → ℕ → ℕ → ℕ
skip_open s n at = skip_open_steps (suc (length s)) s n at

-- a byte of a number or a literal
unfoldable pub token_byte : ℕ → Bool
token_byte b = not (eqb b 0 || blank b || eqb b 0x2C || closes b)

unfoldable pub skip_value : List ℕ → ℕ → ℕ
skip_value s at =
    cond (eqb (byte s at) 0x22) (skip_string s (at + 1))
    (cond (opens (byte s at)) (skip_open s 1 (at + 1)) (skip_while token_byte s at))
