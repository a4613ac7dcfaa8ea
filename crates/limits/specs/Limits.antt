-- Document 01, "What the software reads": "metadata 1 to 61,440 bytes; D at most 2^48; nesting 32; 256 members per object;
-- channels 1 to 1,024".
use Rattle.std.specs.Prelude.{Bool, ◌||◌, ℕ, ◌^◌, eqb, ltb}
use Rattle.limits.specs.declared.Limits.{Limits}

abbrev pub metadata : ℕ
metadata = 61440

abbrev pub dataset : ℕ
dataset = 2 ^ 48

abbrev pub nesting : ℕ
nesting = 32

abbrev pub members : ℕ
members = 256

abbrev pub channels : ℕ
channels = 1024

-- refusal 1 without D, of a text of n bytes: "metadata empty or too long"
abbrev pub bad_text : ℕ → Bool
bad_text n = eqb n 0 || ltb metadata n

abbrev pub limits : Limits
limits = record { metadata = metadata; dataset = dataset; nesting = nesting; members = members; channels = channels }
