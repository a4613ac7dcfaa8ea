-- For the code: numbers that equal lists of bytes share.
use Rattle.std.specs.Prelude.{List, [], ◌∷◌, ℕ, ◌+◌, ◌*◌, ◌%◌}

-- Equal lists have equal keys, so lists with unequal keys are told apart by them alone. m is the key's multiplier.
unfoldable pub key_from : ℕ → ℕ → List ℕ → ℕ
key_from m h [] = h
key_from m h (b ∷ l) = key_from m ((h * m + b) % 4294967296) l

abbrev pub key_by : ℕ → List ℕ → ℕ
key_by m l = key_from m 2166136261 l

abbrev pub key_of : List ℕ → ℕ
key_of = key_by 16777619

-- another key, for lists that share the first
abbrev pub second_key_of : List ℕ → ℕ
second_key_of = key_by 2654435761
