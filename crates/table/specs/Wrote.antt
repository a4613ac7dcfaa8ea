-- How many pieces or bytes were written, or why none.
use Rattle.std.specs.Prelude.{ℕ}
use Rattle.table.specs.declared.Wrote.{Wrote}

abbrev pub wrote : ℕ → ℕ → Wrote
wrote n c = record { refusal = n; count = c }
