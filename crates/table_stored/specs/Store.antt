-- Request P5: storing a table; 18, 20.
use Rattle.std.specs.Prelude.{ℕ, cond, List, length, leb, eqb}
use Rattle.table.specs.declared.Wrote.{Wrote}
use Rattle.table.specs.Memory.{written}
use Rattle.table.specs.Rows.{Table}
use Rattle.table.specs.Table.{well_formed}
use Rattle.table.specs.Wrote.{wrote}
use Rattle.table_stored.specs.Form.{stored_of}

-- room: how many bytes the lent output holds
unfoldable pub store_answer : Table → ℕ → Wrote
store_answer t room =
    cond (well_formed t)
    (cond (leb (length (stored_of t)) room)
    (wrote 0 (length (stored_of t)))
    (wrote 20 0))
    (wrote 18 0)

-- the lent output m after the call
abbrev pub store_memory : Table → List ℕ → List ℕ
store_memory t m = cond (eqb (store_answer t (length m)).refusal 0) (written (stored_of t) m) m
