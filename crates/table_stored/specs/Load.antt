-- Request P5: loading a stored table; "Lowest number first, except that 21 and 22 are judged before 18".
use Rattle.std.specs.Prelude.{ℕ, ◌+◌, ◌*◌, Bool, cond, ◌&&◌, List, length, take, leb, eqb}
use Rattle.json_names.specs.Same.{same}
use Rattle.table.specs.declared.Summary.{Summary}
use Rattle.table.specs.Memory.{written}
use Rattle.table.specs.Rows.{capture_width, annotation_width}
use Rattle.table.specs.Table.{well_formed, no_table}
use Rattle.table_stored.specs.Form.{opening, opening_size, head_size, summary_in, capture_bytes, annotation_bytes, table_in}

-- 21: "wrong mark or version"; "a file too short for mark and version is 21"
unfoldable pub opens : List ℕ → Bool
opens f = same (take opening_size f) opening

-- 22: "wrong length for its counts"; "too short for the summary 22"
unfoldable pub length_ok : List ℕ → Bool
length_ok f = leb head_size (length f) && eqb (length f) (head_size + capture_bytes (summary_in f).captures + annotation_bytes (summary_in f).annotations)

-- 18: "a table that isn't well formed (on reading, with the file's own rows)"; 20: "for room". x and y: how many numbers the memories for
-- captures and for annotations hold
unfoldable pub load_answer : List ℕ → ℕ → ℕ → Summary
load_answer f x y =
    cond (opens f)
    (cond (length_ok f)
    (cond (well_formed (table_in f))
    (cond (leb (capture_width * (summary_in f).captures) x && leb (annotation_width * (summary_in f).annotations) y)
    (summary_in f)
    (no_table 20))
    (no_table 18))
    (no_table 22))
    (no_table 21)

-- the lent memories m for captures and k for annotations after the call
abbrev pub captures_loaded : List ℕ → List ℕ → List ℕ → List ℕ
captures_loaded f m k = cond (eqb (load_answer f (length m) (length k)).refusal 0) (written (table_in f).captures m) m

abbrev pub annotations_loaded : List ℕ → List ℕ → List ℕ → List ℕ
annotations_loaded f m k = cond (eqb (load_answer f (length m) (length k)).refusal 0) (written (table_in f).annotations k) k
