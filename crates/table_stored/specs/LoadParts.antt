-- For the code: what is left to judge of a file whose length is right.
use Rattle.std.specs.Prelude.{ℕ, ◌*◌, cond, ◌&&◌, leb}
use Rattle.table.specs.Rows.{capture_width, annotation_width, Table}
use Rattle.table.specs.Table.{well_formed}

-- 18, 20 or 0; x and y: how many numbers the memories for captures and for annotations hold
unfoldable pub rows_refusal : Table → ℕ → ℕ → ℕ
rows_refusal t x y = cond (well_formed t) (cond (leb (capture_width * t.summary.captures) x && leb (annotation_width * t.summary.annotations) y) 0 20) 18
