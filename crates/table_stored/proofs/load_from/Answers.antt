use Rattle.table_stored.proofs.LoadLaws.{file_length, file_table, rows_same}
use native.Mathlib.Omega.{arith}
use mathlib.Core.Path.{refl}
use Rattle.table_stored.proofs.load_from.Goals as goal

pub overflow_mul-from : goal.overflow_mul-from
overflow_mul-from c = omega (arith, file_length c.args.file.now c.args.t c.requires.0 c.requires.1, c.well_formed)

pub overflow_add-from : goal.overflow_add-from
overflow_add-from c = omega (arith, file_length c.args.file.now c.args.t c.requires.0 c.requires.1, c.well_formed)

pub overflow_mul-end : goal.overflow_mul-end
overflow_mul-end c = omega (arith, file_length c.args.file.now c.args.t c.requires.0 c.requires.1, c.well_formed)

pub overflow_add-end : goal.overflow_add-end
overflow_add-end c = omega (arith, file_length c.args.file.now c.args.t c.requires.0 c.requires.1, c.well_formed)

pub slice_bounds-load_rows-end : goal.slice_bounds-load_rows-end
slice_bounds-load_rows-end c = omega (arith, file_length c.args.file.now c.args.t c.requires.0 c.requires.1)

pub slice_bounds-load_rows-end-2 : goal.slice_bounds-load_rows-end-2
slice_bounds-load_rows-end-2 c = omega (arith, file_length c.args.file.now c.args.t c.requires.0 c.requires.1)

pub returns : goal.returns
returns c =
    let p = rows_same _ _ (file_table c.args.file.now c.args.t c.requires.0 c.requires.1 _ _ refl refl) _ c.args.capto.now _ c.args.noteto.now _ (c.load_rows.ensures.answer, (c.load_rows.ensures.captures, c.load_rows.ensures.annotations)) in
    record { answer = p.0; captures = p.1.0; annotations = p.1.1 }
