use lib.Seq.{length-take-le}
use mathlib.Core.Path.{sym}
use Rattle.table_stored.proofs.StoreLaws.{captures_in_lem, annotations_in_lem, stored_parts}
use Rattle.table_stored.proofs.FormLaws.{summary_length, front_bytes}
use Rattle.output.proofs.Writing.{first_put, next_from, next_room, writes_next, writes_end}
use native.Mathlib.Omega.{arith}
use Rattle.table_stored.proofs.put_table.Goals as goal

pub slice_bounds-put_summary-count : goal.slice_bounds-put_summary-count
slice_bounds-put_summary-count c =
    let S1 = first_put c.args.out.now (stored_parts c.args.t c.args.caps.now c.args.notes.now c.requires.notes_value) c.requires.notes_in_bounds (c.put_word-a.ensures.count, c.put_word-a.ensures.memory) in
    next_from S1

pub slice_bounds-put_summary-start : goal.slice_bounds-put_summary-start
slice_bounds-put_summary-start c =
    let S1 = first_put c.args.out.now (stored_parts c.args.t c.args.caps.now c.args.notes.now c.requires.notes_value) c.requires.notes_in_bounds (c.put_word-a.ensures.count, c.put_word-a.ensures.memory) in
    next_from S1

pub put_summary-requires : goal.put_summary-requires
put_summary-requires c =
    let S1 = first_put c.args.out.now (stored_parts c.args.t c.args.caps.now c.args.notes.now c.requires.notes_value) c.requires.notes_in_bounds (c.put_word-a.ensures.count, c.put_word-a.ensures.memory) in
    omega (arith, next_room S1, summary_length c.args.t)

pub slice_bounds-put_numbers-count : goal.slice_bounds-put_numbers-count
slice_bounds-put_numbers-count c =
    let S1 = first_put c.args.out.now (stored_parts c.args.t c.args.caps.now c.args.notes.now c.requires.notes_value) c.requires.notes_in_bounds (c.put_word-a.ensures.count, c.put_word-a.ensures.memory) in
    let S2 = writes_next S1 (c.put_summary.ensures.count, c.put_summary.ensures.memory) in
    next_from S2

pub slice_bounds-put_numbers-start : goal.slice_bounds-put_numbers-start
slice_bounds-put_numbers-start c =
    let S1 = first_put c.args.out.now (stored_parts c.args.t c.args.caps.now c.args.notes.now c.requires.notes_value) c.requires.notes_in_bounds (c.put_word-a.ensures.count, c.put_word-a.ensures.memory) in
    let S2 = writes_next S1 (c.put_summary.ensures.count, c.put_summary.ensures.memory) in
    next_from S2

pub overflow_mul-caps : goal.overflow_mul-caps
overflow_mul-caps c = omega (arith, captures_in_lem c.args.t c.args.caps.now c.args.notes.now c.requires.notes_value, c.well_formed)

pub put_numbers-requires : goal.put_numbers-requires
put_numbers-requires c =
    let S1 = first_put c.args.out.now (stored_parts c.args.t c.args.caps.now c.args.notes.now c.requires.notes_value) c.requires.notes_in_bounds (c.put_word-a.ensures.count, c.put_word-a.ensures.memory) in
    let S2 = writes_next S1 (c.put_summary.ensures.count, c.put_summary.ensures.memory) in
    let h = captures_in_lem c.args.t c.args.caps.now c.args.notes.now c.requires.notes_value in
    omega (arith, next_room S2, front_bytes c.args.caps.now _ h, length-take-le _ c.args.caps.now h)

pub slice_bounds-put_numbers-count-2 : goal.slice_bounds-put_numbers-count-2
slice_bounds-put_numbers-count-2 c =
    let S1 = first_put c.args.out.now (stored_parts c.args.t c.args.caps.now c.args.notes.now c.requires.notes_value) c.requires.notes_in_bounds (c.put_word-a.ensures.count, c.put_word-a.ensures.memory) in
    let S2 = writes_next S1 (c.put_summary.ensures.count, c.put_summary.ensures.memory) in
    let S3 = writes_next S2 (c.put_numbers.ensures.count, c.put_numbers.ensures.memory) in
    next_from S3

pub slice_bounds-put_numbers-start-2 : goal.slice_bounds-put_numbers-start-2
slice_bounds-put_numbers-start-2 c =
    let S1 = first_put c.args.out.now (stored_parts c.args.t c.args.caps.now c.args.notes.now c.requires.notes_value) c.requires.notes_in_bounds (c.put_word-a.ensures.count, c.put_word-a.ensures.memory) in
    let S2 = writes_next S1 (c.put_summary.ensures.count, c.put_summary.ensures.memory) in
    let S3 = writes_next S2 (c.put_numbers.ensures.count, c.put_numbers.ensures.memory) in
    next_from S3

pub overflow_mul-notes : goal.overflow_mul-notes
overflow_mul-notes c = omega (arith, annotations_in_lem c.args.t c.args.caps.now c.args.notes.now c.requires.notes_value, c.well_formed)

pub put_numbers-requires-2 : goal.put_numbers-requires-2
put_numbers-requires-2 c =
    let S1 = first_put c.args.out.now (stored_parts c.args.t c.args.caps.now c.args.notes.now c.requires.notes_value) c.requires.notes_in_bounds (c.put_word-a.ensures.count, c.put_word-a.ensures.memory) in
    let S2 = writes_next S1 (c.put_summary.ensures.count, c.put_summary.ensures.memory) in
    let S3 = writes_next S2 (c.put_numbers.ensures.count, c.put_numbers.ensures.memory) in
    let h = annotations_in_lem c.args.t c.args.caps.now c.args.notes.now c.requires.notes_value in
    omega (arith, next_room S3, front_bytes c.args.notes.now _ h, length-take-le _ c.args.notes.now h)

pub returns : goal.returns
returns c =
    let S1 = first_put c.args.out.now (stored_parts c.args.t c.args.caps.now c.args.notes.now c.requires.notes_value) c.requires.notes_in_bounds (c.put_word-a.ensures.count, c.put_word-a.ensures.memory) in
    let S2 = writes_next S1 (c.put_summary.ensures.count, c.put_summary.ensures.memory) in
    let S3 = writes_next S2 (c.put_numbers.ensures.count, c.put_numbers.ensures.memory) in
    let S4 = writes_next S3 (c.put_numbers-2.ensures.count, c.put_numbers-2.ensures.memory) in
    let p = writes_end S4 in
    record { count = p.0; memory = p.1 }

pub slice_bounds-caps-end : goal.slice_bounds-caps-end
slice_bounds-caps-end c = sym (length-take-le _ c.args.caps.now (captures_in_lem c.args.t c.args.caps.now c.args.notes.now c.requires.notes_value))

pub slice_bounds-notes-end : goal.slice_bounds-notes-end
slice_bounds-notes-end c = sym (length-take-le _ c.args.notes.now (annotations_in_lem c.args.t c.args.caps.now c.args.notes.now c.requires.notes_value))
