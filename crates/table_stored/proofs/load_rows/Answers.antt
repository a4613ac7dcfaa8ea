use Rattle.table_stored.proofs.LoadLaws.{rows_18, rows_captures, rows_annotations, rows_fit, rows_put}
use Rattle.little_endian.specs.LittleEndian.{numbers_of}
use Rattle.table.specs.Rows.{capture_width, annotation_width, table}
use native.Mathlib.Omega.{arith}
use mathlib.Core.Path.{refl}
use Rattle.table_stored.proofs.load_rows.Goals as goal

pub returns-then-t-capto : goal.returns-then-t-capto
returns-then-t-capto c = record { answer = rows_captures (table c.args.t (numbers_of c.args.caps.now) (numbers_of c.args.notes.now)) c.args.capto.now c.args.noteto.now _ c.well_formed-2.ensures c.if-not-well_formed.false c.if-t-capto.true; captures = refl; annotations = refl }

pub returns-then-t-noteto : goal.returns-then-t-noteto
returns-then-t-noteto c = record { answer = rows_annotations (table c.args.t (numbers_of c.args.caps.now) (numbers_of c.args.notes.now)) c.args.capto.now c.args.noteto.now _ c.well_formed-2.ensures c.if-not-well_formed.false c.if-t-noteto.true; captures = refl; annotations = refl }

pub returns : goal.returns
returns c =
    let m = c.if-t-capto.false in
    let k = c.if-t-noteto.false in record { answer = rows_fit (table c.args.t (numbers_of c.args.caps.now) (numbers_of c.args.notes.now)) c.args.capto.now c.args.noteto.now _ c.well_formed-2.ensures c.if-not-well_formed.false m k; captures = rows_put capture_width c.args.t.captures c.args.caps.now c.args.capto.now _ c.requires.0 (omega (arith, m)) c.get_numbers.ensures; annotations = rows_put annotation_width c.args.t.annotations c.args.notes.now c.args.noteto.now _ c.requires.1 (omega (arith, k)) c.get_numbers-2.ensures }

pub returns-then-not-well_formed : goal.returns-then-not-well_formed
returns-then-not-well_formed c = record { answer = rows_18 (table c.args.t (numbers_of c.args.caps.now) (numbers_of c.args.notes.now)) c.args.capto.now c.args.noteto.now _ c.well_formed-2.ensures c.if-not-well_formed.true; captures = refl; annotations = refl }
