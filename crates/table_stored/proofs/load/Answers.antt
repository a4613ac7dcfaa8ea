use Rattle.table_stored.proofs.LoadLaws.{length_good, loaded_21, loaded_short, loaded_22, loaded_no, loaded_all}
use Rattle.table_stored.proofs.load.Goals as goal

pub returns-then-file-lt-HEAD : goal.returns-then-file-lt-HEAD
returns-then-file-lt-HEAD c =
    let p = loaded_short c.args.file.now c.args.capto.now c.args.noteto.now _ _ c.is_opening.ensures c.if-not-is_opening.false c.no_table-then-file-lt-HEAD.ensures c.if-file-lt-HEAD.true in
    record { answer = p.0; captures = p.1.0; annotations = p.1.1 }

pub load_from-r-requires : goal.load_from-r-requires
load_from-r-requires c = (c.summary_of-t.ensures, length_good c.args.file.now c.if-file-lt-HEAD.false c.summary_of-t.result c.summary_of-t.ensures _ c.rows_are.ensures c.if-not-rows_are.false)

pub returns-then-r-ne0 : goal.returns-then-r-ne0
returns-then-r-ne0 c =
    let p = loaded_no c.args.file.now c.args.capto.now c.args.noteto.now _ _ c.is_opening.ensures c.if-not-is_opening.false (length_good c.args.file.now c.if-file-lt-HEAD.false c.summary_of-t.result c.summary_of-t.ensures _ c.rows_are.ensures c.if-not-rows_are.false) _ _ _ (c.load_from-r.ensures.answer, (c.load_from-r.ensures.captures, c.load_from-r.ensures.annotations)) c.if-r-ne0.true c.no_table-then-r-ne0.ensures in
    record { answer = p.0; captures = p.1.0; annotations = p.1.1 }

pub returns : goal.returns
returns c =
    let p = loaded_all c.args.file.now c.args.capto.now c.args.noteto.now _ _ c.is_opening.ensures c.if-not-is_opening.false (length_good c.args.file.now c.if-file-lt-HEAD.false c.summary_of-t.result c.summary_of-t.ensures _ c.rows_are.ensures c.if-not-rows_are.false) _ _ _ (c.load_from-r.ensures.answer, (c.load_from-r.ensures.captures, c.load_from-r.ensures.annotations)) c.if-r-ne0.false c.summary_of.ensures in
    record { answer = p.0; captures = p.1.0; annotations = p.1.1 }

pub returns-then-not-rows_are : goal.returns-then-not-rows_are
returns-then-not-rows_are c =
    let p = loaded_22 c.args.file.now c.args.capto.now c.args.noteto.now _ _ c.is_opening.ensures c.if-not-is_opening.false c.no_table-then-not-rows_are.ensures c.if-file-lt-HEAD.false _ c.summary_of-t.ensures _ c.rows_are.ensures c.if-not-rows_are.true in
    record { answer = p.0; captures = p.1.0; annotations = p.1.1 }

pub returns-then-not-is_opening : goal.returns-then-not-is_opening
returns-then-not-is_opening c =
    let p = loaded_21 c.args.file.now c.args.capto.now c.args.noteto.now _ c.no_table.ensures _ c.is_opening.ensures c.if-not-is_opening.true in
    record { answer = p.0; captures = p.1.0; annotations = p.1.1 }
