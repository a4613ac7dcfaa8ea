use native.Mathlib.Omega.{arith}
use mathlib.Core.Path.{sym, ◌∙◌}
use Rattle.reader.proofs.ArrayLaws.{close_fits, element_object, element_other}
use Rattle.reader.proofs.arrays.read_element.Goals as goal

pub overflow_add-result : goal.overflow_add-result
overflow_add-result g c = let l = close_fits 29 c.args.s.now c.args.at (sym c.peek.ensures ∙ c.if-peek-ne123.false) c.requires in omega (arith, c.read_object-r.ensures.close)

pub returns-then-peek-ne123 : goal.returns-then-peek-ne123
returns-then-peek-ne123 g c =
    let p = element_other g.E.Entry.kind c.args.s.now c.args.at c.args.n c.args.out.now (λ z. c.if-peek-ne123.true (c.peek.ensures ∙ z)) _ c.skip_value.ensures in
    record { low = p.0; end = p.1.0; memory = p.1.1 }

pub returns : goal.returns
returns g c =
    let p = element_object g.E.Entry.kind c.args.s.now c.args.at c.args.n c.args.out.now (sym c.peek.ensures ∙ c.if-peek-ne123.false) _ _ _ c.read_object-r.ensures.low c.read_object-r.ensures.close c.read_object-r.ensures.memory in
    record { low = p.0; end = p.1.0; memory = p.1.1 }
