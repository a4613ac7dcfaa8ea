use native.Mathlib.Omega.{arith}
use mathlib.Core.Path.{sym, ◌∙◌}
use Rattle.reader.proofs.TopLaws.{begins_other}
use Rattle.reader.proofs.ReadLaws.{global_end, global_fits, global_is}
use Rattle.reader.proofs.top.read_globals.Goals as goal

pub returns-then-peek-ne123 : goal.returns-then-peek-ne123
returns-then-peek-ne123 c = record {
  globals = λ h. absurd (begins_other c.args.s.now 0x7B c.args.at (λ z. c.if-peek-ne123.true (c.peek.ensures ∙ z)) h);
  end = c.skip_value.ensures;
}

pub overflow_add-result : goal.overflow_add-result
overflow_add-result c = let l = global_fits c.args.s.now c.args.at (sym c.peek.ensures ∙ c.if-peek-ne123.false) c.requires _ c.read_global-g.ensures in omega arith

pub returns : goal.returns
returns c =
    let opens = sym c.peek.ensures ∙ c.if-peek-ne123.false in
    record {
      globals = λ _. global_is c.args.s.now c.args.at opens c.requires _ c.read_global-g.ensures;
      end = global_end c.args.s.now c.args.at opens c.requires _ c.read_global-g.ensures;
    }
