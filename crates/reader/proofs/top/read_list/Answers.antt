use mathlib.Core.Path.{sym, ◌∙◌}
use Rattle.reader.proofs.TopLaws.{begins_other}
use Rattle.reader.proofs.ReadLaws.{array_end}
use Rattle.reader.proofs.top.read_list.Goals as goal

pub returns-then-peek-ne91 : goal.returns-then-peek-ne91
returns-then-peek-ne91 g c = record {
  list = λ h. absurd (begins_other c.args.s.now 0x5B c.args.at (λ z. c.if-peek-ne91.true (c.peek.ensures ∙ z)) h);
  end = c.skip_value.ensures;
}

pub read_array-requires : goal.read_array-requires
read_array-requires g c = record { was_read = (_, c.requires.was_passed); at_value = sym c.peek.ensures ∙ c.if-peek-ne91.false; s_bound = c.requires.s_bound }

pub returns : goal.returns
returns g c = record { list = λ _. (c.read_array.ensures.low, c.read_array.ensures.kept); end = array_end c.args.s.now c.args.at _ c.requires.was_passed c.read_array.ensures.end }
