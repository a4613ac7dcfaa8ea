use native.Mathlib.Omega.{arith}
use mathlib.Core.Path.{sym, ap, ◌∙◌}
use Rattle.json_blocks.specs.TextBytes.{byte}
use Rattle.reader.proofs.TopLaws.{top_object}
use Rattle.reader.proofs.PartLaws.{not_shaped, scan_read, four, no_object}
use Rattle.reader.proofs.scan.scan.Goals as goal

pub returns-then-peek-ne123 : goal.returns-then-peek-ne123
returns-then-peek-ne123 c = record {
  low = c.no_parts.ensures ∙ four c.args.s.now (no_object c.args.s.now (λ z. c.if-peek-ne123.true (c.peek.ensures ∙ ap (byte c.args.s.now) c.skip_blanks-at.ensures ∙ z)));
  contents = λ z. absurd (omega (arith, c.no_parts.ensures));
}

pub read_top-top-requires : goal.read_top-top-requires
read_top-top-requires c = record { s_value = c.requires.s_value; at_value = c.skip_blanks-at.ensures; at_value_2 = sym c.peek.ensures ∙ c.if-peek-ne123.false; entries_room = c.requires.entries_room }

pub returns-then-is_shaped : goal.returns-then-is_shaped
returns-then-is_shaped c =
    let opens = top_object c.args.s.now _ c.skip_blanks-at.ensures (sym c.peek.ensures ∙ c.if-peek-ne123.false) in
    let top = c.read_top-top in
    let p = scan_read c.args.s.now top.result top.new.caps top.new.notes top.ensures.parts top.ensures.found (sym c.is_shaped.ensures ∙ c.if-is_shaped.true) opens c.together.result c.together.ensures in
    record { low = p.0; contents = p.1 }

pub returns-else-is_shaped : goal.returns-else-is_shaped
returns-else-is_shaped c = record {
  low = c.no_parts-else-is_shaped.ensures ∙ four c.args.s.now (not_shaped c.args.s.now _ c.read_top-top.ensures.found (sym c.is_shaped.ensures ∙ c.if-is_shaped.false));
  contents = λ z. absurd (omega (arith, c.no_parts-else-is_shaped.ensures));
}
