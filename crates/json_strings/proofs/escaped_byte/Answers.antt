use mathlib.Core.Path.{◌∙◌}
use Rattle.json_strings.proofs.DecodeLaws.{escape_own, escape_none, escape_more, escape_last, unit_escape}
use Rattle.json_strings.proofs.LengthLaws.{unit_point}
use Rattle.json_strings.proofs.escaped_byte.Goals as goal

pub returns-in_default : goal.returns-in_default
returns-in_default c = c.own_byte.ensures ∙ escape_own _ _ c.requires.at_in_bounds c.requires.at_value _ c.escape_unit.ensures c.in_default.is

pub returns-then-n-p : goal.returns-then-n-p
returns-then-n-p c =
    escape_none _ _ c.requires.at_in_bounds c.requires.at_value _ c.escape_unit.ensures _ _ _ c.in-Some.is
    c.utf8_len-n.ensures c.if-n-p.true

pub utf8_byte-b-requires-clause-p_bound : goal.utf8_byte-b-requires-clause-p_bound
utf8_byte-b-requires-clause-p_bound c =
    unit_point _ _ _ _ (unit_escape _ _ c.requires.at_in_bounds c.requires.at_value _ c.escape_unit.ensures ∙ c.in-Some.is)

pub returns-then-passed-n : goal.returns-then-passed-n
returns-then-passed-n c =
    escape_more _ _ c.requires.at_in_bounds c.requires.at_value _ c.escape_unit.ensures _ _ _ c.in-Some.is
    c.utf8_len-n.ensures _ c.utf8_byte-b.ensures c.if-passed-n.true

pub returns-else-passed-n : goal.returns-else-passed-n
returns-else-passed-n c =
    escape_last _ _ c.requires.at_in_bounds c.requires.at_value _ c.escape_unit.ensures _ _ _ c.in-Some.is
    c.utf8_len-n.ensures _ c.utf8_byte-b.ensures c.if-n-p.false c.if-passed-n.false
