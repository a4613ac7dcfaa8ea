use native.Mathlib.Omega.{arith}
use mathlib.Core.Path.{sym, ◌∙◌}
use Rattle.reader.proofs.TopLaws.{find_begin, find_end, find_read, find_past, find_on}
use Rattle.reader.proofs.ReadLaws.{reading_begin, reading_room}
use Rattle.json_blocks.proofs.ByteLaws.{inside}
use Rattle.reader.proofs.top.read_top.Goals as goal

pub overflow_add-at : goal.overflow_add-at
overflow_add-at c = let l = inside c.args.s.now c.args.at 0x7B (sym c.requires.at_value_2) (omega arith) in omega arith

pub loop-n-init : goal.loop-n-init
loop-n-init c = reading_begin c.args.s.now _ _ _ _ c.no_top-top.ensures (find_begin c.args.s.now c.args.at _ c.requires.at_value c.skip_blanks-j.ensures c.requires.s_value c.requires.at_value_2)

pub returns : goal.returns
returns c = record { found = find_end c.args.s.now c.args.at _ c.requires.at_value c.skip_blanks-j.ensures c.loop-n.j _ c.loop-n.invariant.finding (sym c.next_name.ensures ∙ c.in_default.is); parts = c.loop-n.invariant.parts }

pub read_part-r-requires : goal.read_part-r-requires
read_part-r-requires c = record { was_passed = find_read c.args.s.now _ c.loop-n.j c.loop-n.top.places c.loop-n.invariant.finding _ (sym c.next_name.ensures ∙ c.in-Some.is); entries_room = reading_room c.args.s.now _ c.loop-n.j c.loop-n.top _ _ c.loop-n.caps c.loop-n.notes c.loop-n.invariant c.requires.entries_room; parts_read = c.loop-n.invariant.parts }

pub loop-n-smaller : goal.loop-n-smaller
loop-n-smaller c = let o = find_past c.args.s.now _ c.loop-n.j c.loop-n.top.places c.loop-n.invariant.finding _ (sym c.next_name.ensures ∙ c.in-Some.is) _ _ c.next_item-j.ensures c.read_part-r.ensures.end in omega arith

pub loop-n-preserved : goal.loop-n-preserved
loop-n-preserved c = record { finding = find_on c.args.s.now _ c.loop-n.j c.loop-n.top.places c.loop-n.invariant.finding _ (sym c.next_name.ensures ∙ c.in-Some.is) _ _ c.next_item-j.ensures c.read_part-r.ensures.end _ c.part_of-name.ensures.part _ c.top_name.ensures _ c.read_part-r.ensures.places; parts = c.read_part-r.ensures.parts; caps_long = (c.read_part-r.auto.caps) ∙ c.loop-n.invariant.caps_long; notes_long = (c.read_part-r.auto.notes) ∙ c.loop-n.invariant.notes_long }
