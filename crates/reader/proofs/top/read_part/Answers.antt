use mathlib.Core.Path.{sym, ap}
use Rattle.reader.proofs.ReadLaws.{global_on, captures_on, annotations_on}
use Rattle.reader.specs.Parts.{places_with}
use Rattle.reader.specs.declared.TopName.{TopName}
use Rattle.reader.proofs.top.read_part.Goals as goal

pub read_globals-g-requires : goal.read_globals-g-requires
read_globals-g-requires c = c.requires.was_passed

pub read_list-c-requires : goal.read_list-c-requires
read_list-c-requires c = record { was_passed = c.requires.was_passed; s_bound = c.requires.entries_room.0 }

pub read_list-a-requires : goal.read_list-a-requires
read_list-a-requires c = record { was_passed = c.requires.was_passed; s_bound = c.requires.entries_room.1 }

pub returns-in-Global : goal.returns-in-Global
returns-in-Global c = record { places = ap (λ (n : TopName). places_with n c.args.at c.args.top.places) (sym c.in-Global.is); parts = global_on c.args.s.now c.args.at c.args.top _ _ c.requires.parts_read _ c.read_globals-g.ensures.globals; end = c.read_globals-g.ensures.end }

pub returns-in-Captures : goal.returns-in-Captures
returns-in-Captures c = record { places = ap (λ (n : TopName). places_with n c.args.at c.args.top.places) (sym c.in-Captures.is); parts = captures_on c.args.s.now c.args.at c.args.top _ _ c.requires.parts_read _ _ c.read_list-c.ensures.list; end = c.read_list-c.ensures.end }

pub returns-in-Annotations : goal.returns-in-Annotations
returns-in-Annotations c = record { places = ap (λ (n : TopName). places_with n c.args.at c.args.top.places) (sym c.in-Annotations.is); parts = annotations_on c.args.s.now c.args.at c.args.top _ _ c.requires.parts_read _ _ c.read_list-a.ensures.list; end = c.read_list-a.ensures.end }

pub returns-in-Other : goal.returns-in-Other
returns-in-Other c = record { places = ap (λ (n : TopName). places_with n c.args.at c.args.top.places) (sym c.in-Other.is); parts = c.requires.parts_read; end = c.skip_value.ensures }
