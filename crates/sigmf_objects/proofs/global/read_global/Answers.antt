use mathlib.Core.Path.{refl, ap}
use Rattle.sigmf_objects.proofs.GlobalLaws.{global_fitting, global_is}
use Rattle.sigmf_objects.proofs.ObjectLaws.{clear_zeros}
use Rattle.sigmf_names.specs.Names.{global_fields}
use Rattle.table.specs.declared.Globals.{Globals}
use borrow.Author.Rules.{rules}
use Rattle.sigmf_objects.proofs.global.read_global.Goals as goal

pub find_fields-w-requires : goal.find_fields-w-requires
unfolding global_fields
find_fields-w-requires c = record { places_len = refl; sizes_len = refl; clear = clear_zeros 21; clear_2 = clear_zeros 21 }

pub globals_at-g-requires : goal.globals_at-g-requires
globals_at-g-requires c = record { places_len = search rules; sizes_len = search rules; fitting = global_fitting c.args.s.now c.args.at _ c.find_fields-w.ensures.noted _ c.find_fields-w.ensures.measured }

pub places_low-low-requires : goal.places_low-low-requires
places_low-low-requires c = record { places_len = search rules; sizes_len = search rules; fitting = global_fitting c.args.s.now c.args.at _ c.find_fields-w.ensures.noted _ c.find_fields-w.ensures.measured; code_value = ap (λ (g : Globals). g.datatype) c.globals_at-g.ensures; channels_value = ap (λ (g : Globals). g.channels) c.globals_at-g.ensures }

pub returns : goal.returns
returns c = global_is c.args.s.now c.args.at _ c.find_fields-w.ensures.noted _ _ _ _ _ c.find_fields-w.ensures.low c.places_low-low.ensures c.least.ensures c.globals_at-g.ensures c.find_fields-w.ensures.close
