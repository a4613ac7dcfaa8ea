use Rattle.sigmf_objects.proofs.GlobalLaws.{version_length, only_length, places_low}
use Rattle.json_names.specs.Same.{same}
use Rattle.sigmf_texts.specs.Lookup.{index_in}
use Rattle.sigmf_names.specs.Names.{global_fields}
use Rattle.sigmf_objects.proofs.global.places_low.Goals as goal

pub first_low-first-requires : goal.first_low-first-requires
unfolding index_in same global_fields
first_low-first-requires c = record { code_value = c.requires.code_value; n_value = version_length c.args.s.now c.args.places.now c.args.sizes.now c.requires.fitting }

pub later_low-later-requires : goal.later_low-later-requires
later_low-later-requires c = only_length c.args.s.now c.args.places.now c.args.sizes.now c.requires.fitting

pub returns : goal.returns
unfolding index_in same global_fields
returns c = places_low c.args.s.now c.args.places.now _ _ _ c.args.channels c.least.ensures c.first_low-first.ensures c.requires.channels_value c.later_low-later.ensures
