use Rattle.sigmf_objects.proofs.GlobalLaws.{datatype_length, globals_are}
use Rattle.json_names.specs.Same.{same}
use Rattle.sigmf_texts.specs.Lookup.{index_in}
use Rattle.sigmf_names.specs.Names.{global_fields}
use Rattle.sigmf_objects.proofs.global.globals_at.Goals as goal

pub code_at-requires : goal.code_at-requires
code_at-requires c = datatype_length c.args.s.now c.args.places.now c.args.sizes.now c.requires.fitting

pub returns : goal.returns
unfolding index_in same global_fields
returns c = globals_are c.args.s.now c.args.places.now c.args.sizes.now c.requires.fitting _ _ c.code_at.ensures c.uint_or.ensures
