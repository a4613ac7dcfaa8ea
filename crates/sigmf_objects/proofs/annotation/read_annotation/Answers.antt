use native.Mathlib.Omega.{arith}
use mathlib.Core.Path.{refl}
use Rattle.sigmf_objects.proofs.ObjectLaws.{clear_zeros, within_at, annotation_is}
use Rattle.sigmf_names.specs.Names.{annotation_fields}
use Rattle.sigmf_objects.proofs.annotation.read_annotation.Goals as goal

pub find_fields-w-requires : goal.find_fields-w-requires
unfolding annotation_fields
find_fields-w-requires c = record { places_len = refl; sizes_len = refl; clear = clear_zeros 11; clear_2 = clear_zeros 11 }

pub raw_text-label-requires : goal.raw_text-label-requires
raw_text-label-requires c = omega (arith, within_at c.args.s.now _ c.find_fields-w.ensures.inside 3)

pub returns : goal.returns
returns c = annotation_is c.args.s.now c.args.at _ _ c.find_fields-w.ensures.noted c.find_fields-w.ensures.measured _ _ _ _ _ _ c.find_fields-w.ensures.low c.place_low-low.ensures c.least.ensures c.count_at-count.ensures c.raw_text-label.ensures c.find_fields-w.ensures.close
