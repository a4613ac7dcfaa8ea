use mathlib.Core.Path.{refl}
use Rattle.sigmf_objects.proofs.ObjectLaws.{clear_zeros, capture_moment, capture_is}
use Rattle.sigmf_names.specs.Names.{capture_fields}
use Rattle.sigmf_objects.proofs.capture.read_capture.Goals as goal

pub find_fields-w-requires : goal.find_fields-w-requires
unfolding capture_fields
find_fields-w-requires c = record { places_len = refl; sizes_len = refl; clear = clear_zeros 7; clear_2 = clear_zeros 7 }

pub places_low-low-requires : goal.places_low-low-requires
places_low-low-requires c = capture_moment c.args.s.now c.args.at _ _ c.find_fields-w.ensures.noted c.find_fields-w.ensures.measured

pub returns : goal.returns
returns c = capture_is c.args.s.now c.args.at _ _ c.find_fields-w.ensures.noted c.find_fields-w.ensures.measured _ _ _ _ c.find_fields-w.ensures.low c.places_low-low.ensures c.least.ensures c.find_fields-w.ensures.close
