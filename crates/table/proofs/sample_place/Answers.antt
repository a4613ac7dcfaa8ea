use Rattle.table.proofs.LocateLaws.{place_low, place_mul, place_add, place_is}
use Rattle.table.proofs.sample_place.Goals as goal

pub bytes_before-requires : goal.bytes_before-requires
bytes_before-requires c = (search place_low, search place_mul)

pub overflow_add-result : goal.overflow_add-result
overflow_add-result c = search place_add

pub returns : goal.returns
returns c = search place_is
