use Rattle.table.proofs.LocateLaws.{truly}
use Rattle.table.proofs.TableLaws.{laid_of, ends_of}
use Rattle.table.proofs.locate.Goals as goal

pub is_sample-requires : goal.is_sample-requires
is_sample-requires c = search ends_of

pub sample_place-requires : goal.sample_place-requires
sample_place-requires c = (search laid_of, search truly)
