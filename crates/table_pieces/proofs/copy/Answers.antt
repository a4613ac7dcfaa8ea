use Rattle.table_pieces.proofs.CopyCode.{copy_18, kept_18, copy_size, kept_size, copy_19, kept_19, copy_up, copy_fits, copy_room, copy_20, kept_20, copy_0, memory_0}
use Rattle.table.proofs.TableLaws.{laid_of}
use Rattle.table.proofs.LocateLaws.{truly}
use borrow.Author.Rules.{rules}
use Rattle.table_pieces.proofs.copy.Goals as goal

pub returns-then-not-well_formed : goal.returns-then-not-well_formed
returns-then-not-well_formed c = record { answer = search copy_18; memory = search kept_18 }

pub returns-then-bytes-t : goal.returns-then-bytes-t
returns-then-bytes-t c = record { answer = search copy_size; memory = search kept_size }

pub returns-then-not-is_inside : goal.returns-then-not-is_inside
returns-then-not-is_inside c = record { answer = search copy_19; memory = search kept_19 }

pub overflow_sub-n : goal.overflow_sub-n
overflow_sub-n c = search copy_up

pub overflow_mul-n : goal.overflow_mul-n
overflow_mul-n c = search copy_fits

pub returns-then-n-out : goal.returns-then-n-out
returns-then-n-out c = record { answer = search copy_20; memory = search kept_20 }

pub copy_samples-requires : goal.copy_samples-requires
copy_samples-requires c = (search laid_of, search rules, search truly, search copy_room)

pub returns : goal.returns
returns c = record { answer = search copy_0; memory = search memory_0 }
