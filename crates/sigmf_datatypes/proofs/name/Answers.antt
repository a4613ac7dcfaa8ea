use mathlib.Core.Path.{sym}
use Prim.Native.Nat.{ℕ}
use Rattle.std.proofs.lemmas.List.{length-take-le, drop-replicate}
use Rattle.sigmf_datatypes.proofs.Laws.{name_most}
use Rattle.sigmf_datatypes.proofs.name.Goals as goal

pub slice_bounds-name-end : goal.slice_bounds-name-end
slice_bounds-name-end c = rw c.name_bytes-word.ensures (name_most c.args.code)

pub slice_bounds-copy_from_slice-end : goal.slice_bounds-copy_from_slice-end
slice_bounds-copy_from_slice-end c = rw c.name_bytes-word.ensures (sym (length-take-le _ _ (name_most c.args.code)))

pub copy_from_slice-requires : goal.copy_from_slice-requires
copy_from_slice-requires c = rw c.name_bytes-word.ensures (length-take-le _ _ (name_most c.args.code))

pub returns : goal.returns
returns c = rw (c.copy_from_slice.ensures.after, c.name_bytes-word.ensures, drop-replicate {X = ℕ} _ 8 0)
