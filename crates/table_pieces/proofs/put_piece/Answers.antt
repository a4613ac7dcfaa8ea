use native.Mathlib.Omega.{arith}
use lib.ListN.{length-set}
use Rattle.table_pieces.proofs.PiecesLaws.{put_pair}
use Rattle.table_pieces.proofs.put_piece.Goals as goal

pub bounds-out-c-2 : goal.bounds-out-c-2
bounds-out-c-2 c = simp length-set (omega arith)

pub shape_of-out : goal.shape_of-out
shape_of-out c = simp length-set

pub returns : goal.returns
returns c = search put_pair
