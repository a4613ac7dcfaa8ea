-- The code's table is the list of specs/, row by row: computed.
use native.Mathlib.Omega.{arith}
use Rattle.sigmf_datatypes.proofs.Laws.{entry_none}
use Rattle.sigmf_datatypes.proofs.entry_of.Goals as goal

pub returns-in_default : goal.returns-in_default
returns-in_default c = rw (entry_none c.args.code (omega arith)) c.row-in_default.ensures
