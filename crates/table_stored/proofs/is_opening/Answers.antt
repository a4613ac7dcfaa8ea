use mathlib.Core.Path.{◌∙◌}
use Rattle.table_stored.proofs.CodeLaws.{opens_is}
use Rattle.table_stored.proofs.is_opening.Goals as goal

pub returns : goal.returns
returns c = c.starts_with.ensures.value ∙ opens_is c.args.file.now
