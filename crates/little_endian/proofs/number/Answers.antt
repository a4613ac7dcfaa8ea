use mathlib.Core.Path.{◌∙◌}
use Rattle.little_endian.proofs.ReadLaws.{number_in}
use Rattle.little_endian.proofs.number.Goals as goal

pub returns : goal.returns
returns c = c.from_le_bytes.ensures ∙ number_in c.args.bytes.now c.args.i _ c.as_chunks.result.0.now c.as_chunks.ensures.front c.requires
