use lib.ListN.{drop}
use Prim.Native.Nat.{◌+◌}
use mathlib.Core.Path.{◌≡◌}
use Rattle.sigmf_datatypes.specs.Datatypes.{datatypes}
use Rattle.sigmf_texts.specs.Lookup.{index_in}
use Rattle.sigmf_texts.specs.Texts.{value_text, code_of}
use Rattle.sigmf_texts.proofs.DatatypeLaws.{named}
use Rattle.sigmf_texts.proofs.datatype.Given as goal

abbrev pub invariant-loop-code : goal.invariant-loop-code
invariant-loop-code l = l.code + index_in named (drop l.code datatypes) (value_text l.part) ≡ code_of (value_text l.part)
