-- The code's types are those of the list of specs/: computed.
use native.Mathlib.Omega.{arith}
use borrow.Author.Rules.{rules}
use Rattle.sigmf_values.specs.declared.FieldType.TheVariants as T
use Rattle.sigmf_names.specs.Names.{capture_fields, core_at, type_at}
use Rattle.sigmf_names.proofs.NameLaws.{Typed, typed, type_over}
use Rattle.sigmf_names.proofs.lookup.capture_type.Goals as goal

pub returns-in-0-to-2 : goal.returns-in-0-to-2
unfolding capture_fields Typed
returns-in-0-to-2 c = typed T.Uint 0 3 capture_fields c.args.i (search rules) (omega arith) (omega arith)

pub returns-in-3 : goal.returns-in-3
unfolding capture_fields core_at type_at
returns-in-3 c = rw c.in-3.is

pub returns-in-4 : goal.returns-in-4
unfolding capture_fields core_at type_at
returns-in-4 c = rw c.in-4.is

pub returns-in-5 : goal.returns-in-5
unfolding capture_fields core_at type_at
returns-in-5 c = rw c.in-5.is

pub returns-in_default : goal.returns-in_default
unfolding capture_fields
returns-in_default c = type_over capture_fields c.args.i (omega arith)
