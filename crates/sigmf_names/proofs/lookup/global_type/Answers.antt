-- The code's types are those of the list of specs/: computed.
use native.Mathlib.Omega.{arith}
use borrow.Author.Rules.{rules}
use Rattle.sigmf_values.specs.declared.FieldType.TheVariants as T
use Rattle.sigmf_names.specs.Names.{global_fields, core_at, type_at}
use Rattle.sigmf_names.proofs.NameLaws.{Typed, typed, type_over}
use Rattle.sigmf_names.proofs.lookup.global_type.Goals as goal

pub returns-in-0-to-11 : goal.returns-in-0-to-11
unfolding global_fields Typed
returns-in-0-to-11 c = typed T.Text 0 12 global_fields c.args.i (search rules) (omega arith) (omega arith)

pub returns-in-12-to-14 : goal.returns-in-12-to-14
unfolding global_fields Typed
returns-in-12-to-14 c = typed T.Uint 12 3 global_fields c.args.i (search rules) (omega arith) (omega arith)

pub returns-in-15-to-16 : goal.returns-in-15-to-16
unfolding global_fields Typed
returns-in-15-to-16 c = typed T.Double 15 2 global_fields c.args.i (search rules) (omega arith) (omega arith)

pub returns-in-17 : goal.returns-in-17
unfolding global_fields core_at type_at
returns-in-17 c = rw c.in-17.is

pub returns-in-18 : goal.returns-in-18
unfolding global_fields core_at type_at
returns-in-18 c = rw c.in-18.is

pub returns-in-19 : goal.returns-in-19
unfolding global_fields core_at type_at
returns-in-19 c = rw c.in-19.is

pub returns-in_default : goal.returns-in_default
unfolding global_fields
returns-in_default c = type_over global_fields c.args.i (omega arith)
