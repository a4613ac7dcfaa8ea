-- The code's types are those of the list of specs/: computed.
use native.Mathlib.Omega.{arith}
use borrow.Author.Rules.{rules}
use Rattle.sigmf_values.specs.declared.FieldType.TheVariants as T
use Rattle.sigmf_names.specs.Names.{annotation_fields}
use Rattle.sigmf_names.proofs.NameLaws.{Typed, typed, type_rest}
use Rattle.sigmf_names.proofs.lookup.annotation_type.Goals as goal

pub returns-in-0-to-1 : goal.returns-in-0-to-1
unfolding annotation_fields Typed
returns-in-0-to-1 c = typed T.Uint 0 2 annotation_fields c.args.i (search rules) (omega arith) (omega arith)

pub returns-in-2-to-5 : goal.returns-in-2-to-5
unfolding annotation_fields Typed
returns-in-2-to-5 c = typed T.Text 2 4 annotation_fields c.args.i (search rules) (omega arith) (omega arith)

pub returns-in-6-to-7 : goal.returns-in-6-to-7
unfolding annotation_fields Typed
returns-in-6-to-7 c = typed T.Double 6 2 annotation_fields c.args.i (search rules) (omega arith) (omega arith)

pub returns-in_default : goal.returns-in_default
unfolding annotation_fields Typed
returns-in_default c = type_rest annotation_fields 8 2 c.args.i (search rules) (search rules) (omega arith)
