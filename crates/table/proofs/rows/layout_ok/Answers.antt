use mathlib.Core.Path.{◌∙◌}
use Rattle.table.specs.Rows.{captures}
use Rattle.table.proofs.TableLaws.{lay_over, lay_good}
use Rattle.table.proofs.rows.layout_ok.Goals as goal

pub returns-in_default : goal.returns-in_default
returns-in_default g c = lay_over c.args.t (captures (g.N.Numbers.numbers c.args.caps) c.args.t.captures) c.in_default.ensures

pub returns : goal.returns
returns g c = c.eq.ensures ∙ lay_good c.args.t (captures (g.N.Numbers.numbers c.args.caps) c.args.t.captures) c.in-Some.fixed c.in-Some.ensures c.header_sum.result c.header_sum.ensures
