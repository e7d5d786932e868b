use Rattle.std.proofs.Common.{◌∙◌, ap}
use Rattle.std.specs.Ordering.{is_lt}
use Rattle.ident_core.proofs.Keys.{code_cmp_at}
use Rattle.universe_core.proofs.Merge.{lower_yes, lower_no}
use Rattle.universe_core.proofs.merging.lower_of.Goals as goal

pub returns-then-is_lt : goal.returns-then-is_lt
returns-then-is_lt c = lower_yes c.args.x.now c.args.y.now c.is_lt.result c.if-is_lt.true (c.is_lt.ensures ∙ ap is_lt (c.cmp.ensures ∙ code_cmp_at c.args.x.now c.args.y.now))

pub returns-else-is_lt : goal.returns-else-is_lt
returns-else-is_lt c = lower_no c.args.x.now c.args.y.now c.is_lt.result c.if-is_lt.false (c.is_lt.ensures ∙ ap is_lt (c.cmp.ensures ∙ code_cmp_at c.args.x.now c.args.y.now))
