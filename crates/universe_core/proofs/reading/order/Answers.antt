use Rattle.std.proofs.Common.{◌∙◌}
use Rattle.universe_core.proofs.Placing.{apart, level, keyed_is}
use Rattle.universe_core.proofs.reading.order.Goals as goal

pub returns-then-x-y : goal.returns-then-x-y
returns-then-x-y c = c.cmp.ensures ∙ apart c.args.x.now.place c.args.y.now.place _ c.if-x-y.true

pub returns : goal.returns
returns c =
    c.order_serials.ensures
    ∙ keyed_is c.args.x.now.serial c.args.y.now.serial c.key_of.result c.key_of-2.result c.key_of.ensures c.key_of-2.ensures
    ∙ level c.args.x.now.place c.args.y.now.place _ c.if-x-y.false
