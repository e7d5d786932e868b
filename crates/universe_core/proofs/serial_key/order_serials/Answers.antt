use Rattle.std.proofs.Common.{◌∙◌}
use Rattle.ident_core.proofs.Serials.{serial_cmp}
use Rattle.universe_core.proofs.Placing.{apart, level}
use Rattle.universe_core.proofs.serial_key.order_serials.Goals as goal

pub returns-then-x_key-y_key : goal.returns-then-x_key-y_key
returns-then-x_key-y_key c = c.cmp.ensures ∙ apart c.args.x_key.length c.args.y_key.length _ c.if-x_key-y_key.true

pub returns-then-x_key-y_key-2 : goal.returns-then-x_key-y_key-2
returns-then-x_key-y_key-2 c =
    c.cmp-then-x_key-y_key-2.ensures ∙ apart c.args.x_key.head c.args.y_key.head _ c.if-x_key-y_key-2.true
    ∙ level c.args.x_key.length c.args.y_key.length _ c.if-x_key-y_key.false

pub returns : goal.returns
returns c =
    c.cmp-2.ensures ∙ serial_cmp c.args.x.now c.args.y.now
    ∙ level c.args.x_key.head c.args.y_key.head _ c.if-x_key-y_key-2.false
    ∙ level c.args.x_key.length c.args.y_key.length _ c.if-x_key-y_key.false
