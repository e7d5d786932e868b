use Rattle.std.proofs.Common.{◌∙◌}
use Rattle.universe_core.proofs.Placing.{keyed_is}
use Rattle.universe_core.proofs.marking.order.Goals as goal

pub returns : goal.returns
returns c =
    c.order_serials.ensures
    ∙ keyed_is c.args.member.now.id.serial c.args.listed.now.serial.now c.key_of.result c.args.listed.now.key c.key_of.ensures c.requires
