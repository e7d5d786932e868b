use Rattle.std.proofs.Common.{◌∙◌, ap}
use Rattle.std.specs.Ordering.{ordering_then}
use Rattle.ident_core.specs.Order.{octets_cmp}
use Rattle.ident_core.proofs.Serials.{serial_cmp}
use Rattle.ident_core.proofs.identity.compare.Goals as goal

pub returns : goal.returns
returns c = c.cmp.ensures ∙ ap (ordering_then (octets_cmp c.args.x.now.issuer c.args.y.now.issuer)) (serial_cmp c.args.x.now.serial c.args.y.now.serial)
