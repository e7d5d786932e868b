use Rattle.std.proofs.Common.{arith}
use Rattle.ledger_core.proofs.Decodes.{body-fits}
use Rattle.ledger_core.proofs.decode.ledger_in.Goals as goal

pub new-requires : goal.new-requires
new-requires c =
    let fits = body-fits c.args.bytes.now (λ i. omega (arith, c.type_inv.bytes i)) c.new-cursor.result c.body_of.new.cursor _ c.new-cursor.ensures c.in_ok-parts.ensures.0 in
    fits.facts
