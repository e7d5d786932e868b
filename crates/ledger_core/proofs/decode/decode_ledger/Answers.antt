use Rattle.std.proofs.Common.{arith}
use Rattle.ledger_core.proofs.Decodes.{spelled-of, fits-of, only-of}
use Rattle.ledger_core.proofs.LedgerBounds.{at-of}
use Rattle.ledger_core.proofs.decode.decode_ledger.Goals as goal

pub returns-clause-spelled : goal.returns-clause-spelled
returns-clause-spelled c = spelled-of c.args.bytes.now c.ledger_in.result (λ i. omega (arith, c.type_inv.bytes i)) c.ledger_in.ensures

pub returns-clause-fits : goal.returns-clause-fits
returns-clause-fits c = fits-of c.args.bytes.now c.ledger_in.result (λ i. omega (arith, c.type_inv.bytes i)) c.ledger_in.ensures

pub returns-clause-only : goal.returns-clause-only
returns-clause-only c = λ l fits is. only-of c.args.bytes.now c.ledger_in.result l c.ledger_in.ensures fits is

pub returns-clause-at : goal.returns-clause-at
returns-clause-at c = at-of c.args.bytes.now c.ledger_in.result c.ledger_in.ensures
