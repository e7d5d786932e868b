use Rattle.ledger_core.specs.LedgerText.{text_in}
use Rattle.command_core.proofs.publishing.ledger_output.Goals as goal

pub returns-then-workers-gt1 : goal.returns-then-workers-gt1
unfolding text_in
returns-then-workers-gt1 g c = rw c.in_ok-pieces.ensures.text at c.digested.ensures
