use Rattle.ledger_core.proofs.LedgerReads.{ledger-found}
use Rattle.ledger_core.proofs.laws.only_a_text_is_read.Goals as goal

pub returns : goal.returns
returns c = λ bytes l n fits h. ledger-found bytes l n fits h
