use Rattle.ledger_core.proofs.LedgerTexts.{ledger-again, old-again}
use Rattle.ledger_core.proofs.laws.a_text_is_read_back.Goals as goal

pub returns-clause-new : goal.returns-clause-new
returns-clause-new c = λ l fits. ledger-again l fits

pub returns-clause-old : goal.returns-clause-old
returns-clause-old c = λ l fits none. old-again l fits none
