use Rattle.publication_core.proofs.Publications.{admitted_published}
use Rattle.publication_core.proofs.laws.what_can_be_is_published.Goals as goal

pub returns : goal.returns
returns c = λ ledger job none have. admitted_published ledger job none have
