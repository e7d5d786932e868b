use Rattle.publication_core.proofs.Verdicts.{base_verdict}
use Rattle.publication_core.proofs.base_laws.rebases_keep_verdicts.Goals as goal

pub returns : goal.returns
returns c = λ h moment cut s x ss is kept other some asked. base_verdict h moment cut s x ss is kept other some asked
