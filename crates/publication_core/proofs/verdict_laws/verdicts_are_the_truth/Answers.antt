use Rattle.publication_core.proofs.Verdicts.{history_verdict}
use Rattle.publication_core.proofs.verdict_laws.verdicts_are_the_truth.Goals as goal

pub returns : goal.returns
returns c = λ h x ss is some asked. history_verdict h x ss is some asked
