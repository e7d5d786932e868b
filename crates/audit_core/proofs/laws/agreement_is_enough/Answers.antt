use Rattle.audit_core.proofs.Findings.{answers_truly}
use Rattle.audit_core.proofs.laws.agreement_is_enough.Goals as goal

pub returns : goal.returns
returns c = answers_truly
