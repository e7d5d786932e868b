use Rattle.audit_core.proofs.Unique.{one_found}
use Rattle.audit_core.proofs.laws.audits_are_unique.Goals as goal

pub returns : goal.returns
returns c = one_found
