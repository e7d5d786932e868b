use Rattle.audit_core.proofs.Existing.{something_found}
use Rattle.audit_core.proofs.laws.audits_exist.Goals as goal

pub returns : goal.returns
returns c = something_found
