use Rattle.audit_core.proofs.Sightings.{revoked_by_one, revoked_by_some, good_by_all}
use Rattle.audit_core.proofs.laws.one_sighting_is_enough.Goals as goal

pub returns-clause-revoked : goal.returns-clause-revoked
returns-clause-revoked c = revoked_by_one

pub returns-clause-by_one : goal.returns-clause-by_one
returns-clause-by_one c = revoked_by_some

pub returns-clause-good : goal.returns-clause-good
returns-clause-good c = good_by_all
