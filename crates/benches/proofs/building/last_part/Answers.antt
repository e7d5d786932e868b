use Rattle.std.proofs.Common.{map, ap, ◌∙◌}
use Rattle.job_core.specs.JobFields.{fields_of_job}
use Rattle.universe_core.specs.Groups.{group_fields}
use Rattle.universe_core.specs.Jobs.{facts_of_job}
use Rattle.universe_core.specs.Ledgers.{no_ledger}
use Rattle.builder_core.proofs.Admitted.{groups_ascend, identities_few}
use Rattle.benches.proofs.building.last_part.Goals as goal

pub built-requires-clause-ascending : goal.built-requires-clause-ascending
built-requires-clause-ascending g c κs within =
    groups_ascend no_ledger (facts_of_job c.args.job.now) (map group_fields c.as_slice.result.now) (ap (map group_fields) c.as_slice.ensures.value ∙ c.in-Ok.ensures.groups)

pub built-requires-clause-identities : goal.built-requires-clause-identities
built-requires-clause-identities g c κs within =
    identities_few _ no_ledger (fields_of_job c.args.job.now) (map group_fields c.as_slice.result.now)
    (ap (map group_fields) c.as_slice.ensures.value ∙ c.in-Ok.ensures.groups) c.in-Ok.ensures.admitted
