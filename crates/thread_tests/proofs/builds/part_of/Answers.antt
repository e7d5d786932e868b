use Rattle.std.proofs.Common.{map, ap, ◌∙◌}
use Rattle.job_core.specs.JobFields.{fields_of_job}
use Rattle.universe_core.specs.Groups.{group_fields}
use Rattle.universe_core.specs.Jobs.{facts_of_job}
use Rattle.universe_core.specs.Ledgers.{no_ledger}
use Rattle.builder_core.proofs.Admitted.{groups_ascend, identities_few}
use Rattle.thread_tests.proofs.builds.part_of.Goals as goal

pub build_part-requires-clause-ascending : goal.build_part-requires-clause-ascending
build_part-requires-clause-ascending g c κs within =
    groups_ascend no_ledger (facts_of_job c.args.job.now) (map group_fields c.as_slice-groups.result.now)
    (ap (map group_fields) c.as_slice-groups.ensures.value ∙ c.in_ok-head.ensures.groups)

pub build_part-requires-clause-identities : goal.build_part-requires-clause-identities
build_part-requires-clause-identities g c κs within =
    identities_few _ no_ledger (fields_of_job c.args.job.now) (map group_fields c.as_slice-groups.result.now)
    (ap (map group_fields) c.as_slice-groups.ensures.value ∙ c.in_ok-head.ensures.groups) c.in_ok-head.ensures.admitted

pub build_part_claimed-requires-clause-ascending : goal.build_part_claimed-requires-clause-ascending
build_part_claimed-requires-clause-ascending g c κs within =
    groups_ascend no_ledger (facts_of_job c.args.job.now) (map group_fields c.as_slice-groups.result.now)
    (ap (map group_fields) c.as_slice-groups.ensures.value ∙ c.in_ok-head.ensures.groups)

pub build_part_claimed-requires-clause-identities : goal.build_part_claimed-requires-clause-identities
build_part_claimed-requires-clause-identities g c κs within =
    identities_few _ no_ledger (fields_of_job c.args.job.now) (map group_fields c.as_slice-groups.result.now)
    (ap (map group_fields) c.as_slice-groups.ensures.value ∙ c.in_ok-head.ensures.groups) c.in_ok-head.ensures.admitted
