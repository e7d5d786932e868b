use Rattle.std.proofs.Common.{map}
use Rattle.job_core.specs.JobFields.{fields_of_job}
use Rattle.universe_core.specs.Groups.{group_fields}
use Rattle.universe_core.specs.Jobs.{facts_of_job}
use Rattle.builder_core.proofs.Admitted.{groups_ascend}
use Rattle.publication_core.proofs.Publishing.{few_groups, few_identities}
use Rattle.publication_core.proofs.publish.publish_after.Goals as goal

pub published-requires-clause-ascending : goal.published-requires-clause-ascending
published-requires-clause-ascending g c κs within = groups_ascend c.args.ledger (facts_of_job c.args.job) (map group_fields c.in_ok-admitted.admitted.groups.items) c.in_ok-admitted.ensures.groups

pub published-requires-clause-few : goal.published-requires-clause-few
published-requires-clause-few g c κs within = few_groups c.args.ledger (fields_of_job c.args.job) c.in_ok-admitted.admitted.groups.items c.in_ok-admitted.ensures.groups c.requires.within

pub published-requires-clause-identities : goal.published-requires-clause-identities
published-requires-clause-identities g c κs within = few_identities c.args.ledger (fields_of_job c.args.job) (map group_fields c.in_ok-admitted.admitted.groups.items)
    c.in_ok-admitted.ensures.groups c.in_ok-admitted.ensures.admitted
