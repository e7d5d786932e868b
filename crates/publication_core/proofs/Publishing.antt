-- What building asks of the groups of an admitted job.
use Rattle.std.proofs.Common.{◌≡◌, ◌≤◌, List, map, length, None, sym, arith}
use Rattle.std.proofs.lemmas.List.{length-map}
use Rattle.job_core.specs.declared.bounds.TheConstants.Limits.{PUBLISHED}
use Rattle.job_core.specs.JobFields.{JobFields}
use Rattle.job_core.specs.Fitting.{IsWithinLimits}
use Rattle.ledger_core.specs.LedgerFields.{LedgerFields}
use Rattle.universe_core.specs.declared.admitted.Group.{Group}
use Rattle.universe_core.specs.Jobs.{facts_of}
use Rattle.universe_core.specs.Groups.{GroupFields, group_fields}
use Rattle.universe_core.specs.Step.{refusal, groups_after}
use Rattle.builder_core.specs.Building.{identities_in}
use Rattle.builder_core.proofs.Admitted.{groups_few, identities_few}

pub few_groups : (ledger : LedgerFields) (job : JobFields) (gs : List Group) → map group_fields gs ≡ groups_after ledger (facts_of job) → IsWithinLimits PUBLISHED job → length gs ≤ 65535
few_groups ledger job gs is within = omega (arith, sym (length-map gs group_fields), groups_few ledger job (map group_fields gs) is, within.crls)

pub few_identities : (ledger : LedgerFields) (job : JobFields) (gs : List GroupFields) → gs ≡ groups_after ledger (facts_of job) → refusal PUBLISHED ledger job ≡ None → identities_in gs ≤ 4194304
few_identities ledger job gs is none = identities_few PUBLISHED ledger job gs is none
