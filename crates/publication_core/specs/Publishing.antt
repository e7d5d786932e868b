-- What is published of a job in the current format behind a ledger, which need not be that of a history. Two words say
-- it: `PublicationFields` is what is published, and `Publishes` ties the ledger and the job to that, or to why nothing is.
use Rattle.std.specs.Prelude.{◌≡◌, ℕ, length, Some, None, Result, Ok, Err}
use Rattle.equation_core.specs.Rows.{sha256_row}
use Rattle.part_text.specs.SealedFields.{SealedFields}
use Rattle.job_core.specs.declared.bounds.TheConstants.Limits as limits
use Rattle.job_core.specs.JobFields.{JobFields}
use Rattle.ledger_core.specs.LedgerFields.{LedgerFields}
use Rattle.universe_core.specs.declared.counts.Counts.{Counts}
use Rattle.universe_core.specs.Jobs.{facts_of}
use Rattle.universe_core.specs.Ledgers.{next_ledger}
use Rattle.universe_core.specs.Step.{refusal, head_after, groups_after, counts_after}
use Rattle.builder_core.specs.Building.{IsFirstRefused}
use Rattle.publication_core.specs.declared.fault.PublishFault.{PublishFault}
use Rattle.publication_core.specs.declared.fault.PublishFault.TheVariants.{Admission, SeedsExhausted, NoMemory}
use Rattle.publication_core.specs.Formats.{current, blocks_in}
use Rattle.publication_core.specs.Building.{IsSealedPart}

-- A part with its place in the chain, the ledger behind it, and how many the job has of each.
pub record PublicationFields : Type 0 where
  pub place : ℕ
  pub sealed : SealedFields
  pub ledger : LedgerFields
  pub counts : Counts

-- The job is admitted, and this is its part, at its place, with the next ledger and its counts; or it is refused; or it
-- is admitted, and an issuer has no block.
abbrev pub Publishes : LedgerFields → JobFields → Result PublicationFields PublishFault → Type 0
Publishes ledger job (Ok p) =
    (refusal limits.PUBLISHED ledger job ≡ None)
    × IsSealedPart current (head_after ledger.parts (facts_of job)) (groups_after ledger (facts_of job)) p.sealed
    × (p.place ≡ length ledger.parts) × (p.ledger ≡ next_ledger ledger (facts_of job) p.sealed.trailer)
    × (p.counts ≡ counts_after ledger (facts_of job))
Publishes ledger job (Err (Admission fault)) = refusal limits.PUBLISHED ledger job ≡ Some fault
Publishes ledger job (Err (SeedsExhausted issuer stage)) =
    (refusal limits.PUBLISHED ledger job ≡ None)
    × IsFirstRefused (blocks_in current) sha256_row (groups_after ledger (facts_of job)) issuer stage
Publishes ledger job (Err NoMemory) = ⊥
