-- Something is published of each job behind each ledger, or something stands against it.
use Rattle.std.proofs.Common.{◌≡◌, Option, Some, None, Result, Ok, Err, refl, inl, inr}
use Rattle.equation_core.specs.Rows.{sha256_row}
use Rattle.job_core.specs.declared.bounds.TheConstants.Limits.{PUBLISHED}
use Rattle.job_core.specs.JobFields.{JobFields}
use Rattle.ledger_core.specs.LedgerFields.{LedgerFields}
use Rattle.universe_core.specs.Jobs.{facts_of}
use Rattle.universe_core.specs.Step.{refusal, groups_after}
use Rattle.universe_core.specs.declared.fault.AdmitFault.{AdmitFault}
use Rattle.builder_core.proofs.Existing.{blocks_or_refusal}
use Rattle.publication_core.specs.declared.fault.PublishFault.{PublishFault}
use Rattle.publication_core.specs.declared.fault.PublishFault.TheVariants.{Admission, SeedsExhausted}
use Rattle.publication_core.specs.Formats.{current, blocks_in}
use Rattle.publication_core.specs.Publishing.{PublicationFields, Publishes}
use Rattle.publication_core.proofs.Publications.{admitted_published}

module _ (ledger : LedgerFields) (job : JobFields) where
  by_refusal : (r : Option AdmitFault) → refusal PUBLISHED ledger job ≡ r → (o : Result PublicationFields PublishFault) × Publishes ledger job o
  by_refusal (Some fault) is = (Err (Admission fault), is)
  by_refusal None is = elim (blocks_or_refusal (blocks_in current) sha256_row (groups_after ledger (facts_of job))) [
    | inl b ↦ (let p = admitted_published ledger job is b in (Ok p.0, p.1))
    | inr r ↦ (Err (SeedsExhausted r.0 r.1), (is, r.2))
  ]

  pub something_published : (o : Result PublicationFields PublishFault) × Publishes ledger job o
  something_published = by_refusal (refusal PUBLISHED ledger job) refl
