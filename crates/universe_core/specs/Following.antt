-- What stands before a job, and what makes it one that can't follow.
use Rattle.std.specs.Prelude.{◌≤◌, List, length, All, Option}
use Rattle.std.specs.Option.{option_or}
use Rattle.std.specs.List.Sorted.{IsStrictlySortedBy}
use Rattle.ident_core.specs.Order.{identity_cmp}
use Rattle.job_core.specs.JobFields.{JobFields}
use Rattle.ident_core.specs.declared.bounds.TheConstants.{MAX_PARTS}
use Rattle.ledger_core.specs.LedgerFields.{LedgerPartFields, LedgerFields, AreParts, IsItemOf, ids, newest}
use Rattle.universe_core.specs.Jobs.{facts_of}
use Rattle.universe_core.specs.Step.{bad_crl_from, old_epoch, shrunk, chain_full}
use Rattle.universe_core.specs.declared.fault.AdmitFault.{AdmitFault}

-- what a ledger keeps, and what there is before the first job too
pub record IsBefore (l : LedgerFields) : Type 0 where
  pub few_parts : length l.parts ≤ MAX_PARTS
  pub parts : AreParts l.parts
  pub items_ascend : IsStrictlySortedBy identity_cmp (ids l.items)
  pub items : All (IsItemOf (length l.parts)) l.items

-- why a job isn't admitted, but for the number of its identities
abbrev pub early : List LedgerPartFields → JobFields → Option AdmitFault
early parts job =
    option_or (bad_crl_from 0 job.crls)
    (option_or (old_epoch (newest parts) job.epoch)
    (option_or (shrunk (newest parts) (facts_of job)) (chain_full parts)))
