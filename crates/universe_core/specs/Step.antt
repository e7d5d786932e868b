-- The step from a ledger and a job to the next part and ledger: what is admitted, and why a job isn't.
use Rattle.std.specs.Prelude.{◌≡◌, ◌≢◌, ℕ, suc, ◌≤◌, List, [], ◌∷◌, length, map, All, nat_le, nat_lt, if◌then◌else◌}
use Rattle.std.specs.Prelude.{Option, Some, None, Result, Ok, Err}
use Rattle.std.specs.Prelude.{IfOk, IfErr, OnOk}
use Rattle.std.specs.Option.{option_map, option_or}
use Rattle.ident_core.specs.declared.kind.Kind.{Kind}
use Rattle.ident_core.specs.declared.kind.Kind.TheVariants as kinds
use Rattle.ident_core.specs.Coverage.{first_outside}
use Rattle.ident_core.specs.HeadFields.{HeadFields, zero_key}
use Rattle.crl_core.specs.declared.crl.CrlFault.{CrlFault}
use Rattle.crl_core.specs.Outcome.{CrlFields}
use Rattle.job_core.specs.declared.bounds.Limits.{Limits}
use Rattle.job_core.specs.declared.bounds.What.TheVariants as what
use Rattle.job_core.specs.declared.meaning.Job.{Job}
use Rattle.job_core.specs.JobFields.{CrlMeaning, JobFields, fields_of_job}
use Rattle.ident_core.specs.declared.bounds.TheConstants.{MAX_PARTS}
use Rattle.ledger_core.specs.LedgerFields.{LedgerPartFields, LedgerFields, newest, sealed_with}
use Rattle.universe_core.specs.Jobs.{JobFacts, facts_of, facts_of_job}
use Rattle.universe_core.specs.History.{accepted_with, released}
use Rattle.universe_core.specs.Ledgers.{past_in, next_ledger}
use Rattle.universe_core.specs.Groups.{GroupFields, IsGroup, group_fields, groups}
use Rattle.universe_core.specs.Counting.{counts}
use Rattle.universe_core.specs.declared.admitted.Admitted.{Admitted}
use Rattle.universe_core.specs.declared.counts.Counts.{Counts}
use Rattle.universe_core.specs.declared.fault.AdmitFault.{AdmitFault}
use Rattle.universe_core.specs.declared.fault.AdmitFault.TheVariants as faults

-- no more ranges, CRLs and entries than the limits
pub record KeepsLimits (limits : Limits) (job : JobFields) : Type 0 where
  pub ranges : length job.ranges ≤ limits.ranges
  pub crls : length job.crls ≤ limits.crls
  pub entries : length job.entries ≤ limits.entries

-- ---- why a job isn't admitted: the first of these that holds

-- the first CRL that isn't accepted, with its place from this one on
abbrev pub bad_crl_at : ℕ → Result CrlFields CrlFault → Option AdmitFault
bad_crl_at place (Ok c) = None
bad_crl_at place (Err fault) = Some (faults.BadCrl place fault)

abbrev pub bad_crl_from : ℕ → List CrlMeaning → Option AdmitFault
bad_crl_from place [] = None
bad_crl_from place (c ∷ crls) = option_or (bad_crl_at place c.outcome) (bad_crl_from (suc place) crls)

-- the epoch isn't above the newest part's
abbrev pub old_epoch : Option LedgerPartFields → ℕ → Option AdmitFault
old_epoch None epoch = None
old_epoch (Some p) epoch = if nat_le epoch p.epoch then Some (faults.OldEpoch p.epoch epoch) else None

-- a range of the newest part lies in none of the job's
abbrev pub shrunk : Option LedgerPartFields → JobFacts → Option AdmitFault
shrunk None job = None
shrunk (Some p) job = option_map faults.CoverageShrinks (first_outside p.ranges job.ranges)

-- the chain has as many parts as it may
abbrev pub chain_full : List LedgerPartFields → Option AdmitFault
chain_full parts = if nat_le MAX_PARTS (length parts) then Some faults.ChainFull else None

-- there are more accepted identities than the limit
abbrev pub too_many : Limits → LedgerFields → JobFacts → Option AdmitFault
too_many limits ledger job =
    if nat_lt limits.identities (length (accepted_with (past_in ledger) job)) then Some (faults.TooMany what.Identities limits.identities)
    else None

unfoldable pub refusal : Limits → LedgerFields → JobFields → Option AdmitFault
refusal limits ledger job =
    option_or (bad_crl_from 0 job.crls)
    (option_or (old_epoch (newest ledger.parts) job.epoch)
    (option_or (shrunk (newest ledger.parts) (facts_of job))
    (option_or (chain_full ledger.parts) (too_many limits ledger (facts_of job)))))

-- ---- what is admitted

abbrev pub parent_by : Option LedgerPartFields → List ℕ
parent_by None = zero_key
parent_by (Some p) = p.trailer

abbrev pub kind_by : List LedgerPartFields → Kind
kind_by [] = kinds.Snapshot
kind_by (p ∷ ps) = kinds.Delta

-- the head of the part after these
abbrev pub head_after : List LedgerPartFields → JobFacts → HeadFields
head_after parts job = record { kind = kind_by parts; epoch = job.epoch; parent = parent_by (newest parts); ranges = job.ranges }

abbrev pub groups_after : LedgerFields → JobFacts → List GroupFields
groups_after ledger job = groups (released (past_in ledger) job [])

abbrev pub counts_after : LedgerFields → JobFacts → Counts
counts_after ledger job = counts (past_in ledger) job

-- the job is admitted behind the ledger, or refused with the first cause that holds, or memory is wanting
pub record IsAdmission (limits : Limits) (ledger : LedgerFields) (job : Job) (result : Result Admitted AdmitFault) : Type 0 where
  pub admitted : OnOk result (refusal limits ledger (fields_of_job job) ≡ None)
  pub refused : IfErr result (λ e. e ≢ faults.NoMemory → refusal limits ledger (fields_of_job job) ≡ Some e)
  pub head : IfOk result (λ a. a.head ≡ head_after ledger.parts (facts_of_job job))
  pub groups : IfOk result (λ a. map group_fields a.groups.items ≡ groups_after ledger (facts_of_job job))
  pub facts : IfOk result (λ a. All IsGroup (map group_fields a.groups.items))
  pub counts : IfOk result (λ a. a.counts ≡ counts_after ledger (facts_of_job job))
  -- for every trailer that the next part may have
  pub next : IfOk result (λ a. (trailer : List ℕ) → sealed_with a.next trailer ≡ next_ledger ledger (facts_of_job job) trailer)
