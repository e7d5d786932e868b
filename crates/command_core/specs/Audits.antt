-- What `audit` makes of its files: a store, and the jobs by which it is audited.
use Rattle.std.specs.Prelude.{◌≡◌, ◌≢◌, ◌≤◌, ℕ, All, IsOk, List, [], ◌∷◌, ◌++◌, map, length, sum_by, get_or, nat_lt, if◌then◌else◌}
use Rattle.std.specs.Prelude.{Option, Some, None, Result, Ok, Err}
use Rattle.std.specs.Option.{option_map, option_or}
use Rattle.part_text.specs.SealedFields.{SealedFields}
use Rattle.job_core.specs.declared.bounds.TheConstants.Limits as limits
use Rattle.job_core.specs.declared.bounds.What.TheVariants as what
use Rattle.job_core.specs.JobFields.{JobFields}
use Rattle.job_core.specs.JobMeaning.{kept_in}
use Rattle.universe_core.specs.Step.{bad_crl_from}
use Rattle.store_core.specs.declared.chain.Refusal.TheVariants as refusals
use Rattle.audit_core.specs.declared.auditing.Audited.{Audited}
use Rattle.audit_core.specs.declared.fault.AuditFault.{AuditFault}
use Rattle.audit_core.specs.declared.fault.AuditFault.TheVariants as audits
use Rattle.audit_core.specs.Auditing.{entries_of, IsFound, AreAdmitted, AllAgree}
use Rattle.audit_core.specs.Checking.{truth_by}
use Rattle.word_core.specs.declared.command.Audit.{Audit}
use Rattle.line_core.specs.Lines.{audit_line}
use Rattle.input_core.specs.declared.fault.FileFault.{FileFault}
use Rattle.input_core.specs.declared.fault.FileFault.TheVariants as faults
use Rattle.input_core.specs.Inputs.{Inputs, rest_of}
use Rattle.input_core.specs.Readings.{job_in}
use Rattle.command_core.specs.Faults.{of_admission}
use Rattle.command_core.specs.ReplyFields.{Done, NamedFault}
use Rattle.command_core.specs.Outcomes.{◌>>=◌, input, only}

-- ---- the jobs

-- the serials that are kept of the CRLs of all jobs together
abbrev pub serials_of : List JobFields → ℕ
serials_of jobs = sum_by (λ job. kept_in job.crls) jobs

-- the limit of one job that these have passed together, if they have: that of entries, else that of serials
abbrev pub passed : List JobFields → Option FileFault
passed jobs =
    if nat_lt limits.PUBLISHED.entries (entries_of jobs) then Some (faults.TooMany what.Entries limits.PUBLISHED.entries)
    else if nat_lt limits.PUBLISHED.serials (serials_of jobs) then Some (faults.TooMany what.Serials limits.PUBLISHED.serials)
    else None

abbrev pub unless : {A E : Type 0} → Option E → A → Result A E
unless None x = Ok x
unless (Some e) x = Err e

-- a job behind others, which is counted together with them once it is read
abbrev pub counted : List JobFields → Result JobFields FileFault → Result JobFields FileFault
counted before (Ok job) = unless (passed (before ++ job ∷ [])) job
counted before (Err fault) = Err fault

abbrev pub job_behind : List JobFields → List ℕ → Result JobFields FileFault
job_behind before bytes = counted before (job_in bytes)

-- the jobs with those of these files behind them, each of which is counted before the next is read
abbrev pub jobs_behind : List JobFields → List (List ℕ) → Inputs → Result (List JobFields) NamedFault
jobs_behind before [] inputs = Ok before
jobs_behind before (name ∷ names) inputs = do
  job ← input name (job_behind before) (inputs 0)
  jobs_behind (before ++ job ∷ []) names (rest_of inputs)

-- the first CRL of a job that isn't accepted
abbrev pub bad_crl_in : JobFields → Option FileFault
bad_crl_in job = option_map of_admission (bad_crl_from 0 job.crls)

-- and that of the first of the jobs that has one, under the name of its file
abbrev pub bad_crl : List (List ℕ) → List JobFields → Option NamedFault
bad_crl (name ∷ names) (job ∷ jobs) =
    option_or (option_map (λ fault. record { name = name; fault = fault }) (bad_crl_in job)) (bad_crl names jobs)
-- no job is left: there are as many as names
bad_crl names jobs = None

-- the jobs of these files, all of whose CRLs are accepted
abbrev pub audit_jobs : List (List ℕ) → Inputs → Result (List JobFields) NamedFault
audit_jobs names inputs = do
  jobs ← jobs_behind [] names inputs
  unless (bad_crl names jobs) jobs

-- ---- what is found

-- how many jobs there are, and how many of their entries are accepted, of all of which the store says the truth
abbrev pub audit_done : List JobFields → Audited → Done
audit_done jobs found = only (audit_line (length jobs) found.entries)

-- A job that isn't admitted breaks the chain as its part would; and a store that doesn't say the truth is itself at
-- fault.
abbrev pub of_audit : Audit → AuditFault → NamedFault
of_audit a (audits.OldEpoch job held given) =
    record { name = get_or a.jobs job []; fault = faults.Chain (refusals.OldEpoch held given) }
of_audit a (audits.CoverageShrinks job log) =
    record { name = get_or a.jobs job []; fault = faults.Chain (refusals.CoverageShrinks log) }
of_audit a (audits.Disagrees job entry held listed) =
    record { name = a.store; fault = faults.Disagrees job entry held (truth_by listed) }
of_audit a audits.NoMemory = record { name = a.store; fault = faults.NoMemory }

abbrev pub audited_as : Audit → List JobFields → Result Audited AuditFault → Result Done NamedFault
audited_as a jobs (Ok found) = Ok (audit_done jobs found)
audited_as a jobs (Err fault) = Err (of_audit a fault)

-- what an audit of the parts of a store by these jobs finds, which isn't want of memory
pub record Finds (a : Audit) (parts : List SealedFields) (jobs : List JobFields) (o : Result Done NamedFault) : Type 0 where
  pub result : Result Audited AuditFault
  pub found : IsFound (map (λ s. s.part) parts) jobs result
  pub settled : result ≢ Err audits.NoMemory
  pub is : o ≡ audited_as a jobs result

abbrev pub MakesAudit : Audit → Result (List SealedFields) NamedFault → Result (List JobFields) NamedFault
    → Result Done NamedFault → Type 0
MakesAudit a (Ok parts) (Ok jobs) o = Finds a parts jobs o
MakesAudit a (Ok parts) (Err e) o = o ≡ Err e
MakesAudit a (Err e) jobs o = o ≡ Err e

-- ---- what a success is

-- together the jobs have no more entries, and no more kept serials, than one job may have
pub record AreWithinLimits (jobs : List JobFields) : Type 0 where
  pub entries : entries_of jobs ≤ limits.PUBLISHED.entries
  pub serials : serials_of jobs ≤ limits.PUBLISHED.serials

-- The CRLs of the jobs are accepted, each job is admitted behind those before it, and the parts say the truth of each
-- entry that a job accepts, asked with its one sighting.
pub record IsAudited (parts : List SealedFields) (jobs : List JobFields) : Type 0 where
  pub crls : All (λ job. All (λ c. IsOk c.outcome) job.crls) jobs
  pub admitted : AreAdmitted jobs (length jobs)
  pub agree : AllAgree (map (λ s. s.part) parts) jobs
