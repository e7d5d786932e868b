-- What is true of a store and the jobs by which it is audited.
use Rattle.std.specs.Prelude.{◌≡◌, ◌≢◌, ◌⊎◌, ℕ, ◌<◌, List, [], ◌∷◌, length, map, take, sum_by, Bool, Option, Some}
use Rattle.std.specs.Prelude.{None, Result, Ok, Err, All, IsOk, slice_get}
use Rattle.ident_core.specs.Coverage.{RangesFit}
use Rattle.ident_core.specs.HeadFields.{zero_key}
use Rattle.card_core.specs.PartFields.{PartFields}
use Rattle.card_core.specs.declared.verdict.Verdict.{Verdict}
use Rattle.card_core.specs.Verdict.{verdict}
use Rattle.log_core.specs.declared.Entry.{Entry}
use Rattle.job_core.specs.declared.bounds.TheConstants.Limits.{PUBLISHED}
use Rattle.job_core.specs.JobFields.{JobFields, fields_of_job}
use Rattle.job_core.specs.declared.meaning.Job.{Job}
use Rattle.universe_core.specs.Jobs.{facts_of}
use Rattle.universe_core.specs.History.{Release, past_of, releases, seen, is_listed, class_of}
use Rattle.universe_core.specs.Ledgers.{ledger_of}
use Rattle.universe_core.specs.Step.{KeepsLimits, refusal}
use Rattle.universe_core.specs.declared.class.Class.TheVariants.{Accepted}
use Rattle.universe_core.specs.declared.fault.AdmitFault.{AdmitFault}
use Rattle.universe_core.specs.declared.fault.AdmitFault.TheVariants as admission
use Rattle.history_core.specs.Truth.{truth}
use Rattle.audit_core.specs.declared.auditing.Audited.{Audited}
use Rattle.audit_core.specs.declared.fault.AuditFault.{AuditFault}
use Rattle.audit_core.specs.declared.fault.AuditFault.TheVariants as faults

-- ---- the jobs, and their history

-- what a job keeps to be audited by: its ranges fit, it has no more of each than the limits, and all its CRLs are
-- accepted
pub record IsAuditable (job : JobFields) : Type 0 where
  pub ranges : RangesFit job.ranges
  pub limits : KeepsLimits PUBLISHED job
  pub crls : All (λ c. IsOk c.outcome) job.crls

-- what the jobs of the code say
abbrev pub fields_of_jobs : List Job → List JobFields
fields_of_jobs jobs = map fields_of_job jobs

-- the entries of all jobs together
abbrev pub entries_of : List JobFields → ℕ
entries_of jobs = sum_by (λ job. length job.entries) jobs

-- what the jobs leave, one after the other; no part is known, and the trailers are zeros
unfoldable pub left_by_jobs : List JobFields → List Release
left_by_jobs jobs = releases (λ rs job. zero_key) [] (map facts_of jobs)

-- ---- admission

-- why a job isn't admitted behind some others
abbrev pub refusal_behind : List JobFields → JobFields → Option AdmitFault
refusal_behind jobs job = refusal PUBLISHED (ledger_of (left_by_jobs jobs)) job

-- each of the first n jobs is admitted behind those before it
abbrev pub AreAdmitted : List JobFields → ℕ → Type 0
AreAdmitted jobs n = (j : ℕ) (job : JobFields) → j < n → slice_get jobs j ≡ Some job → refusal_behind (take j jobs) job ≡ None

-- the job at place j is the first that isn't admitted, and why
pub record IsRefused (jobs : List JobFields) (j : ℕ) (why : AdmitFault) : Type 0 where
  pub job : JobFields
  pub at : slice_get jobs j ≡ Some job
  pub refused : refusal_behind (take j jobs) job ≡ Some why
  pub admitted : AreAdmitted jobs j

-- ---- accepted entries

-- the entry at place n of the job at place j is this one, and it is accepted behind the jobs before
pub record IsAccepted (jobs : List JobFields) (j n : ℕ) (e : Entry) : Type 0 where
  pub job : JobFields
  pub at : slice_get jobs j ≡ Some job
  pub entry : slice_get job.entries n ≡ Some (Some e)
  pub accepted : class_of (past_of (left_by_jobs (take j jobs))) (facts_of job) (Some e) ≡ Accepted

-- the parts say the truth of an entry, asked with its one sighting
abbrev pub Agrees : List PartFields → List JobFields → Entry → Type 0
Agrees parts jobs e = verdict parts e.id (e.sighting ∷ []) ≡ truth (left_by_jobs jobs) e.id

-- they do of each entry that is accepted
abbrev pub AllAgree : List PartFields → List JobFields → Type 0
AllAgree parts jobs = (j n : ℕ) (e : Entry) → IsAccepted jobs j n e → Agrees parts jobs e

-- the entry at place m of the job at place i comes before that at place n of the job at place j
abbrev pub ComesBefore : ℕ → ℕ → ℕ → ℕ → Type 0
ComesBefore i m j n = (i < j) ⊎ ((i ≡ j) × (m < n))

-- The entry at place n of the job at place j is the first accepted one of which the parts don't say the truth, with
-- what they say, and whether the truth is revoked.
pub record Disagree (parts : List PartFields) (jobs : List JobFields) (j n : ℕ) (said : Verdict) (is_revoked : Bool) : Type 0 where
  pub entry : Entry
  pub accepted : IsAccepted jobs j n entry
  pub held : said ≡ verdict parts entry.id (entry.sighting ∷ [])
  pub listed : is_revoked ≡ is_listed (left_by_jobs jobs) entry.id
  pub differs : said ≢ truth (left_by_jobs jobs) entry.id
  pub first : (i m : ℕ) (e : Entry) → IsAccepted jobs i m e → ComesBefore i m j n → Agrees parts jobs e

-- the fault says which entry is the first
abbrev pub IsDisagreement : List PartFields → List JobFields → AuditFault → Type 0
IsDisagreement parts jobs (faults.OldEpoch j held given) = ⊥
IsDisagreement parts jobs (faults.CoverageShrinks j log) = ⊥
IsDisagreement parts jobs (faults.Disagrees j n held listed) = Disagree parts jobs j n held listed
IsDisagreement parts jobs faults.NoMemory = ⊥

-- ---- the answer

-- What an audit says of these parts and jobs is so. Want of memory says nothing.
abbrev pub IsFound : List PartFields → List JobFields → Result Audited AuditFault → Type 0
IsFound parts jobs (Ok a) = AreAdmitted jobs (length jobs) × AllAgree parts jobs × (a.entries ≡ length (seen (left_by_jobs jobs)))
IsFound parts jobs (Err (faults.OldEpoch j held given)) = IsRefused jobs j (admission.OldEpoch held given)
IsFound parts jobs (Err (faults.CoverageShrinks j log)) = IsRefused jobs j (admission.CoverageShrinks log)
IsFound parts jobs (Err (faults.Disagrees j n held listed)) = AreAdmitted jobs (length jobs) × Disagree parts jobs j n held listed
IsFound parts jobs (Err faults.NoMemory) = Unit {0}
