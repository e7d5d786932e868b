-- What is known of jobs that were read for an audit: the words of private functions and of proofs.
use Rattle.std.specs.Prelude.{◌≡◌, ℕ, ◌≤◌, ◌<◌, List, [], ◌∷◌, ◌++◌, length, All, Option, None, Ok, Err}
use Rattle.ident_core.specs.Coverage.{RangesFit}
use Rattle.outside_core.specs.Files.{Files}
use Rattle.job_core.specs.declared.bounds.TheConstants.Limits as limits
use Rattle.job_core.specs.JobFields.{JobFields}
use Rattle.job_core.specs.Fitting.{IsWithinLimits}
use Rattle.audit_core.specs.declared.fault.AuditFault.{AuditFault}
use Rattle.audit_core.specs.declared.fault.AuditFault.TheVariants as audits
use Rattle.audit_core.specs.Auditing.{entries_of}
use Rattle.input_core.specs.declared.fault.FileFault.{FileFault}
use Rattle.input_core.specs.declared.fault.FileFault.TheVariants as faults
use Rattle.input_core.specs.Readings.{input_as}
use Rattle.input_core.specs.Inputs.{Inputs, IsRead, AreRead, IsBlamed}
use Rattle.command_core.specs.ReplyFields.{NamedFault}
use Rattle.command_core.specs.Audits.{serials_of, job_behind, jobs_behind}
use Rattle.command_core.specs.Replies.{refusal, SaysWhich}

-- what a job keeps that was read
pub record IsReadable (job : JobFields) : Type 0 where
  pub ranges : RangesFit job.ranges
  pub limits : IsWithinLimits limits.PUBLISHED job

-- jobs that were read and counted: together they are within the limits of one
pub record AreCounted (jobs : List JobFields) : Type 0 where
  pub entries : entries_of jobs ≤ limits.PUBLISHED.entries
  pub serials : serials_of jobs ≤ limits.PUBLISHED.serials
  pub readable : All IsReadable jobs

-- the job of the file of this name was read behind others, and counted
pub record IsAdded
    (told : Option Files) (failed : Option (List ℕ) → Type 0) (name : List ℕ) (before after : List JobFields)
    : Type 0 where
  pub given : Option (List ℕ)
  pub read : IsRead told failed name given
  pub none_failed : failed None
  pub job : JobFields
  pub gives : input_as (job_behind before) given ≡ Ok job
  pub grown : after ≡ before ++ job ∷ []

-- this is wrong with the file of a job behind others
pub record IsNotAdded
    (told : Option Files) (failed : Option (List ℕ) → Type 0) (name : List ℕ) (before : List JobFields) (fault : FileFault)
    : Type 0 where
  pub given : Option (List ℕ)
  pub read : IsRead told failed name given
  pub blamed : IsBlamed {A = JobFields} failed name faults.Unread (Err fault)
  pub gives : input_as (job_behind before) given ≡ Err fault

-- the files of these names were read as these jobs, and counted
pub record AreAdded
    (told : Option Files) (failed : Option (List ℕ) → Type 0) (names : List (List ℕ)) (jobs : List JobFields)
    : Type 0 where
  pub inputs : Inputs
  pub read : AreRead told failed names inputs
  pub none_failed : failed None
  pub makes : jobs_behind [] names inputs ≡ Ok jobs
  pub many : length jobs ≡ length names

-- this is wrong with one of the files
pub record AreNotAdded
    (told : Option Files) (failed : Option (List ℕ) → Type 0) (names : List (List ℕ)) (e : NamedFault)
    : Type 0 where
  pub inputs : Inputs
  pub read : AreRead told failed names inputs
  pub blames : SaysWhich failed names (refusal e.name e.fault)
  pub makes : jobs_behind [] names inputs ≡ Err e

-- a fault that names a job names one of so many
abbrev pub NamesOneOf : ℕ → AuditFault → Type 0
NamesOneOf n (audits.OldEpoch job held given) = job < n
NamesOneOf n (audits.CoverageShrinks job log) = job < n
NamesOneOf n (audits.Disagrees job entry held listed) = Unit {0}
NamesOneOf n audits.NoMemory = Unit {0}
