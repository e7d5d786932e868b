-- Jobs that are read from a feed.
use Rattle.std.proofs.Common.{◌≡◌, ◌≢◌, ℕ, List, Option, Some, Result, Ok, Err, refl, ap, inl}
use Rattle.outside_core.specs.declared.depot.Depot.{Ghosts}
use Rattle.outside_core.specs.declared.feed.Feed.{Feed}
use Rattle.outside_core.specs.Files.{Files}
use Rattle.outside_core.specs.Standing.{depot_of, name_of}
use Rattle.job_core.specs.JobFields.{fields_of_job}
use Rattle.job_core.specs.Pulling.{AnswersJob, Blames, IsGiven}
use Rattle.job_core.specs.declared.bounds.TheConstants.Limits as limits
use Rattle.job_core.specs.declared.fault.JobFault.{JobFault}
use Rattle.job_core.specs.declared.fault.JobFault.TheVariants as of
use Rattle.job_core.specs.declared.meaning.Job.{Job}
use Rattle.job_core.proofs.JobSpelled.{found-read}
use Rattle.input_core.specs.Faults.{of_job}
use Rattle.input_core.specs.Readings.{faulted, job_in}
use Rattle.outside_core.specs.Reads.{WhichFailed}
use Rattle.input_core.specs.Inputs.{IsInput}
use Rattle.input_core.proofs.FilesRead.{unread_input, fault_input, no_memory_input}

module _ {D : Type 0} (g : Ghosts D) (old new : Feed D) where
  abbrev Told : Option Files
  Told = g.files (depot_of old)

  abbrev Failed : Option (List ℕ) → Type 0
  Failed = WhichFailed g (depot_of old) (depot_of new)

  -- bytes that are read as the answer, which are the file's where files are told
  abbrev Gives : Result Job JobFault → Type 0
  Gives r = ◌≢◌ {A = Result Job JobFault} r (Err of.ReadFault)
      → (given : List ℕ) × IsGiven g old given × AnswersJob fields_of_job limits.PUBLISHED given r

  pub fed_job : (job : Job) → Blames {X = Job} g old new (Ok job) → Gives (Ok job) → IsInput Told Failed (name_of old) job_in fields_of_job (Ok job)
  fed_job job none gives =
      let x = gives (λ h. let k : ◌≡◌ {A = Result Job JobFault} (Ok job) (Err of.ReadFault) = h in cc) in
      (Some x.0, x.1, ap (faulted of_job) (found-read limits.PUBLISHED x.0 (Ok (fields_of_job job)) x.2), inl none)

  pub fed_fault : (e : JobFault) → Blames {X = Job} g old new (Err e) → Gives (Err e) → IsInput {B = Job} Told Failed (name_of old) job_in fields_of_job (Err (of_job e))
  fed_fault of.ReadFault blames gives = unread_input Told Failed (name_of old) job_in fields_of_job (blames.0 refl)
  fed_fault of.NoMemory blames gives =
      no_memory_input Told Failed (name_of old) job_in fields_of_job (blames.1 (λ h. let k : ◌≡◌ {A = JobFault} of.NoMemory of.ReadFault = h in cc))
  fed_fault (of.Layout f) blames gives =
      let x = gives (λ h. let k : ◌≡◌ {A = Result Job JobFault} (Err (of.Layout f)) (Err of.ReadFault) = h in cc) in
      fault_input Told Failed (name_of old) x.0 job_in fields_of_job (of_job (of.Layout f))
      (blames.1 (λ h. let k : ◌≡◌ {A = JobFault} (of.Layout f) of.ReadFault = h in cc)) x.1
      (ap (faulted of_job) (found-read limits.PUBLISHED x.0 (Err (of.Layout f)) (x.2 (
        λ h. let k : ◌≡◌ {A = JobFault} (of.Layout f) of.NoMemory = h in cc,
        λ h. let k : ◌≡◌ {A = JobFault} (of.Layout f) of.ReadFault = h in cc,
      ))))
  fed_fault (of.TooMany what limit) blames gives =
      let x = gives (λ h. let k : ◌≡◌ {A = Result Job JobFault} (Err (of.TooMany what limit)) (Err of.ReadFault) = h in cc) in
      fault_input Told Failed (name_of old) x.0 job_in fields_of_job (of_job (of.TooMany what limit))
      (blames.1 (λ h. let k : ◌≡◌ {A = JobFault} (of.TooMany what limit) of.ReadFault = h in cc)) x.1
      (ap (faulted of_job) (found-read limits.PUBLISHED x.0 (Err (of.TooMany what limit)) (x.2 (
        λ h. let k : ◌≡◌ {A = JobFault} (of.TooMany what limit) of.NoMemory = h in cc,
        λ h. let k : ◌≡◌ {A = JobFault} (of.TooMany what limit) of.ReadFault = h in cc,
      ))))
