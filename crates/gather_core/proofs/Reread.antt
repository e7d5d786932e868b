-- No fault of a job's bytes is that of a read.
use Rattle.std.proofs.Common.{◌≡◌, ℕ, List, Result, Ok, Err, ap}
use Rattle.octets_core.specs.Reading.{value_of}
use Rattle.job_core.specs.declared.bounds.Limits.{Limits}
use Rattle.job_core.specs.declared.fault.JobFault.{JobFault}
use Rattle.job_core.specs.declared.fault.JobFault.TheVariants as faults
use Rattle.job_core.specs.JobLayout.{JobTexts, job}
use Rattle.job_core.specs.JobText.{JobContents}
use Rattle.job_core.specs.Reader.{no_serials}
use Rattle.job_core.proofs.JobBounds.{never-reads}
use Rattle.gather_core.specs.Raw.{contents_in, raw_by, raw_job}

raw-err : (r : Result (JobTexts × ℕ) JobFault) (e : JobFault) → raw_by (value_of r) ≡ Err e → r ≡ Err e
raw-err (Ok x) e h = absurd (let g : ◌≡◌ {A = Result JobContents JobFault} (Ok (contents_in x.0)) (Err e) = h in cc)
raw-err (Err d) e h = let same : d ≡ e = (let g : ◌≡◌ {A = Result JobContents JobFault} (Err d) (Err e) = h in cc) in ap (λ (c : JobFault). Err c) same

pub no_read : (limits : Limits) (bytes : List ℕ) → raw_job limits bytes ≡ Err faults.ReadFault → ⊥
no_read limits bytes h = never-reads no_serials limits bytes (raw-err (job no_serials limits bytes 0) faults.ReadFault h)
