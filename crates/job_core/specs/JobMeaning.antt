-- What a job means, by what its records hold; and which job bytes are.
use Rattle.std.specs.Prelude.{◌≡◌, ◌≤◌, ℕ, List, map, sum_by, nat_le, if◌then◌else◌, Result, Ok, Err}
use Rattle.octets_core.specs.Reading.{value_of}
use Rattle.job_core.specs.declared.bounds.Limits.{Limits}
use Rattle.job_core.specs.declared.bounds.What.TheVariants as what
use Rattle.job_core.specs.declared.fault.JobFault.{JobFault}
use Rattle.job_core.specs.declared.fault.JobFault.TheVariants as faults
use Rattle.job_core.specs.JobFields.{CrlMeaning, JobFields}
use Rattle.job_core.specs.JobLayout.{kept, serials_of, JobTexts, job}
pub use Rattle.job_core.specs.JobLayout.{crl_meaning, entry_meaning}
use Rattle.job_core.specs.JobText.{JobContents, FitsJob, spelling, contents_in}

abbrev pub meaning_of : JobContents → JobFields
meaning_of j = record {
  epoch = j.epoch;
  moment = j.moment;
  ranges = j.ranges;
  crls = map crl_meaning j.crls;
  entries = map entry_meaning j.entries;
}

-- how many serials the CRLs bring, all of them together
abbrev pub kept_in : List CrlMeaning → ℕ
kept_in crls = sum_by (λ c. kept c.outcome) crls

-- the meaning; or, where the CRLs bring more serials than the limit, that
abbrev pub reading_of : Limits → JobContents → Result JobFields JobFault
reading_of limits j =
    if nat_le (kept_in (meaning_of j).crls) limits.serials then Ok (meaning_of j)
    else Err (faults.TooMany what.Serials limits.serials)

-- The bytes are the text of contents that fit the limits, and the fields are what these mean.
pub record IsJob (limits : Limits) (bytes : List ℕ) (fields : JobFields) : Type 0 where
  pub contents : JobContents
  pub text : bytes ≡ spelling contents
  pub fits : FitsJob limits contents
  pub few_serials : kept_in fields.crls ≤ limits.serials
  pub means : fields ≡ meaning_of contents

-- They are a job; or their layout has a fault, which is the first in their order.
abbrev pub IsJobOf : Limits → List ℕ → Result JobFields JobFault → Type 0
IsJobOf limits bytes (Ok fields) = IsJob limits bytes fields
IsJobOf limits bytes (Err e) = job serials_of limits bytes 0 ≡ Err e

abbrev pub meant : Result JobTexts JobFault → Result JobFields JobFault
meant (Ok t) = Ok (meaning_of (contents_in t))
meant (Err e) = Err e

-- the same as a function: `a_job_is_its_text` says that bytes are this
abbrev pub job_of : Limits → List ℕ → Result JobFields JobFault
job_of limits bytes = meant (value_of (job serials_of limits bytes 0))
