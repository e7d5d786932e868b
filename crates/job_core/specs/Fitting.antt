-- What holds of each job that was read.
use Rattle.std.specs.Prelude.{◌≡◌, ◌<◌, ◌≤◌, ◌^◌, length, Some, None, All, IfSome, IfOk}
use Rattle.std.specs.Int.{w64}
use Rattle.std.specs.Int.RustNames.{FitsSigned}
use Rattle.octets_core.specs.Linked.{Linked}
use Rattle.ident_core.specs.declared.bounds.TheConstants.{MAX_SERIAL}
use Rattle.ident_core.specs.Coverage.{RangesFit}
use Rattle.ident_core.specs.RangeText.{FitsRange}
use Rattle.crl_core.specs.Outcome.{CrlFieldsFit}
use Rattle.log_core.specs.declared.Entry.{Entry}
use Rattle.job_core.specs.declared.bounds.Limits.{Limits}
use Rattle.job_core.specs.JobFields.{JobFields}
use Rattle.job_core.specs.JobMeaning.{kept_in}

-- keys of 32 bytes, a serial of 1 to the most octets, a time of 64 bits, and a date of 64 bits, where there is one
pub record EntryFieldsFit (e : Entry) : Type 0 where
  pub issuer : length e.id.issuer ≡ 32
  pub some_serial : 1 ≤ length e.id.serial
  pub short_serial : length e.id.serial ≤ MAX_SERIAL
  pub log : length e.sighting.log ≡ 32
  pub time : e.sighting.time < 2 ^ 64
  pub until : IfSome e.until (FitsSigned w64)

-- What publishing needs of a job: numbers, keys and the serials of entries fit their fields, and the ranges are as the
-- head of a part holds them.
pub record FitsPublishing (job : JobFields) : Type 0 where
  pub epoch : job.epoch < 2 ^ 64
  pub moment : job.moment < 2 ^ 64
  pub ranges_fit : RangesFit job.ranges
  pub ranges : Linked FitsRange (λ previous r. Some r.log) None job.ranges
  pub crls : All (λ c. length c.issuer ≡ 32) job.crls
  pub entries : All (λ e. IfSome e EntryFieldsFit) job.entries

-- that, and what its CRLs come to fits too
pub record FitsFields (job : JobFields) : Type 0 where
  pub publishing : FitsPublishing job
  pub accepted : All (λ c. IfOk c.outcome CrlFieldsFit) job.crls

-- no more of each than the limit
pub record IsWithinLimits (limits : Limits) (job : JobFields) : Type 0 where
  pub ranges : length job.ranges ≤ limits.ranges
  pub crls : length job.crls ≤ limits.crls
  pub serials : kept_in job.crls ≤ limits.serials
  pub entries : length job.entries ≤ limits.entries
