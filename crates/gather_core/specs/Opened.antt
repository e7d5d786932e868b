-- What an open job stands for.
use Rattle.std.specs.Prelude.{◌≡◌, ℕ, List, length, drop, flat_map, All, Result, Ok, Err}
use Rattle.job_core.specs.declared.bounds.TheConstants.Limits as limits
use Rattle.job_core.specs.declared.bounds.Limits.{Limits}
use Rattle.job_core.specs.declared.fault.JobFault.{JobFault}
use Rattle.job_core.specs.JobLayout.{EntryText}
use Rattle.job_core.specs.JobText.{JobContents, FitsEntry, FitsJob, entry_record, spelling}
use Rattle.gather_core.specs.declared.counting.Tally.{Tally}
use Rattle.gather_core.specs.declared.job.OpenJob.{OpenJob}
use Rattle.gather_core.specs.declared.texts.EntryTexts.{EntryTexts}
use Rattle.gather_core.specs.Raw.{raw_job, opened_text}

-- its epoch, and how many entries it has
abbrev pub epoch_of : OpenJob → ℕ
epoch_of o = o.epoch

abbrev pub entries_of : OpenJob → ℕ
entries_of o = o.entries

-- its text is that of the job, without the end; it counts its entries; and the job fits its layout
pub record Opens (o : OpenJob) (j : JobContents) : Type 0 where
  pub text : o.text.items ≡ opened_text j
  pub epoch : o.epoch ≡ j.epoch
  pub count : o.entries ≡ length j.entries
  pub fits : FitsJob limits.PUBLISHED j

abbrev pub count_of : EntryTexts → ℕ
count_of t = t.count

-- what stands from its place on
abbrev pub records_of : EntryTexts → List ℕ
records_of t = drop t.start t.text.items

-- Its records are those of the entries, one behind the other; it counts them; and each fits its record.
pub record Holds (t : EntryTexts) (entries : List EntryText) : Type 0 where
  pub text : records_of t ≡ flat_map entry_record entries
  pub count : t.count ≡ length entries
  pub fit : All FitsEntry entries

-- so much has the job of the bytes, which are its text; or that is their fault
abbrev pub Counts : Limits → List ℕ → Result Tally JobFault → Type 0
Counts limits bytes (Ok n) =
    (j : JobContents) × (raw_job limits bytes ≡ Ok j) × (bytes ≡ spelling j) × FitsJob limits j
    × (n.epoch ≡ j.epoch) × (n.ranges ≡ length j.ranges) × (n.entries ≡ length j.entries)
Counts limits bytes (Err e) = raw_job limits bytes ≡ Err e
