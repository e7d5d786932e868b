-- What was read of a job's bytes that stand in memory.
use Rattle.std.specs.Prelude.{◌≡◌, ◌≤◌, ◌-◌, ℕ, List, length, take, Option, Some, None, Result, Ok, Err}
use Rattle.job_core.specs.declared.bounds.Limits.{Limits}
use Rattle.job_core.specs.declared.fault.JobFault.{JobFault}
use Rattle.job_core.specs.declared.record_texts.RecordText.{RecordText}
use Rattle.job_core.specs.declared.walking.JobRecords.{JobRecords}
use Rattle.job_core.specs.JobLayout.{JobTexts, job}
use Rattle.job_core.specs.JobText.{ranges_in, entries_in}
use Rattle.job_core.specs.Partial.{held_in}
use Rattle.job_core.specs.Pulling.{AreBytes}
use Rattle.job_core.specs.Reader.{no_serials, with_record, Begins}
use Rattle.job_core.specs.Records.{item_shown}

-- how many bytes were passed
abbrev pub place_in : JobRecords → ℕ
place_in r = r.cursor.at

-- how many are left
abbrev pub left_of : JobRecords → ℕ
left_of r = length r.cursor.bytes - r.cursor.at

-- how many ranges and entries were read
abbrev pub ranges_read : JobRecords → ℕ
ranges_read r = r.numbers.ranges

abbrev pub entries_read : JobRecords → ℕ
entries_read r = r.numbers.entries

-- the opening and records of the bytes, within these limits
pub record HasRead (limits : Limits) (r : JobRecords) (bytes : List ℕ) (t : JobTexts) : Type 0 where
  pub kept : r.limits ≡ limits
  pub of : r.cursor.bytes ≡ bytes
  pub octets : AreBytes bytes
  pub within : place_in r ≤ length bytes
  pub begins : Begins limits (held_in r.numbers) (take (place_in r) bytes) t

-- it has read one record more, or all of the job, of which it has counted the ranges and the entries, or the fault is the job's
abbrev pub ReadsOne : Limits → JobRecords → List ℕ → JobTexts → Result (Option RecordText) JobFault → Type 0
ReadsOne limits new bytes t (Ok (Some x)) = HasRead limits new bytes (with_record t (item_shown x))
ReadsOne limits new bytes t (Ok None) =
    (job no_serials limits bytes 0 ≡ Ok (t, length bytes)) × (ranges_read new ≡ length (ranges_in t.items)) × (entries_read new ≡ length (entries_in t.items))
ReadsOne limits new bytes t (Err e) = job no_serials limits bytes 0 ≡ Err e
