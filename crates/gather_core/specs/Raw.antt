-- The raw job of bytes: what its records hold, as they stand.
use Rattle.std.specs.Prelude.{ℕ, List, ◌++◌, flat_map, Result, Ok, Err}
use Rattle.octets_core.specs.Reading.{value_of}
use Rattle.job_core.specs.declared.bounds.Limits.{Limits}
use Rattle.job_core.specs.declared.bounds.TheConstants.Limits as limits
use Rattle.job_core.specs.declared.fault.JobFault.{JobFault}
use Rattle.job_core.specs.JobLayout.{EntryText, JobTexts, job}
use Rattle.job_core.specs.JobText.{JobContents, opening_text, range_record, crl_record, entry_record}
pub use Rattle.job_core.specs.JobText.{ranges_in, crls_in, entries_in, contents_in}
use Rattle.job_core.specs.Reader.{no_serials}
use Rattle.gather_core.specs.Pages.{PageFields}

abbrev pub raw_by : Result JobTexts JobFault → Result JobContents JobFault
raw_by (Ok t) = Ok (contents_in t)
raw_by (Err e) = Err e

-- what the records of a job hold, or the first fault of its layout; no CRL is read, so that none brings serials
abbrev pub raw_job : Limits → List ℕ → Result JobContents JobFault
raw_job limits bytes = raw_by (value_of (job no_serials limits bytes 0))

-- the limits of a piece: those that are published, with no CRL
abbrev pub piece_limits : Limits
piece_limits = record limits.PUBLISHED { crls = 0 }

-- ---- with entries behind its own

abbrev pub with_entries : JobContents → List EntryText → JobContents
with_entries j more = record j { entries = j.entries ++ more }

-- an entry of a page, of this log
abbrev pub of_log : List ℕ → PageFields → EntryText
of_log log e = record { log = log; leaf = e.leaf; extra = e.extra }

-- the text of a job without the byte that ends it
abbrev pub opened_text : JobContents → List ℕ
opened_text j =
    opening_text j.epoch j.moment ++ (flat_map range_record j.ranges ++ (flat_map crl_record j.crls ++ flat_map entry_record j.entries))
