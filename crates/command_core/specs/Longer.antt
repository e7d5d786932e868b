-- Jobs with the entries of files behind their own: what `gather` makes of pages of a log, and `merge` of pieces.
use Rattle.std.specs.Prelude.{ℕ, ◌+◌, ◌==◌, List, [], ◌∷◌, ◌++◌, map, length, nat_le, nat_lt, if◌then◌else◌, Option, Result, Ok, Err}
use Rattle.gather_core.specs.declared.fault.PageFault.TheVariants as pages
use Rattle.gather_core.specs.declared.page.TheConstants.{MAX_PAGE}
use Rattle.gather_core.specs.Pages.{PageFields, page_of}
use Rattle.gather_core.specs.Raw.{raw_job, piece_limits, of_log, with_entries}
use Rattle.job_core.specs.declared.bounds.TheConstants.Limits as limits
use Rattle.job_core.specs.declared.bounds.What.TheVariants as what
use Rattle.job_core.specs.JobLayout.{EntryText}
use Rattle.job_core.specs.JobText.{JobContents, spelling}
use Rattle.line_core.specs.Lines.{gather_line, merge_line}
use Rattle.input_core.specs.declared.fault.FileFault.{FileFault}
use Rattle.input_core.specs.declared.fault.FileFault.TheVariants as faults
use Rattle.input_core.specs.Faults.{of_job, of_page}
use Rattle.input_core.specs.Inputs.{Inputs, rest_of}
use Rattle.input_core.specs.Readings.{faulted}
use Rattle.command_core.specs.declared.lengthening.Source.{Source}
use Rattle.command_core.specs.declared.lengthening.Source.TheVariants as sources
use Rattle.command_core.specs.Outcomes.{◌>>=◌, input}
use Rattle.command_core.specs.ReplyFields.{Done, NamedFault}

-- the raw job that entries are put behind
abbrev pub head_in : List ℕ → Result JobContents FileFault
head_in bytes = faulted of_job (raw_job limits.PUBLISHED bytes)

-- ---- what a file gives

-- a page of a log, which isn't too long
abbrev pub page_in : List ℕ → Result (List PageFields) FileFault
page_in bytes = if nat_lt MAX_PAGE (length bytes) then Err (faults.BadPage (pages.Size 0)) else faulted of_page (page_of bytes)

abbrev pub entries_of_log : List ℕ → Result (List PageFields) FileFault → Result (List EntryText) FileFault
entries_of_log log (Ok page) = Ok (map (of_log log) page)
entries_of_log log (Err e) = Err e

-- the entries of a page, as those of this log
abbrev pub page_entries : List ℕ → List ℕ → Result (List EntryText) FileFault
page_entries log bytes = entries_of_log log (page_in bytes)

-- a piece: a raw job without CRLs
abbrev pub piece_in : List ℕ → Result JobContents FileFault
piece_in bytes = faulted of_job (raw_job piece_limits bytes)

abbrev pub entries_of_epoch : ℕ → Result JobContents FileFault → Result (List EntryText) FileFault
entries_of_epoch epoch (Ok j) = if epoch == j.epoch then Ok j.entries else Err (faults.OtherEpoch epoch j.epoch)
entries_of_epoch epoch (Err e) = Err e

-- the entries of a piece of this epoch
abbrev pub piece_entries : ℕ → List ℕ → Result (List EntryText) FileFault
piece_entries epoch bytes = entries_of_epoch epoch (piece_in bytes)

-- those of a file, for a job of this epoch
abbrev pub entries_by : Source → ℕ → List ℕ → Result (List EntryText) FileFault
entries_by (sources.Pages log) epoch = page_entries log
entries_by sources.Pieces epoch = piece_entries epoch

-- ---- one file behind the other

-- entries, where they may stand behind so many others in the job of this name
abbrev pub room_for : List ℕ → ℕ → List EntryText → Result (List EntryText) NamedFault
room_for job before entries =
    if nat_le (before + length entries) limits.PUBLISHED.entries then Ok entries
    else Err (record { name = job; fault = faults.TooMany what.Entries limits.PUBLISHED.entries })

-- The entries of the files, behind so many others. Each is read and then its entries are counted, before the next.
abbrev pub entries_of : (source : Source) (epoch : ℕ) (job : List ℕ) (before : ℕ)
    → List (List ℕ) → Inputs → Result (List EntryText) NamedFault
entries_of source epoch job before [] inputs = Ok []
entries_of source epoch job before (name ∷ names) inputs = do
  read ← input name (entries_by source epoch) (inputs 0)
  few ← room_for job before read
  others ← entries_of source epoch job (before + length few) names (rest_of inputs)
  Ok (few ++ others)

-- how many files and entries there are, and how many bytes the job has
abbrev pub line_by : Source → (files entries bytes : ℕ) → List ℕ
line_by (sources.Pages log) files entries bytes = gather_line files entries bytes
line_by sources.Pieces files entries bytes = merge_line files entries bytes

-- the job with these entries, of the files of these names, behind its own
abbrev pub longer_done : Source → (job : List ℕ) → List (List ℕ) → JobContents → List EntryText → Done
longer_done source job names head entries = record {
  text = line_by source (length names) (length entries) (length (spelling (with_entries head entries)));
  outputs = record { name = job; bytes = spelling (with_entries head entries) } ∷ [];
}

-- the job of the first input, with the entries of the others behind its own
abbrev pub longer_makes : Source → (head job : List ℕ) → List (List ℕ) → Option (List ℕ) → Inputs → Result Done NamedFault
longer_makes source head job names given inputs = do
  j ← input head head_in given
  entries ← entries_of source j.epoch job (length j.entries) names inputs
  Ok (longer_done source job names j entries)
