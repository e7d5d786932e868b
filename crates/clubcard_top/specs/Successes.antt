-- What a command that succeeds read, and what an audit says.
use Rattle.std.specs.Prelude.{◌≡◌, ℕ, ◌≤◌, List, [], ◌∷◌, ◌++◌, map, length, Result}
use Rattle.std.specs.List.{AllZip}
use Rattle.ident_core.specs.declared.identity.Identity.{Identity}
use Rattle.ident_core.specs.declared.range.Sighting.{Sighting}
use Rattle.card_core.specs.Verdict.{verdict}
use Rattle.part_text.specs.SealedFields.{SealedFields}
use Rattle.job_core.specs.JobLayout.{EntryText}
use Rattle.job_core.specs.JobFields.{JobFields}
use Rattle.ident_core.specs.Among.{Among}
use Rattle.universe_core.specs.History.{seen, sightings}
use Rattle.history_core.specs.Truth.{truth}
use Rattle.audit_core.specs.Auditing.{left_by_jobs}
use Rattle.input_core.specs.declared.fault.FileFault.{FileFault}
use Rattle.input_core.specs.Readings.{job_in, part_in}
use Rattle.clubcard_top.specs.Calls.{Call, Reads}

-- the file of this name held this part and nothing else
abbrev pub ReadsPart : Call → List ℕ → SealedFields → Type 0
ReadsPart call name s = (size : ℕ) × Reads call name part_in (s, size)

-- the files of these names held entries that are read so, and these are all of them, one file's behind the other's
abbrev pub ReadsEntries : Call → (List ℕ → Result (List EntryText) FileFault) → List (List ℕ) → List EntryText → Type 0
ReadsEntries call read [] entries = entries ≡ []
ReadsEntries call read (name ∷ names) entries =
    (few : List EntryText) × (others : List EntryText) × Reads call name read few
    × (entries ≡ few ++ others) × ReadsEntries call read names others

-- the files of these names held these jobs
abbrev pub ReadsJobs : Call → List (List ℕ) → List JobFields → Type 0
ReadsJobs call names jobs = AllZip (λ name job. Reads call name job_in job) names jobs

-- The parts say the truth of each certificate of the jobs' history, asked with one or more of the sightings of its
-- accepted entries.
abbrev pub SaysTheTruth : List SealedFields → List JobFields → Type 0
SaysTheTruth parts jobs =
    (x : Identity) (ss : List Sighting) → 1 ≤ length ss
    → ((s : Sighting) → Among ss s → Among (sightings x (seen (left_by_jobs jobs))) s)
    → verdict (map (λ s. s.part) parts) x ss ≡ truth (left_by_jobs jobs) x
