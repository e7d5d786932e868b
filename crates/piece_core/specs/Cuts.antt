-- What a cut keeps of a job, and the places of its entries.
use Rattle.std.specs.Prelude.{ℕ, List, filter, Bool, Option, Some, None}
use Rattle.log_core.specs.declared.Entry.{Entry}
use Rattle.place_core.specs.declared.place.By.{By}
use Rattle.place_core.specs.Places.{place_in}
use Rattle.place_core.specs.Cuts.{Cut, is_kept}
use Rattle.job_core.specs.JobLayout.{EntryText, entry_meaning}
use Rattle.job_core.specs.JobText.{JobContents}

abbrev pub keeps_entry : Cut → Option Entry → Bool
keeps_entry cut None = cut.unread
keeps_entry cut (Some e) = is_kept cut e.id

-- ---- what a job holds as it stands

-- the entries that are kept, as they stand, by what they mean
abbrev pub kept_texts : Cut → List EntryText → List EntryText
kept_texts cut es = filter (λ e. keeps_entry cut (entry_meaning e)) es

-- what is kept of a job's records
abbrev pub cut_contents : Cut → JobContents → JobContents
cut_contents cut j = record j { crls = filter (λ c. cut.takes c.issuer) j.crls; entries = kept_texts cut j.entries }

-- ---- by places, among so many

-- the place of an entry; those that aren't read have the first
abbrev pub entry_place : By → ℕ → Option Entry → ℕ
entry_place by count None = 0
entry_place by count (Some e) = place_in by count e.id
