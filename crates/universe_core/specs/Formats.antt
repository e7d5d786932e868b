-- Jobs of a history, each in a format, by which its part is built and its entries are read.
use Rattle.std.specs.Prelude.{List, map, Bool, true, false, if◌then◌else◌, Option, None}
use Rattle.std.specs.Option.{option_map}
use Rattle.job_core.specs.JobFields.{JobFields}
use Rattle.universe_core.specs.Jobs.{Entry, JobFacts, facts_of}

-- plain: each block is one leaf; sharded: the blocks of large issuers are cut into shards; dated: the same, and the
-- dates of entries are read
pub data JobFormat : Type 0 where
  plain : JobFormat
  sharded : JobFormat
  dated : JobFormat

-- a job, and the format in which it is taken
pub record JobIn : Type 0 where
  pub format : JobFormat
  pub job : JobFields

abbrev pub in_format : JobFormat → JobFields → JobIn
in_format format job = record { format = format; job = job }

abbrev pub undated : Entry → Entry
undated e = record { id = e.id; sighting = e.sighting; until = None }

-- whether the dates of entries are read
abbrev pub reads_dates : JobFormat → Bool
reads_dates plain = false
reads_dates sharded = false
reads_dates dated = true

-- the entries as the format reads them
abbrev pub entries_in : JobFormat → List (Option Entry) → List (Option Entry)
entries_in format entries = if reads_dates format then entries else map (option_map undated) entries

-- the job as its format reads it
abbrev pub read_in : JobIn → JobFields
read_in j = record j.job { entries = entries_in j.format j.job.entries }

-- what a job in its format says
abbrev pub facts_in : JobIn → JobFacts
facts_in j = facts_of (read_in j)
