-- What a reader of a job has read, and what it gives.
use Rattle.std.specs.Prelude.{◌≡◌, ℕ, ◌<◌, ◌≤◌, ◌^◌, List, [], ◌∷◌, ◌++◌, length, take, flat_map, Option, Some, None, Result, Ok, Err}
use Rattle.std.specs.Int.{w8, to_be_bytes}
use Rattle.outside_core.specs.declared.depot.Depot.{Ghosts}
use Rattle.outside_core.specs.declared.feed.Feed.{Feed}
use Rattle.outside_core.specs.Standing.{place_of, StandsIn}
use Rattle.ident_core.specs.RangeText.{FitsRange}
use Rattle.job_core.specs.declared.bounds.Limits.{Limits}
use Rattle.job_core.specs.declared.fault.JobFault.{JobFault}
use Rattle.job_core.specs.declared.reader.JobReader.{JobReader}
use Rattle.job_core.specs.declared.reader.Stage.{Stage}
use Rattle.job_core.specs.declared.reader.Stage.TheVariants as stages
use Rattle.job_core.specs.declared.reader.Record.{Record}
use Rattle.job_core.specs.declared.reader.Record.TheVariants as records
use Rattle.job_core.specs.JobLayout.{HeldSoFar, nothing_held, Item, OneRange, OneCrl, OneEntry, JobTexts, job}
use Rattle.job_core.specs.JobText.{opening_text, record_text, Pass, held_behind, crl_held, entry_held, FitsCrl, FitsEntry}
use Rattle.job_core.specs.Partial.{held_in}
use Rattle.job_core.specs.Pulling.{IsOfBytes}

-- a reader doesn't read CRLs, so none brings serials
abbrev pub no_serials : List ℕ → ℕ
no_serials bytes = 0

-- the opening, then the texts of records that pass, behind which these numbers are held
pub record Begins (limits : Limits) (numbers : HeldSoFar) (b : List ℕ) (t : JobTexts) : Type 0 where
  pub spelled : b ≡ opening_text t.epoch t.moment ++ flat_map record_text t.items
  pub epoch : t.epoch < 2 ^ 64
  pub moment : t.moment < 2 ^ 64
  pub pass : Pass no_serials limits nothing_held 0 t.items
  pub held : numbers ≡ held_behind nothing_held t.items

-- with one record more
abbrev pub with_record : JobTexts → Item → JobTexts
with_record t x = record { epoch = t.epoch; moment = t.moment; items = t.items ++ x ∷ [] }

abbrev pub StandsAt : Stage → Limits → HeldSoFar → List ℕ → Type 0
StandsAt stages.Opening limits numbers b = (b ≡ []) × (numbers ≡ nothing_held)
StandsAt stages.Records limits numbers b = (t : JobTexts) × Begins limits numbers b t
StandsAt stages.Ended limits numbers b = (h : HeldSoFar) × (c : List ℕ) × (t : JobTexts) × (b ≡ c ++ to_be_bytes w8 0) × Begins limits h c t
StandsAt (stages.Failed e) limits numbers b = Unit {0}

-- The bytes that a reader has read: none; the opening and records; or a whole job. A reader that has answered a fault
-- stands for any.
abbrev pub StandsFor : JobReader → List ℕ → Type 0
StandsFor reader b = StandsAt reader.stage reader.limits (held_in reader.numbers) b

abbrev pub limits_of : JobReader → Limits
limits_of reader = reader.limits

abbrev fault_at_stage : Stage → Option JobFault
fault_at_stage stages.Opening = None
fault_at_stage stages.Records = None
fault_at_stage stages.Ended = None
fault_at_stage (stages.Failed e) = Some e

-- the fault that it has answered, if any
abbrev pub fault_of : JobReader → Option JobFault
fault_of reader = fault_at_stage reader.stage

-- it has given no record
abbrev pub IsNew : JobReader → Type 0
IsNew reader = reader.stage ≡ stages.Opening

-- it has answered the end
abbrev pub HasEnded : JobReader → Type 0
HasEnded reader = reader.stage ≡ stages.Ended

-- what a job holds there
abbrev pub text_of : Record → List ℕ
text_of (records.Begin epoch moment) = opening_text epoch moment
text_of (records.Range r) = record_text (OneRange r)
text_of (records.Crl c) = record_text (OneCrl (crl_held c))
text_of (records.Entry e) = record_text (OneEntry (entry_held e))
text_of records.End = to_be_bytes w8 0

-- what it holds fits its fields
abbrev pub FitsRecord : Record → Type 0
FitsRecord (records.Begin epoch moment) = (epoch < 2 ^ 64) × (moment < 2 ^ 64)
FitsRecord (records.Range r) = FitsRange None r
FitsRecord (records.Crl c) = FitsCrl (crl_held c)
FitsRecord (records.Entry e) = FitsEntry (entry_held e)
FitsRecord records.End = Unit {0}

abbrev pub IsBegin : Record → Type 0
IsBegin (records.Begin epoch moment) = Unit {0}
IsBegin (records.Range r) = ⊥
IsBegin (records.Crl c) = ⊥
IsBegin (records.Entry e) = ⊥
IsBegin records.End = ⊥

-- Of a file of which it has read the bytes before the place: the record's text lies from there to the new place, and
-- it stands for all bytes before that, which at the end are the whole file; or the fault is that of the file's job.
abbrev pub GivesNext : JobReader → JobReader → List ℕ → ℕ → ℕ → Result Record JobFault → Type 0
GivesNext old new file at end (Ok r) =
    (take end file ≡ take at file ++ text_of r) × StandsFor new (take end file) × (r ≡ records.End → length file ≤ end)
GivesNext old new file at end (Err e) = IsOfBytes e → job no_serials (limits_of old) file 0 ≡ Err e

-- the same where files are told
abbrev pub ReadsNext : {D : Type 0} → Ghosts D → JobReader → JobReader → Feed D → Feed D → Result Record JobFault → Type 0
ReadsNext g old new from to result =
    (file : List ℕ) → StandsIn g from file → StandsFor old (take (place_of from) file)
    → GivesNext old new file (place_of from) (place_of to) result
