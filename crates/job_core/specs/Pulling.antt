-- What is read of a file off a feed.
use Rattle.std.specs.Prelude.{◌≡◌, ◌+◌, ◌≤◌, ◌<◌, ◌-◌, ◌^◌, ℕ, List, [], ◌∷◌, length, get_or, Bool, true, false}
use Rattle.std.specs.Prelude.{Result, Ok, Err, OnOk, IfSome, Some}
use Rattle.std.specs.FinMap.{get}
use Rattle.octets_core.specs.Layout.{Layout}
use Rattle.octets_core.specs.Position.{piece}
use Rattle.octets_core.specs.Reading.{end as file_end}
use Rattle.outside_core.specs.declared.depot.Depot.{Ghosts}
use Rattle.outside_core.specs.declared.feed.Feed.{Feed}
use Rattle.outside_core.specs.Reads.{ReadFailed}
use Rattle.outside_core.specs.Pulling.{Pulled}
use Rattle.outside_core.specs.Standing.{depot_of, name_of, place_of, StandsIn}
use Rattle.job_core.specs.JobFields.{JobFields}
use Rattle.job_core.specs.JobLayout.{fielded}
use Rattle.job_core.specs.JobMeaning.{IsJobOf}
use Rattle.job_core.specs.declared.bounds.Limits.{Limits}
use Rattle.job_core.specs.declared.fault.JobFault.{JobFault}
use Rattle.job_core.specs.declared.fault.JobFault.TheVariants as faults

-- numbers of eight bits
abbrev pub AreBytes : List ℕ → Type 0
AreBytes bytes = (i : ℕ) → get_or bytes i 0 < 256

-- a fault that the bytes of a file have
abbrev pub IsOfBytes : JobFault → Type 0
IsOfBytes e = (e ≡ faults.NoMemory → ⊥) × (e ≡ faults.ReadFault → ⊥)

-- no read failed
abbrev pub NoneFailed : {D : Type 0} → Ghosts D → Feed D → Feed D → Type 0
NoneFailed g old new = g.failed_reads (depot_of new) ≡ g.failed_reads (depot_of old)

-- a read failed exactly where the fault is that of a read, and it is the only one
abbrev pub Blames : {D X : Type 0} → Ghosts D → Feed D → Feed D → Result X JobFault → Type 0
Blames g old new (Ok x) = NoneFailed g old new
Blames g old new (Err e) = (e ≡ faults.ReadFault → ReadFailed g (name_of old) (depot_of old) (depot_of new)) ×
    ((e ≡ faults.ReadFault → ⊥) → NoneFailed g old new)

-- what a layout gives of a file from a place on
abbrev pub Says : {X A : Type 0} → (X → A) → Layout JobFault A → List ℕ → ℕ → ℕ → Result X JobFault → Type 0
Says view layout file at end (Ok x) = layout file at ≡ Ok (view x, end)
Says view layout file at end (Err e) = IsOfBytes e → layout file at ≡ Err e

-- bytes lie in a file from a place on; where the end of input was seen, they are its last
pub record Lies (ended : Bool) (file : List ℕ) (at : ℕ) (given : List ℕ) : Type 0 where
  pub within : at + length given ≤ length file
  pub same : given ≡ piece (length given) file at
  pub last : ended ≡ true → length file ≤ at + length given

-- What a function that reads a layout off a feed did: some bytes were given, which where files are told lie in the
-- feed's file, and in each file in which they lie so the layout gives the result.
pub record Fetches {D X A : Type 0} (g : Ghosts D) (view : X → A) (layout : Layout JobFault A) (old new : Feed D)
    (result : Result X JobFault) : Type 0 where
  pub pulled : Pulled g old new
  pub blames : Blames g old new result
  pub given : List ℕ
  pub ended : Bool
  pub place : place_of new ≡ place_of old + length given
  pub going : OnOk result (AreBytes given × (ended ≡ false))
  pub lies : (file : List ℕ) → StandsIn g old file → Lies ended file (place_of old) given
  pub reads : (file : List ℕ) → Lies ended file (place_of old) given → Says view layout file (place_of old) (place_of new) result

-- The bytes are the job that is answered; or the fault is theirs, if it is one of bytes.
abbrev pub AnswersJob : {X : Type 0} → (X → JobFields) → Limits → List ℕ → Result X JobFault → Type 0
AnswersJob view limits bytes (Ok x) = IsJobOf limits bytes (Ok (view x))
AnswersJob view limits bytes (Err e) = IsOfBytes e → IsJobOf limits bytes (Err e)

-- a byte was seen where a file should end
abbrev pub SeesMore : {D : Type 0} → Ghosts D → Feed D → JobFault → Type 0
SeesMore g old e =
    (x : ℕ) × ((file : List ℕ) → StandsIn g old file → Lies false file (place_of old) (x ∷ []))
    × ((file : List ℕ) → place_of old < length file → fielded file_end file (place_of old) ≡ Err e)

-- the bytes that the feed's file holds, where files are told
abbrev pub IsGiven : {D : Type 0} → Ghosts D → Feed D → List ℕ → Type 0
IsGiven g feed bytes = IfSome (g.files (depot_of feed)) (λ files. get files (name_of feed) ≡ Some bytes)

-- What a job was read from: some bytes were given, which where files are told lie at the front of the feed's file, and
-- of each file that begins with them the result is the answer.
pub record ReadsJob {D X : Type 0} (g : Ghosts D) (view : X → JobFields) (limits : Limits) (old : Feed D)
    (result : Result X JobFault) : Type 0 where
  pub given : List ℕ
  pub ended : Bool
  pub short : ended ≡ true → length given < 2 ^ 64 - 1
  pub bytes : OnOk result (AreBytes given)
  pub lies : (file : List ℕ) → StandsIn g old file → Lies ended file 0 given
  pub reads : (file : List ℕ) → Lies ended file 0 given → AnswersJob view limits file result
