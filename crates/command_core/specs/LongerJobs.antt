-- What is known of files whose entries were put behind those of a job: the words of private functions and of proofs.
use Rattle.std.specs.Prelude.{◌≡◌, ℕ, List, ◌∷◌, length, Option, None, Result, Ok, Err}
use Rattle.outside_core.specs.Files.{Files}
use Rattle.job_core.specs.JobLayout.{EntryText}
use Rattle.job_core.specs.JobText.{JobContents}
use Rattle.gather_core.specs.declared.job.OpenJob.{OpenJob}
use Rattle.gather_core.specs.Opened.{Opens}
use Rattle.gather_core.specs.Raw.{with_entries}
use Rattle.input_core.specs.Inputs.{Inputs, rest_of, AreRead}
use Rattle.command_core.specs.declared.lengthening.Source.{Source}
use Rattle.command_core.specs.ReplyFields.{Done, NamedFault, ReplyFields}
use Rattle.command_core.specs.Longer.{entries_of, longer_makes}
use Rattle.command_core.specs.Replies.{refusal, reply_of, SaysWhich}

-- the files were read, and their entries stand behind those of the job
pub record IsLonger
    (told : Option Files) (failed : Option (List ℕ) → Type 0) (source : Source) (to : List ℕ) (names : List (List ℕ))
    (j : JobContents) (job : OpenJob)
    : Type 0 where
  pub inputs : Inputs
  pub read : AreRead told failed names inputs
  pub none_failed : failed None
  pub entries : List EntryText
  pub makes : entries_of source j.epoch to (length j.entries) names inputs ≡ Ok entries
  pub opens : Opens job (with_entries j entries)

-- this is wrong with one of the files, or with so many entries
pub record IsNotLonger
    (told : Option Files) (failed : Option (List ℕ) → Type 0) (source : Source) (to : List ℕ) (names : List (List ℕ))
    (j : JobContents) (e : NamedFault)
    : Type 0 where
  pub inputs : Inputs
  pub read : AreRead told failed names inputs
  pub blames : SaysWhich failed names (refusal e.name e.fault)
  pub makes : entries_of source j.epoch to (length j.entries) names inputs ≡ Err e

-- the reply over files that were read so
abbrev pub IsLongerReply : Option Files → (Option (List ℕ) → Type 0) → Source → (head to : List ℕ) → List (List ℕ) → ReplyFields → Type 0
IsLongerReply told failed source head to names reply =
    (inputs : Inputs) × AreRead told failed (head ∷ names) inputs
    × ((o : Result Done NamedFault) × (o ≡ longer_makes source head to names (inputs 0) (rest_of inputs)) × (reply ≡ reply_of o))
    × SaysWhich failed (head ∷ names) reply
