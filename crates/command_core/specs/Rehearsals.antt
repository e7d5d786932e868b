-- What is known of jobs that were rehearsed from their files.
use Rattle.std.specs.Prelude.{◌≡◌, ℕ, List, [], Option, None, Result, Ok, Err}
use Rattle.outside_core.specs.Files.{Files}
use Rattle.input_core.specs.Queries.{Query}
use Rattle.part_text.specs.SealedFields.{SealedFields}
use Rattle.job_core.specs.JobFields.{JobFields}
use Rattle.job_core.specs.Fitting.{FitsFields}
use Rattle.universe_core.specs.Formats.{in_format}
use Rattle.publication_core.specs.Formats.{current}
use Rattle.publication_core.specs.Histories.{Published, History, of_jobs, with_job}
use Rattle.publication_core.specs.Rehearsing.{RehearsalFields, IsOf}
use Rattle.command_core.specs.ReplyFields.{NamedFault}
use Rattle.command_core.specs.Commands.{report_behind, reports, rehearsed}
use Rattle.command_core.specs.Steps.{RehearsesOn}
use Rattle.input_core.specs.Inputs.{Inputs, AreRead}
use Rattle.command_core.specs.Replies.{refusal, SaysWhich}

-- A job was read, and goes on with the history: the rehearsal is of both, and this is the line of its report.
pub record AddsJob
    (h : History) (read : Result JobFields NamedFault) (after : RehearsalFields) (text : List ℕ)
    : Type 0 where
  pub job : JobFields
  pub is_read : read ≡ Ok job
  pub fits : FitsFields job
  pub sealed : SealedFields
  pub is_of : IsOf (with_job h (in_format current job) sealed) after
  pub report : text ≡ report_behind h job

-- The files of these names were read as jobs of a history, of which this is the rehearsal, and these are the reports.
pub record IsRehearsedFrom
    (told : Option Files) (failed : Option (List ℕ) → Type 0) (names : List (List ℕ))
    (r : RehearsalFields) (text : List ℕ)
    : Type 0 where
  pub inputs : Inputs
  pub read : AreRead told failed names inputs
  pub none_failed : failed None
  pub jobs : List Published
  pub is_of : IsOf (of_jobs jobs) r
  pub lines : text ≡ reports (of_jobs []) jobs
  pub makes : (queries : List Query) → RehearsesOn queries [] names inputs (Ok (rehearsed queries jobs))

-- This is wrong with one of the files, and those before it were read as jobs of a history.
pub record IsRefusedFrom
    (told : Option Files) (failed : Option (List ℕ) → Type 0) (names : List (List ℕ)) (e : NamedFault)
    : Type 0 where
  pub inputs : Inputs
  pub read : AreRead told failed names inputs
  pub blames : SaysWhich failed names (refusal e.name e.fault)
  pub makes : (queries : List Query) → RehearsesOn queries [] names inputs (Err e)
