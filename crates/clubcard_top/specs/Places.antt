-- What a call finds and leaves where a history is cut into places.
use Rattle.std.specs.Prelude.{◌≡◌, ◌≤◌, ◌⊎◌, true, ℕ, List, map, length}
use Rattle.std.specs.List.{AllZip}
use Rattle.ident_core.specs.declared.identity.Identity.{Identity}
use Rattle.ident_core.specs.declared.range.Sighting.{Sighting}
use Rattle.ident_core.specs.Among.{Among}
use Rattle.outside_core.specs.Files.{Files}
use Rattle.card_core.specs.Verdict.{verdict}
use Rattle.part_text.specs.SealedFields.{SealedFields}
use Rattle.job_core.specs.declared.bounds.TheConstants.Limits as limits
use Rattle.job_core.specs.JobFields.{JobFields}
use Rattle.job_core.specs.JobText.{JobContents, spelling}
use Rattle.job_core.specs.JobMeaning.{reading_of, IsJob, job_of}
use Rattle.universe_core.specs.Formats.{JobIn}
use Rattle.universe_core.specs.History.{seen, sightings}
use Rattle.history_core.specs.Truth.{truth}
use Rattle.audit_core.specs.Auditing.{left_by_jobs}
use Rattle.publication_core.specs.Histories.{History, IsHistory}
use Rattle.place_core.specs.Cuts.{Cut, is_kept, everything}
use Rattle.cut_core.specs.Cutting.{cut_in}
use Rattle.cut_core.specs.Courses.{Course, from_base, cut_course, course_of}
use Rattle.cut_core.specs.Texts.{IsMerged}
use Rattle.word_core.specs.declared.command.Command.{Command}
use Rattle.word_core.specs.declared.command.Command.TheVariants as commands
use Rattle.word_core.specs.declared.command.{Cut.Cut as JobCut, Merge.Merge}
use Rattle.command_core.specs.Longer.{head_in, piece_in}
use Rattle.command_core.specs.Replies.{AreOctets, held_by}
use Rattle.clubcard_top.specs.Calls.{Call, Reads, Holds}
use Rattle.clubcard_top.specs.Headline.{HoldsJob}

-- ---- jobs

-- the command's files hold octets, as those of a system do
abbrev pub HoldOctets : Command → Files → Type 0
HoldOctets asked files = AreOctets (held_by asked files)

-- the command cuts this job
abbrev pub AsksToCut : Command → JobCut → JobFields → Files → Type 0
AsksToCut asked c job files = (asked ≡ commands.Cut c) × HoldOctets asked files × HoldsJob files c.job job

-- after the call, the file of this name holds the text of this job
abbrev pub LeavesJob : Call → List ℕ → JobFields → Type 0
LeavesJob call name job = (bytes : List ℕ) × Holds call name bytes × IsJob limits.PUBLISHED bytes job

-- The job is put together of the head and the pieces that the files held. JOB holds its text, which is read as what it
-- means, or its CRLs bring too many serials.
pub record Merges (call : Call) (m : Merge) (head : JobContents) (pieces : List JobContents) (job : JobContents)
    : Type 0 where
  pub of_head : Reads call m.head head_in head
  pub of_pieces : AllZip (λ name piece. Reads call name piece_in piece) m.pieces pieces
  pub together : IsMerged head pieces job
  pub held : Holds call m.job (spelling job)
  pub read : job_of limits.PUBLISHED (spelling job) ≡ reading_of limits.PUBLISHED job

-- ---- what is told of the whole

-- The history is begun by a split: by the base of what is kept of another one, where the whole begins with the base of
-- all of it. Behind that it has the jobs of the whole, cut.
pub record IsSplitOf (cut : Cut) (whole : Course) (h : History) : Type 0 where
  pub before : Course
  pub moment : ℕ
  pub jobs : List JobIn
  pub all : whole ≡ from_base before moment everything jobs
  pub kept : course_of h ≡ from_base before moment cut (map (cut_in cut) jobs)

-- the history has the jobs of the whole, cut, or is begun by a split of it
abbrev pub IsCutOf : Cut → Course → History → Type 0
IsCutOf cut whole h = IsHistory h × ((course_of h ≡ cut_course cut whole) ⊎ IsSplitOf cut whole h)

-- The parts say the truth of each kept certificate of the whole jobs' history, asked with one or more of the sightings
-- of its accepted entries.
abbrev pub SaysTheWholeTruth : Cut → List SealedFields → List JobFields → Type 0
SaysTheWholeTruth cut parts jobs =
    (x : Identity) (ss : List Sighting) → is_kept cut x ≡ true → 1 ≤ length ss
    → ((s : Sighting) → Among ss s → Among (sightings x (seen (left_by_jobs jobs))) s)
    → verdict (map (λ s. s.part) parts) x ss ≡ truth (left_by_jobs jobs) x
