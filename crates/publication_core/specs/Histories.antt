-- Histories of admitted jobs: how they begin, which job may follow, which part is published of it, and the bytes of what
-- is published.
use Rattle.std.specs.Prelude.{◌≡◌, false, ℕ, ◌<◌, ◌≤◌, List, [], ◌∷◌, ◌++◌, map, length, Option, Some, None, All, IfSome, IsOk}
use Rattle.ident_core.specs.Coverage.{LiesWithin}
use Rattle.part_text.specs.SealedFields.{SealedFields}
use Rattle.part_text.specs.PartText.{spelling}
use Rattle.job_core.specs.declared.bounds.TheConstants.Limits.{PUBLISHED}
use Rattle.job_core.specs.JobFields.{JobFields}
use Rattle.job_core.specs.Fitting.{FitsPublishing, IsWithinLimits}
use Rattle.ident_core.specs.declared.bounds.TheConstants.{MAX_ISSUERS, MAX_PARTS}
use Rattle.ledger_core.specs.LedgerText.{ledger_text, old_ledger_text}
use Rattle.ident_core.specs.Among.{Among}
use Rattle.place_core.specs.Cuts.{Cut}
use Rattle.universe_core.specs.Jobs.{JobFacts, is_enrolled}
use Rattle.universe_core.specs.Formats.{dated, JobIn, reads_dates, facts_in}
use Rattle.universe_core.specs.History.{Release, past_of, released, accepted_with}
use Rattle.universe_core.specs.Groups.{GroupFields, groups}
use Rattle.universe_core.specs.Ledgers.{part_from, ledger_of}
use Rattle.universe_core.specs.Step.{head_after}
use Rattle.history_core.specs.Bases.{all_issuers, base_head, releases_cut, base_at}
use Rattle.store_core.specs.StoreLayout.{store_text}
use Rattle.publication_core.specs.Building.{HaveBlocks, IsSealedPart}

-- ---- one job

-- what a job's blocks are built of, behind these releases
abbrev pub groups_of : List Release → JobFacts → List GroupFields
groups_of rs job = groups (released (past_of rs) job [])

-- the part of a job behind these releases: a block for each enrolled issuer
abbrev pub IsPartOf : List Release → JobIn → SealedFields → Type 0
IsPartOf rs j s = IsSealedPart j.format (head_after (map part_from rs) (facts_in j)) (groups_of rs (facts_in j)) s

-- the newest of these releases
abbrev pub newest_of : List Release → Option Release
newest_of [] = None
newest_of (r ∷ []) = Some r
newest_of (r ∷ q ∷ rs) = newest_of (q ∷ rs)

-- The job goes on from a release: its epoch is greater, and it covers what that covers.
pub record GoesOn (job : JobFields) (r : Release) : Type 0 where
  pub epoch : r.epoch < job.epoch
  pub coverage : LiesWithin r.ranges job.ranges

-- The job may follow these releases.
pub record IsAdmissible (rs : List Release) (j : JobIn) : Type 0 where
  pub fits : FitsPublishing j.job
  pub limits : IsWithinLimits PUBLISHED j.job
  pub crls : All (λ c. IsOk c.outcome) j.job.crls
  pub goes_on : IfSome (newest_of rs) (GoesOn j.job)
  pub few_parts : length rs < MAX_PARTS
  pub few_identities : length (accepted_with (past_of rs) (facts_in j)) ≤ PUBLISHED.identities
  -- each enrolled issuer has a block
  pub blocks : HaveBlocks j.format (groups_of rs (facts_in j))

-- A job, and the part that is published of it.
pub record Published : Type 0 where
  pub job : JobIn
  pub sealed : SealedFields

-- what it leaves
abbrev pub release_of : List Release → Published → Release
release_of rs p = released (past_of rs) (facts_in p.job) p.sealed.trailer

-- ---- jobs behind releases

-- these releases, and then what the jobs leave
abbrev pub releases_after : List Release → List Published → List Release
releases_after rs [] = rs
releases_after rs (p ∷ ps) = releases_after (rs ++ release_of rs p ∷ []) ps

-- each of the jobs may follow those before it, and has its part
abbrev pub AreAdmissible : List Release → List Published → Type 0
AreAdmissible rs [] = Unit {0}
AreAdmissible rs (p ∷ ps) =
    IsAdmissible rs p.job × IsPartOf rs p.job p.sealed × AreAdmissible (rs ++ release_of rs p ∷ []) ps

-- ---- a base: one snapshot, which stands for releases without what has expired at a moment

-- what its blocks are built of: the kept identities, and which of them are listed
abbrev pub base_groups : ℕ → List Release → List GroupFields
base_groups moment rs = groups (base_at moment rs [])

-- its part: a block for each issuer of the releases
abbrev pub IsBasePart : ℕ → List Release → SealedFields → Type 0
IsBasePart moment rs s = IsSealedPart dated (base_head rs) (base_groups moment rs) s

-- A base may stand for these releases at the moment.
pub record IsRebasable (moment : ℕ) (rs : List Release) : Type 0 where
  pub some : 1 ≤ length rs
  pub few_issuers : length (all_issuers rs) ≤ MAX_ISSUERS
  -- each of these issuers has a block
  pub blocks : HaveBlocks dated (base_groups moment rs)

-- ---- histories

-- A history: jobs from the first on; or a base and the jobs behind it. The base, which has this part, stands at a
-- moment for what a cut keeps of a history, which may itself begin with a base.
pub data History : Type 0 where
  of_jobs : List Published → History
  rebased : History → ℕ → Cut → SealedFields → List Published → History

-- the parts that it published, in order: one of its base, if it begins with one, and one of each job
abbrev pub parts_of : History → List SealedFields
parts_of (of_jobs ps) = map (λ p. p.sealed) ps
parts_of (rebased h moment cut s ps) = s ∷ map (λ p. p.sealed) ps

-- how many members it has
abbrev pub members : History → ℕ
members h = length (parts_of h)

-- with more jobs, in order
abbrev pub with_jobs : History → List Published → History
with_jobs (of_jobs ps) more = of_jobs (ps ++ more)
with_jobs (rebased h moment cut s ps) more = rebased h moment cut s (ps ++ more)

-- with a job more, which has this part
abbrev pub with_job : History → JobIn → SealedFields → History
with_job h j s = with_jobs h (record { job = j; sealed = s } ∷ [])

-- what its members leave
abbrev pub releases_of : History → List Release
releases_of (of_jobs ps) = releases_after [] ps
releases_of (rebased h moment cut s ps) =
    releases_after (base_at moment (releases_cut cut (releases_of h)) s.trailer ∷ []) ps

-- Each job of the history may follow those before it, the base may stand for its history, and each has its part.
abbrev pub IsHistory : History → Type 0
IsHistory (of_jobs ps) = AreAdmissible [] ps
IsHistory (rebased h moment cut s ps) =
    IsHistory h × IsRebasable moment (releases_cut cut (releases_of h))
    × IsBasePart moment (releases_cut cut (releases_of h)) s
    × AreAdmissible (base_at moment (releases_cut cut (releases_of h)) s.trailer ∷ []) ps

-- The history begins with a base that leaves out the issuer, and none of its jobs enrolls it.
abbrev pub LeavesOut : History → List ℕ → Type 0
LeavesOut (of_jobs ps) issuer = ⊥
LeavesOut (rebased h moment cut s ps) issuer =
    (cut.takes issuer ≡ false) × ((p : Published) → Among ps p → is_enrolled (facts_in p.job) issuer ≡ false)

-- no job of the history is in a format that reads dates, and it begins with no base
abbrev pub IsUndated : History → Type 0
IsUndated (of_jobs ps) = All (λ p. reads_dates p.job.format ≡ false) ps
IsUndated (rebased h moment cut s ps) = ⊥

-- ---- courses

-- A history as its jobs alone tell it, with no parts: jobs from the first on; or a base, which stands at a moment for
-- what a cut keeps of all before it, and the jobs behind it.
pub data Course : Type 0 where
  from_jobs : List JobIn → Course
  from_base : Course → ℕ → Cut → List JobIn → Course

-- the course of a history
abbrev pub course_of : History → Course
course_of (of_jobs ps) = from_jobs (map (λ p. p.job) ps)
course_of (rebased h moment cut s ps) = from_base (course_of h) moment cut (map (λ p. p.job) ps)

-- ---- bytes

abbrev pub part_bytes : SealedFields → List ℕ
part_bytes s = spelling s

abbrev pub store_bytes : List SealedFields → List ℕ
store_bytes parts = store_text parts

abbrev pub ledger_bytes : History → List ℕ
ledger_bytes h = ledger_text (ledger_of (releases_of h))

-- the bytes of its ledger in version 1
abbrev pub old_ledger_bytes : History → List ℕ
old_ledger_bytes h = old_ledger_text (ledger_of (releases_of h))
