-- Histories that are cut by places, among so many.
use Rattle.std.specs.Prelude.{◌≡◌, ℕ, zero, suc, ◌+◌}
use Rattle.job_core.specs.JobFields.{JobFields}
use Rattle.universe_core.specs.Formats.{JobIn, facts_in}
use Rattle.universe_core.specs.History.{past_of}
use Rattle.universe_core.specs.Counting.{counts}
use Rattle.universe_core.specs.declared.counts.Counts.{Counts}
use Rattle.place_core.specs.declared.place.By.{By}
use Rattle.place_core.specs.declared.place.By.TheVariants as ways
use Rattle.place_core.specs.Cuts.{at_place}
use Rattle.cut_core.specs.Cutting.{cut_job, cut_in}
use Rattle.cut_core.specs.Courses.{Course, left, cut_course}

-- a job at a place; the same of a job in a format, and of each job of a course
abbrev pub job_at : By → ℕ → ℕ → JobFields → JobFields
job_at by count p job = cut_job (at_place by count p) job

abbrev pub in_at : By → ℕ → ℕ → JobIn → JobIn
in_at by count p j = cut_in (at_place by count p) j

abbrev pub course_at : By → ℕ → ℕ → Course → Course
course_at by count p c = cut_course (at_place by count p) c

-- ---- what places have together

-- the sum of what each place has
abbrev pub over_places : ℕ → (ℕ → ℕ) → ℕ
over_places zero f = 0
over_places (suc n) f = over_places n f + f n

-- what a job counts behind a course, and what its cut to a place counts behind that of the course
abbrev pub counts_of : Course → JobIn → Counts
counts_of c j = counts (past_of (left c)) (facts_in j)

abbrev pub counts_at : By → ℕ → Course → JobIn → ℕ → Counts
counts_at by count c j p = counts_of (course_at by count p c) (in_at by count p j)

-- by issuers, the issuers are the sum of what the places have; by identities, each place has them all
abbrev pub IssuersAddUp : By → ℕ → Course → JobIn → Type 0
IssuersAddUp ways.Issuer count c j = over_places count (λ p. (counts_at ways.Issuer count c j p).issuers) ≡ (counts_of c j).issuers
IssuersAddUp ways.Identity count c j = (p : ℕ) → (counts_at ways.Identity count c j p).issuers ≡ (counts_of c j).issuers

-- all else is the sum of what the places have
pub record AddUp (by : By) (count : ℕ) (c : Course) (j : JobIn) : Type 0 where
  pub issuers : IssuersAddUp by count c j
  pub universe : over_places count (λ p. (counts_at by count c j p).universe) ≡ (counts_of c j).universe
  pub revoked : over_places count (λ p. (counts_at by count c j p).revoked) ≡ (counts_of c j).revoked
  pub unread : over_places count (λ p. (counts_at by count c j p).unread) ≡ (counts_of c j).unread
  pub uncovered : over_places count (λ p. (counts_at by count c j p).uncovered) ≡ (counts_of c j).uncovered
  pub unenrolled : over_places count (λ p. (counts_at by count c j p).unenrolled) ≡ (counts_of c j).unenrolled
  pub late : over_places count (λ p. (counts_at by count c j p).late) ≡ (counts_of c j).late
  pub accepted : over_places count (λ p. (counts_at by count c j p).accepted) ≡ (counts_of c j).accepted
