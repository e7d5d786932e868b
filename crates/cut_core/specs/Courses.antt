-- What courses leave: with no parts, and with no bound on how much their jobs accept. A history that is cut into places
-- may be a course and no more, since all of it would pass the limits.
use Rattle.std.specs.Prelude.{List, [], ◌∷◌, ◌++◌, map}
use Rattle.ident_core.specs.HeadFields.{zero_key}
use Rattle.universe_core.specs.Formats.{JobIn, facts_in}
use Rattle.universe_core.specs.History.{Release, past_of, released, releases}
use Rattle.history_core.specs.Bases.{releases_cut, base_at}
use Rattle.publication_core.specs.Building.{HaveBlocks}
use Rattle.publication_core.specs.Histories.{groups_of}
pub use Rattle.publication_core.specs.Histories.{Course, from_jobs, from_base, course_of}
use Rattle.place_core.specs.Cuts.{Cut}
use Rattle.cut_core.specs.Cutting.{cut_in}

-- these releases, and then what the jobs leave; no part is known, and the trailers are zeros
abbrev pub left_after : List Release → List JobIn → List Release
left_after rs jobs = releases (λ rs job. zero_key) rs (map facts_in jobs)

-- what the members of a course leave
abbrev pub left : Course → List Release
left (from_jobs jobs) = left_after [] jobs
left (from_base c moment kept jobs) = left_after (base_at moment (releases_cut kept (left c)) zero_key ∷ []) jobs

-- the same members, and of each job what is kept
abbrev pub cut_course : Cut → Course → Course
cut_course cut (from_jobs jobs) = from_jobs (map (cut_in cut) jobs)
cut_course cut (from_base c moment kept jobs) = from_base (cut_course cut c) moment kept (map (cut_in cut) jobs)

-- each group of each of the jobs has a block, behind these releases and the jobs before it
abbrev pub HaveBlocksBehind : List Release → List JobIn → Type 0
HaveBlocksBehind rs [] = Unit {0}
HaveBlocksBehind rs (j ∷ jobs) =
    HaveBlocks j.format (groups_of rs (facts_in j))
    × HaveBlocksBehind (rs ++ released (past_of rs) (facts_in j) zero_key ∷ []) jobs
