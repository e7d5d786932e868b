use Rattle.std.proofs.Common.{List, [], ℕ, Some, ap, ◌∙◌}
use Rattle.outside_core.specs.Standing.{file_in}
use Rattle.job_core.specs.JobFields.{fields_of_job}
use Rattle.outside_core.proofs.SliceFiles.{only, file-there, never-fails, slice_ghosts}
use Rattle.job_core.proofs.JobBounds.{at-of}
use Rattle.job_core.proofs.JobGiven.{never-blamed}
use Rattle.job_core.proofs.reading.read_job.Goals as goal

pub returns-clause-exact : goal.returns-clause-exact
returns-clause-exact c =
    let told = ap (λ (b : List ℕ). file_in (Some (only b)) []) c.new-depot.ensures.bytes ∙ file-there c.args.bytes.now c.new-depot.ensures.bound in
    c.read_job_from.ensures.exact c.args.bytes.now (c.new-feed.ensures.stands c.args.bytes.now told)

pub returns-clause-at : goal.returns-clause-at
returns-clause-at c = at-of fields_of_job c.args.limits.now c.args.bytes.now c.read_job_from.result (returns-clause-exact c)

pub returns-clause-no_read : goal.returns-clause-no_read
returns-clause-no_read c =
    never-blamed slice_ghosts c.new-feed.result c.read_job_from.new.feed c.read_job_from.result
    (never-fails c.new-feed.result.depot.now c.read_job_from.new.feed.depot.now _ c.new-feed.ensures.name) c.read_job_from.ensures.blames
