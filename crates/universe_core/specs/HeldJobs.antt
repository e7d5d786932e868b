-- The job that is held, lent or given.
use Rattle.job_core.specs.declared.meaning.Job.{Job}
use Rattle.universe_core.specs.declared.held.HeldJob.{HeldJob}
use Rattle.universe_core.specs.declared.held.HeldJob.TheVariants.{Lent, Given}

abbrev pub job_held : HeldJob → Job
job_held (Lent job) = job.now
job_held (Given job) = job
