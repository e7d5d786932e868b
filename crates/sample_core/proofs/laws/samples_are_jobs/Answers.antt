use Rattle.sample_core.proofs.Jobs.{sample-fits, sample-read}
use Rattle.sample_core.proofs.laws.samples_are_jobs.Goals as goal

pub returns-clause-fits : goal.returns-clause-fits
returns-clause-fits c = λ number count some few. sample-fits number count some few

pub returns-clause-read : goal.returns-clause-read
returns-clause-read c = λ number count some few. sample-read number count c.a_job_is_its_text.ensures.read some few
