use Rattle.job_core.proofs.Fitting.{within-job}
use Rattle.job_core.proofs.JobSpelled.{read-spelled}
use Rattle.job_core.proofs.ReadFacts.{job-fits}
use Rattle.job_core.proofs.read_facts.jobs_that_are_read_fit.Goals as goal

pub returns : goal.returns
returns c = record {
  fits = λ limits bytes job octets published is. job-fits limits bytes job octets published (read-spelled limits bytes job octets is);
  within = λ limits bytes job octets is. within-job limits bytes job (read-spelled limits bytes job octets is);
}
