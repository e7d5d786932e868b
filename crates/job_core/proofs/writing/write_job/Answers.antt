use Rattle.job_core.specs.JobText.{contents_of}
use Rattle.job_core.proofs.JobReads.{read_back-of}
use Rattle.job_core.proofs.writing.write_job.Goals as goal

pub returns-clause-read_back : goal.returns-clause-read_back
returns-clause-read_back c = read_back-of (λ out. out.items) _ (contents_of c.args.job.now) c.bytes_of.result c.bytes_of.ensures.text c.bytes_of.ensures.fits
