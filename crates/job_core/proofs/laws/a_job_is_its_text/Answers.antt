use Rattle.job_core.proofs.JobReads.{spelled-read}
use Rattle.job_core.proofs.JobSpelled.{all-bytes, read-found, found-read}
use Rattle.job_core.proofs.laws.a_job_is_its_text.Goals as goal

pub returns-clause-read : goal.returns-clause-read
returns-clause-read c = λ limits j fits. spelled-read limits j fits

pub returns-clause-found : goal.returns-clause-found
returns-clause-found c = λ limits bytes r all. (read-found limits bytes r (all-bytes bytes all), found-read limits bytes r)
