use Rattle.history_core.proofs.Beginnings.{first_listed, first_revoked}
use Rattle.history_core.proofs.laws.first_job_in_words.Goals as goal

pub returns : goal.returns
returns c = record {
  listed = λ trailer job x. first_listed trailer job x;
  revoked = λ trailer job x. first_revoked trailer job x;
}
