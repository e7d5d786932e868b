use Rattle.history_core.proofs.Beginnings.{past_in_none, first_sound, first_groups, first_ledger}
use Rattle.history_core.proofs.laws.first_job_is_sound.Goals as goal

pub returns : goal.returns
returns c = record {
  told = past_in_none;
  sound = λ trailer job. first_sound trailer job;
  groups = λ job trailer. first_groups job trailer;
  next = λ job trailer. first_ledger job trailer;
}
