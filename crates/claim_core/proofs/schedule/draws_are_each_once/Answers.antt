use Rattle.claim_core.proofs.Scheduled.{all_schedules}
use Rattle.claim_core.proofs.schedule.draws_are_each_once.Goals as goal

pub returns : goal.returns
returns c = all_schedules
