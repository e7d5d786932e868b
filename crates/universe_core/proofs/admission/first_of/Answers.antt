use Rattle.universe_core.proofs.Continuing.{before_none}
use Rattle.universe_core.proofs.admission.first_of.Goals as goal

pub step-requires-clause-before : goal.step-requires-clause-before
step-requires-clause-before g c = before_none
