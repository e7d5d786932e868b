use Rattle.builder_core.proofs.OutcomesOnce.{outcomes_once}
use Rattle.builder_core.proofs.laws.outcomes_are_unique.Goals as goal

pub returns : goal.returns
returns c = outcomes_once
