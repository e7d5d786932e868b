use Rattle.builder_core.proofs.OutcomeLaws.{outcomes_give}
use Rattle.builder_core.proofs.laws.outcomes_give_blocks.Goals as goal

pub returns : goal.returns
returns c = outcomes_give
