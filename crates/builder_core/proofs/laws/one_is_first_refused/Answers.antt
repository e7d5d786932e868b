use Rattle.builder_core.proofs.FirstRefused.{first_refused_once}
use Rattle.builder_core.proofs.laws.one_is_first_refused.Goals as goal

pub returns : goal.returns
returns c = first_refused_once
