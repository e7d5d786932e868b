use Rattle.ribbon_core.proofs.LeastOrNone.{least_or_none}
use Rattle.ribbon_core.proofs.existence.a_least_or_none.Goals as goal

pub returns : goal.returns
returns c = least_or_none
