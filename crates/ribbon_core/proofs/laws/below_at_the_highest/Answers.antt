use Rattle.ribbon_core.proofs.LeastLaws.{below_highest, below_lesser}
use Rattle.ribbon_core.proofs.laws.below_at_the_highest.Goals as goal

pub returns-clause-highest : goal.returns-clause-highest
returns-clause-highest c = below_highest

pub returns-clause-lesser : goal.returns-clause-lesser
returns-clause-lesser c = below_lesser
