use Rattle.ribbon_core.proofs.Added.{kept_solutions, kept_least, refused_is_unsolvable}
use Rattle.ribbon_core.proofs.laws.kept_are_the_added.Goals as goal

pub returns-clause-solutions : goal.returns-clause-solutions
returns-clause-solutions c es kept added plane Z = kept_solutions plane Z es kept added

pub returns-clause-least : goal.returns-clause-least
returns-clause-least c = kept_least

pub returns-clause-refused : goal.returns-clause-refused
returns-clause-refused c = refused_is_unsolvable
