use Rattle.ident_core.proofs.Within.{within-iff}
use Rattle.ident_core.proofs.range.shrinks.Goals as goal

pub returns-clause-none : goal.returns-clause-none
returns-clause-none c = within-iff c.args.old.now c.args.new.now c.first_log_outside.result c.first_log_outside.ensures
