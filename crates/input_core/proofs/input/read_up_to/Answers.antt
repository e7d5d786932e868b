use Rattle.std.proofs.Common.{rules, subst}
use Rattle.std.specs.Prelude.{IsErrOf}
use Rattle.outside_core.specs.Reads.{ReadFailed}
use Rattle.input_core.specs.declared.input.InputFault.TheVariants.{Failed}
use Rattle.input_core.proofs.input.read_up_to.Goals as goal

pub returns-clause-failed : goal.returns-clause-failed
returns-clause-failed g c =
    subst (λ (d : g.row.D.Denot). IsErrOf c.fed_up_to.result Failed → ReadFailed g.D.Depot c.args.name.now c.args.depot.now d) (search rules)
    (rw (c.new-feed.ensures.depot, c.new-feed.ensures.name) at c.fed_up_to.ensures.failed)
