use Rattle.std.proofs.Common.{rules, subst}
use Rattle.outside_core.specs.Reads.{WhichFailed}
use Rattle.input_core.specs.Fed.{IsFed}
use Rattle.input_core.proofs.fed.made_of.Goals as goal

pub returns-clause-fed : goal.returns-clause-fed
returns-clause-fed g c =
    subst (λ (d : g.row.D.Denot). IsFed (g.D.Depot.files c.args.depot.now) (WhichFailed g.D.Depot c.args.depot.now d) c.args.name.now g.F.Fed.reads c.fed_to.result) (search rules)
    (rw (c.new-feed.ensures.depot, c.new-feed.ensures.name) at c.fed_to.ensures.fed)
