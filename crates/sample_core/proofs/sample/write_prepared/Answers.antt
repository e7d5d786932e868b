use Rattle.outside_core.proofs.Appending.{KeepsOthers-then, KeepsOthers-putting}
use Rattle.sample_core.proofs.Moving.{begun-whole, begun-cut, begin-keeps, on-ok, on-err}
use Rattle.sample_core.proofs.sample.write_prepared.Goals as goal

pub returns-in_err-begin-clause-others : goal.returns-in_err-begin-clause-others
returns-in_err-begin-clause-others g c = begin-keeps (g.D.Depot.files c.args.depot.now) (g.D.Depot.files c.begin.new.self) c.args.name.now c.in_err-begin.ensures.err

pub returns-clause-ok : goal.returns-clause-ok
returns-clause-ok g c =
    on-ok c.append_sample.result _ _
    (begun-whole (g.D.Depot.files c.args.depot.now) (g.D.Depot.files c.begin.new.self) (g.D.Depot.files c.append_sample.new.depot) c.args.name.now _ c.in_ok-begin.ensures.ok)
    c.append_sample.ensures.ok

pub returns-clause-err : goal.returns-clause-err
returns-clause-err g c =
    on-err c.append_sample.result _ _
    (begun-cut (g.D.Depot.files c.args.depot.now) (g.D.Depot.files c.begin.new.self) (g.D.Depot.files c.append_sample.new.depot) c.args.name.now _ c.in_ok-begin.ensures.ok)
    c.append_sample.ensures.err

pub returns-clause-others : goal.returns-clause-others
returns-clause-others g c =
    KeepsOthers-then (g.D.Depot.files c.args.depot.now) (g.D.Depot.files c.begin.new.self) (g.D.Depot.files c.append_sample.new.depot) c.args.name.now
    (KeepsOthers-putting _ _ c.args.name.now _ c.in_ok-begin.ensures.ok)
    c.append_sample.ensures.others
