use Rattle.job_core.proofs.records.item_from.Goals as goal

pub returns-in-1-clause-exact : goal.returns-in-1-clause-exact
returns-in-1-clause-exact g c = rw c.in-1.is (c.range_from.ensures.exact c.args.into.now)

pub returns-in-2-clause-exact : goal.returns-in-2-clause-exact
returns-in-2-clause-exact g c = rw c.in-2.is (c.crl_from.ensures.exact c.args.into.now)
