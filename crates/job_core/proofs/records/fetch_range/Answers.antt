use Rattle.std.proofs.lemmas.Result.{err_from_is_err_and}
use Rattle.job_core.proofs.Fetched.{range-fetched, range-log, range-from, range-to}
use Rattle.job_core.proofs.records.fetch_range.Goals as goal

pub returns-in_err-log-clause-exact : goal.returns-in_err-log-clause-exact
returns-in_err-log-clause-exact g c =
    let p = err_from_is_err_and c.from_residual.result c.from_residual.ensures.1 in
    rw (p.1, p.2) (range-log g.D.Depot c.args.previous c.args.feed.now _ _ c.in_err-log.ensures.exact)

pub returns-in_err-from-clause-exact : goal.returns-in_err-from-clause-exact
returns-in_err-from-clause-exact g c =
    let p = err_from_is_err_and c.from_residual-in_err-from.result c.from_residual-in_err-from.ensures.1 in
    rw (p.1, p.2) (range-from g.D.Depot c.args.previous c.args.feed.now _ _ _ _ c.in_ok-log.ensures.exact c.in_err-from.ensures.exact)

pub returns-in_err-to-clause-exact : goal.returns-in_err-to-clause-exact
returns-in_err-to-clause-exact g c =
    let p = err_from_is_err_and c.from_residual-in_err-to.result c.from_residual-in_err-to.ensures.1 in
    rw (p.1, p.2) (range-to g.D.Depot c.args.previous c.args.feed.now _ _ _ _ _ _ c.in_ok-log.ensures.exact c.in_ok-from.ensures.exact c.in_err-to.ensures.exact)

pub returns-clause-exact : goal.returns-clause-exact
returns-clause-exact g c = range-fetched g.D.Depot c.args.previous c.args.feed.now _ _ _ _ _ _ c.in_ok-log.ensures.exact c.in_ok-from.ensures.exact c.in_ok-to.ensures.exact
