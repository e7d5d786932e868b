use Rattle.std.proofs.lemmas.Result.{err_from_is_err_and}
use Rattle.job_core.proofs.Fetched.{opening-fetched, opening-magic, opening-epoch, opening-moment}
use Rattle.job_core.proofs.records.fetch_opening.Goals as goal

pub returns-in_err-fetch_magic-clause-exact : goal.returns-in_err-fetch_magic-clause-exact
returns-in_err-fetch_magic-clause-exact g c =
    let p = err_from_is_err_and c.from_residual.result c.from_residual.ensures.1 in
    rw (p.1, p.2) (opening-magic g.D.Depot c.args.feed.now _ _ c.in_err-fetch_magic.ensures.exact)

pub returns-in_err-epoch-clause-exact : goal.returns-in_err-epoch-clause-exact
returns-in_err-epoch-clause-exact g c =
    let p = err_from_is_err_and c.from_residual-in_err-epoch.result c.from_residual-in_err-epoch.ensures.1 in
    rw (p.1, p.2) (opening-epoch g.D.Depot c.args.feed.now _ _ _ _ c.in_ok-fetch_magic.ensures.exact c.in_err-epoch.ensures.exact)

pub returns-in_err-moment-clause-exact : goal.returns-in_err-moment-clause-exact
returns-in_err-moment-clause-exact g c =
    let p = err_from_is_err_and c.from_residual-in_err-moment.result c.from_residual-in_err-moment.ensures.1 in
    rw (p.1, p.2) (opening-moment g.D.Depot c.args.feed.now _ _ _ _ _ _ c.in_ok-fetch_magic.ensures.exact c.in_ok-epoch.ensures.exact c.in_err-moment.ensures.exact)

pub returns-clause-exact : goal.returns-clause-exact
returns-clause-exact g c = opening-fetched g.D.Depot c.args.feed.now _ _ _ _ _ _ c.in_ok-fetch_magic.ensures.exact c.in_ok-epoch.ensures.exact c.in_ok-moment.ensures.exact
