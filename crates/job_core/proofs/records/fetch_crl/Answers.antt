use Rattle.std.proofs.lemmas.Result.{err_from_is_err_and}
use Rattle.job_core.proofs.Fetched.{crl-fetched, crl-issuer, crl-width, crl-bytes}
use Rattle.job_core.proofs.records.fetch_crl.Goals as goal

pub returns-in_err-issuer-clause-exact : goal.returns-in_err-issuer-clause-exact
returns-in_err-issuer-clause-exact g c =
    let p = err_from_is_err_and c.from_residual.result c.from_residual.ensures.1 in
    rw (p.1, p.2) (crl-issuer g.D.Depot c.args.feed.now _ _ c.in_err-issuer.ensures.exact)

pub returns-in_err-width-clause-exact : goal.returns-in_err-width-clause-exact
returns-in_err-width-clause-exact g c =
    let p = err_from_is_err_and c.from_residual-in_err-width.result c.from_residual-in_err-width.ensures.1 in
    rw (p.1, p.2) (crl-width g.D.Depot c.args.feed.now _ _ _ _ c.in_ok-issuer.ensures.exact c.in_err-width.ensures.exact)

pub returns-in_err-fetch_octets-clause-exact : goal.returns-in_err-fetch_octets-clause-exact
returns-in_err-fetch_octets-clause-exact g c =
    let p = err_from_is_err_and c.from_residual-in_err-fetch_octets.result c.from_residual-in_err-fetch_octets.ensures.1 in
    rw (p.1, p.2) (crl-bytes g.D.Depot c.args.feed.now _ _ _ _ _ _ _ c.in_ok-issuer.ensures.exact c.in_ok-width.ensures.exact c.in_err-fetch_octets.ensures.exact)

pub returns-clause-exact : goal.returns-clause-exact
returns-clause-exact g c = crl-fetched g.D.Depot c.args.feed.now _ _ _ _ _ _ _ c.in_ok-issuer.ensures.exact c.in_ok-width.ensures.exact c.in_ok-fetch_octets.ensures.exact
