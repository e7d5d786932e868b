use Rattle.std.proofs.Common.{refl}
use Rattle.std.proofs.lemmas.Result.{err_from_is_err_and}
use Rattle.job_core.proofs.Fetched.{entry-fetched, entry-log, entry-leaf_width, entry-leaf, entry-extra_width, entry-extra}
use Rattle.job_core.proofs.records.fetch_entry.Goals as goal

pub returns-in_err-into-clause-exact : goal.returns-in_err-into-clause-exact
returns-in_err-into-clause-exact g c =
    let p = err_from_is_err_and c.from_residual.result c.from_residual.ensures.1 in
    rw (p.1, p.2) (entry-log g.D.Depot _ c.args.feed.now _ _ c.in_err-into.ensures.exact)

pub returns-in_err-leaf_width-clause-exact : goal.returns-in_err-leaf_width-clause-exact
returns-in_err-leaf_width-clause-exact g c =
    let p = err_from_is_err_and c.from_residual-in_err-leaf_width.result c.from_residual-in_err-leaf_width.ensures.1 in
    rw (p.1, p.2) (entry-leaf_width g.D.Depot _ c.args.feed.now _ _ _ _ c.in_ok-into.ensures.exact c.in_err-leaf_width.ensures.exact)

pub returns-in_err-fetch_octets-clause-exact : goal.returns-in_err-fetch_octets-clause-exact
returns-in_err-fetch_octets-clause-exact g c =
    let p = err_from_is_err_and c.from_residual-in_err-fetch_octets.result c.from_residual-in_err-fetch_octets.ensures.1 in
    rw (p.1, p.2) (entry-leaf g.D.Depot _ c.args.feed.now _ _ _ _ _ _ _ c.in_ok-into.ensures.exact c.in_ok-leaf_width.ensures.exact c.in_err-fetch_octets.ensures.exact)

pub returns-in_err-extra_width-clause-exact : goal.returns-in_err-extra_width-clause-exact
returns-in_err-extra_width-clause-exact g c =
    let p = err_from_is_err_and c.from_residual-in_err-extra_width.result c.from_residual-in_err-extra_width.ensures.1 in
    rw (p.1, p.2) (entry-extra_width g.D.Depot _ c.args.feed.now _ _ _ _ _ _ _ _ _ c.in_ok-into.ensures.exact c.in_ok-leaf_width.ensures.exact c.in_ok-fetch_octets.ensures.exact
    c.in_err-extra_width.ensures.exact)

pub returns-in_err-fetch_octets-2-clause-exact : goal.returns-in_err-fetch_octets-2-clause-exact
returns-in_err-fetch_octets-2-clause-exact g c =
    let p = err_from_is_err_and c.from_residual-in_err-fetch_octets-2.result c.from_residual-in_err-fetch_octets-2.ensures.1 in
    rw (p.1, p.2) (entry-extra g.D.Depot _ c.args.feed.now _ _ _ _ _ _ _ _ _ _ _ _ c.in_ok-into.ensures.exact c.in_ok-leaf_width.ensures.exact
    c.in_ok-fetch_octets.ensures.exact c.in_ok-extra_width.ensures.exact c.in_err-fetch_octets-2.ensures.exact)

pub returns-clause-exact : goal.returns-clause-exact
returns-clause-exact g c = entry-fetched g.D.Depot _ c.args.feed.now _ _ _ _ _ _ _ _ _ _ _ _ _ refl c.in_ok-into.ensures.exact c.in_ok-leaf_width.ensures.exact
    c.in_ok-fetch_octets.ensures.exact c.in_ok-extra_width.ensures.exact c.in_ok-fetch_octets-2.ensures.exact
