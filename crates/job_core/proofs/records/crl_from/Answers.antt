use Rattle.std.proofs.Common.{sym, ◌∙◌}
use Rattle.std.proofs.lemmas.Result.{err_from_is_err_and}
use Rattle.job_core.specs.Partial.{held_in}
use Rattle.job_core.proofs.Fetched.{crl_item-fetched, crl_item-err, crl_item-over}
use Rattle.job_core.proofs.records.crl_from.Goals as goal

pub returns-then-not-is_room-clause-exact : goal.returns-then-not-is_room-clause-exact
returns-then-not-is_room-clause-exact g c = λ n.
    crl_item-over g.D.Depot n c.args.limits.now (held_in c.args.numbers.now) c.args.feed.now (sym c.is_room.ensures ∙ c.if-not-is_room.true)

pub returns-in_err-crl-clause-exact : goal.returns-in_err-crl-clause-exact
returns-in_err-crl-clause-exact g c =
    let p = err_from_is_err_and c.from_residual.result c.from_residual.ensures.1 in
    rw (p.1, p.2) (λ n. crl_item-err g.D.Depot n c.args.limits.now (held_in c.args.numbers.now) c.args.feed.now _ _ (sym c.is_room.ensures ∙ c.if-not-is_room.false) c.in_err-crl.ensures.exact)

pub returns-clause-exact : goal.returns-clause-exact
returns-clause-exact g c =
    λ n. crl_item-fetched g.D.Depot n c.args.limits.now (held_in c.args.numbers.now) c.args.feed.now _ _ (sym c.is_room.ensures ∙ c.if-not-is_room.false) c.in_ok-crl.ensures.exact
