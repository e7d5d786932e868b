use Rattle.std.proofs.lemmas.Result.{err_from_is_err_and}
use Rattle.std.proofs.lemmas.Bool.{ne_eqb}
use Rattle.job_core.specs.Partial.{held_in}
use Rattle.job_core.proofs.Fetched.{next-err, next-over, next-one, next-one-err}
use Rattle.job_core.proofs.records.next_item_from.Goals as goal

pub returns-in_err-kind-clause-exact : goal.returns-in_err-kind-clause-exact
returns-in_err-kind-clause-exact g c =
    let p = err_from_is_err_and c.from_residual.result c.from_residual.ensures.1 in
    rw (p.1, p.2) (next-err g.D.Depot c.args.into.now c.args.limits.now (held_in c.args.numbers.now) c.args.feed.now _ _ c.in_err-kind.ensures.exact)

pub returns-then-kind-eq0-clause-exact : goal.returns-then-kind-eq0-clause-exact
returns-then-kind-eq0-clause-exact g c =
    next-over g.D.Depot c.args.into.now c.args.limits.now (held_in c.args.numbers.now) c.args.feed.now _ c.in_ok-kind.kind c.if-kind-eq0.true c.in_ok-kind.ensures.exact

pub returns-in_err-item-clause-exact : goal.returns-in_err-item-clause-exact
returns-in_err-item-clause-exact g c =
    let p = err_from_is_err_and c.from_residual-in_err-item.result c.from_residual-in_err-item.ensures.1 in
    rw (p.1, p.2) (next-one-err g.D.Depot c.item_from.new.into c.args.limits.now (held_in c.args.numbers.now) c.args.feed.now _ _ _ _
    (ne_eqb c.in_ok-kind.kind 0 c.if-kind-eq0.false) c.in_ok-kind.ensures.exact c.in_err-item.ensures.exact)

pub returns-clause-exact : goal.returns-clause-exact
returns-clause-exact g c = next-one g.D.Depot c.item_from.new.into c.args.limits.now (held_in c.args.numbers.now) c.args.feed.now _ _ _ _
    (ne_eqb c.in_ok-kind.kind 0 c.if-kind-eq0.false) c.in_ok-kind.ensures.exact c.in_ok-item.ensures.exact
