use Rattle.std.proofs.Common.{sym, ◌∙◌}
use Rattle.std.proofs.lemmas.Result.{err_from_is_err_and}
use Rattle.job_core.specs.Partial.{held_in}
use Rattle.job_core.proofs.Fetched.{entry_item-fetched, entry_item-err, entry_item-over}
use Rattle.job_core.proofs.records.entry_from.Goals as goal

pub returns-then-not-is_room-clause-exact : goal.returns-then-not-is_room-clause-exact
returns-then-not-is_room-clause-exact g c =
    entry_item-over g.D.Depot c.args.into.now c.args.limits.now (held_in c.args.numbers.now) c.args.feed.now (sym c.is_room.ensures ∙ c.if-not-is_room.true)

pub returns-in_err-fetch_entry-clause-exact : goal.returns-in_err-fetch_entry-clause-exact
returns-in_err-fetch_entry-clause-exact g c =
    let p = err_from_is_err_and c.from_residual.result c.from_residual.ensures.1 in
    rw (p.1, p.2) (entry_item-err g.D.Depot c.fetch_entry.new.into c.args.limits.now (held_in c.args.numbers.now) c.args.feed.now _ _
    (sym c.is_room.ensures ∙ c.if-not-is_room.false) c.in_err-fetch_entry.ensures.exact)

pub returns-clause-exact : goal.returns-clause-exact
returns-clause-exact g c =
    entry_item-fetched g.D.Depot c.fetch_entry.new.into c.args.limits.now (held_in c.args.numbers.now) c.args.feed.now _ _
    (sym c.is_room.ensures ∙ c.if-not-is_room.false) c.in_ok-fetch_entry.ensures.exact
