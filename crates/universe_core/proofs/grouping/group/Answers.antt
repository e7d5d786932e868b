use Rattle.std.proofs.Common.{◌∙◌, ◌-◌, take, drop, rules, tests}
use Rattle.std.proofs.lemmas.Iterator.{YieldsList-from_slice, YieldsList-from_map, items_from_collect}
use Rattle.std.proofs.lemmas.Iterator.Consumers.{YieldsList-from_copied, YieldsList-at}
use Rattle.std.proofs.lemmas.Result.{IfOk-at_ok}
use Rattle.ledger_core.specs.LedgerFields.{ids}
use Rattle.ledger_core.specs.declared.fields.LedgerItem.{LedgerItem}
use Rattle.universe_core.proofs.Cutting.{group_from}
use Rattle.universe_core.proofs.IssuerRuns.{cut_run, ids_run, flags_run}
use Rattle.universe_core.proofs.grouping.group.Goals as goal

pub returns : goal.returns
returns c =
    let k = c.args.issuer.now in
    let xs = c.args.items.now in
    let run = c.run_of-run.result in
    let universe = IfOk-at_ok _ c.in_ok-universe.was
    (items_from_collect _ c.collect.ensures.ran
    (YieldsList-from_map _ (λ (m : LedgerItem). m.id) (YieldsList-at c.map.ensures.source (YieldsList-from_slice (cut_run xs run) c.iter.ensures.rest)) c.map.ensures.closure (λ x r q k. search (rules, tests)))) in
    let flags = IfOk-at_ok _ c.in_ok-collect.was
    (items_from_collect _ c.collect-2.ensures.ran
    (YieldsList-from_copied (YieldsList-at c.copied.ensures.source (YieldsList-from_slice (take (run.end - run.start) (drop run.start c.args.revoked.now)) c.iter-2.ensures.rest)))) in
    λ h e. group_from h k (ids xs) c.in_ok-universe.universe.items c.in_ok-collect.field-0.items
    (universe ∙ ids_run k xs run c.run_of-run.ensures)
    (flags ∙ flags_run h k xs run c.args.revoked.now c.run_of-run.ensures e)
