use Rattle.std.specs.Ordering.{is_lt}
use Rattle.std.proofs.Common.{not, rules, of_calls}
use Rattle.std.proofs.lemmas.Fn.{always_returns_same}
use Rattle.ident_core.specs.Order.{octets_cmp}
use Rattle.ledger_core.specs.declared.fields.LedgerItem.{LedgerItem}
use Rattle.universe_core.proofs.IssuerRuns.{run_is, start_partitioned, end_partitioned}
use Rattle.universe_core.proofs.marking.run_of.Goals as goal

pub returns : goal.returns
returns c =
    let k = c.args.issuer.now in
    let ms = c.args.members.now in
    let start = c.partition_point-start.result in
    run_is k ms start c.partition_point-own.result c.partition_point-start.ensures.bound
    (c.partition_point-start.ensures.partitioned (λ (m : LedgerItem). is_lt (octets_cmp m.id.issuer k))
    (always_returns_same _ _ _ (λ a r f k. search (rules, of_calls))) (start_partitioned k ms c.requires))
    c.partition_point-own.ensures.bound
    (c.partition_point-own.ensures.partitioned (λ (m : LedgerItem). not (is_lt (octets_cmp k m.id.issuer)))
    (always_returns_same _ _ _ (λ a r f k. search (rules, of_calls))) (end_partitioned k ms start c.requires))
