use Rattle.std.proofs.Common.{◌≡◌, ◌∙◌, List, ap, rules, of_calls}
use Rattle.std.specs.List.Sorted.{IsPartitionPoint, IsPartitionedBy, IsStrictlySortedBy}
use Rattle.std.specs.Ordering.{is_lt}
use Rattle.std.proofs.lemmas.List.Sorted.{IsPartitionPoint-from_clause}
use Rattle.ident_core.specs.declared.identity.Identity.{Identity}
use Rattle.ident_core.specs.Order.{identity_cmp}
use Rattle.ledger_core.specs.LedgerFields.{ids}
use Rattle.ledger_core.specs.declared.fields.LedgerItem.{LedgerItem}
use Rattle.ident_core.proofs.Order.{lt_less}
use Rattle.ident_core.proofs.Keys.{code_cmp, code_cmp_at}
use Rattle.ident_core.proofs.Sets.{identity_total}
use Rattle.universe_core.proofs.Apart.{comes_before}
use Rattle.universe_core.proofs.Cutting.{keyed_partitioned}
use Rattle.universe_core.proofs.Parting.{behind_it, in_front, Fails, Passes}
use Rattle.universe_core.proofs.halving.items_before.Goals as goal

items_partitioned : (x : Identity) (items : List LedgerItem) → IsStrictlySortedBy identity_cmp (ids items) → IsPartitionedBy (λ (i : LedgerItem). comes_before x i.id) items
items_partitioned x = keyed_partitioned (λ (i : LedgerItem). i.id) (comes_before x) (λ y z l h. ap is_lt (identity_total.trans y z x l (lt_less (identity_cmp z x) h)))

pub returns : goal.returns
returns c =
    let x = c.args.id.now in
    let items = c.args.items.now in
    let comes = λ (i : LedgerItem). comes_before x i.id in
    let point : IsPartitionPoint (Passes comes) (Fails comes) items c.partition_point.result =
    IsPartitionPoint-from_clause comes items c.partition_point.result c.partition_point.ensures.partitioned (items_partitioned x items c.requires)
    (λ a r f k. let answer : r ≡ is_lt (code_cmp a.0.now.id x) = search (rules, of_calls) in (answer ∙ ap is_lt (code_cmp_at a.0.now.id x), search (rules, of_calls))) in
    record {
      within = c.partition_point.ensures.bound;
      front = in_front comes items c.partition_point.result c.partition_point.ensures.bound point;
      back = behind_it comes items c.partition_point.result c.partition_point.ensures.bound point;
    }
