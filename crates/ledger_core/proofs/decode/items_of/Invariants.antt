use Rattle.std.proofs.Common.{◌≡◌, ◌-◌, Some}
use Rattle.octets_core.specs.Layout.{repeated}
use Rattle.octets_core.proofs.Repeated.{with_front}
use Rattle.ledger_core.specs.LedgerLayout.{item, items}
use Rattle.ledger_core.proofs.decode.items_of.Given as goal

abbrev pub invariant-loop : goal.invariant-loop
invariant-loop l = record {
  read : with_front l.items.items (repeated (item l.version l.parts) (λ previous x. Some x.id) (l.count - l.counter) l.previous l.cursor.bytes l.cursor.at)
      ≡ items l.version l.parts l.count l.fn.cursor.bytes l.fn.cursor.at;
  same : l.cursor.bytes ≡ l.fn.cursor.bytes;
}
