use Rattle.std.proofs.Common.{◌≡◌, ◌-◌, map, Some}
use Rattle.octets_core.specs.Layout.{repeated}
use Rattle.octets_core.proofs.Repeated.{with_front}
use Rattle.ledger_core.specs.LedgerFields.{part_fields, newest}
use Rattle.ledger_core.specs.LedgerLayout.{ledger_part, ledger_parts}
use Rattle.ledger_core.proofs.decode.parts_of.Given as goal

abbrev pub invariant-loop : goal.invariant-loop
invariant-loop l = record {
  read : with_front (map part_fields l.parts.items) (repeated ledger_part (λ previous p. Some p) (l.count - l.counter) (newest (map part_fields l.parts.items))
      l.cursor.bytes l.cursor.at) ≡ ledger_parts l.count l.fn.cursor.bytes l.fn.cursor.at;
  same : l.cursor.bytes ≡ l.fn.cursor.bytes;
}
