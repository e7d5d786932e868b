use Rattle.std.proofs.Common.{◌≡◌, ◌-◌, Some}
use Rattle.octets_core.specs.Layout.{repeated}
use Rattle.octets_core.specs.Linked.{is_after}
use Rattle.octets_core.specs.Reading.{key}
use Rattle.octets_core.specs.declared.field.Field.TheVariants as fields
use Rattle.octets_core.proofs.Repeated.{with_front}
use Rattle.ledger_core.specs.LedgerLayout.{issuers}
use Rattle.ledger_core.proofs.decode.issuers_of.Given as goal

abbrev pub invariant-loop : goal.invariant-loop
invariant-loop l = record {
  read : with_front l.issuers.items (repeated (λ previous. key fields.LedgerIssuer (is_after previous)) (λ previous issuer. Some issuer) (l.count - l.counter)
      l.previous l.cursor.bytes l.cursor.at) ≡ issuers l.count l.fn.cursor.bytes l.fn.cursor.at;
  same : l.cursor.bytes ≡ l.fn.cursor.bytes;
}
