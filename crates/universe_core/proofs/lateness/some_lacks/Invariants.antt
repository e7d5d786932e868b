use Rattle.std.specs.List.{list_any}
use Rattle.std.proofs.Common.{◌≡◌, ◌&&◌, drop}
use Rattle.ident_core.specs.Coverage.{covers}
use Rattle.ident_core.specs.Sets.{has_key}
use Rattle.ledger_core.specs.declared.fields.LedgerPart.{LedgerPart}
use Rattle.universe_core.proofs.lateness.some_lacks.Given as goal

abbrev pub invariant-loop-part : goal.invariant-loop-part
invariant-loop-part l =
    list_any (λ (p : LedgerPart). covers p.ranges.items l.sighting && has_key p.issuers.items l.issuer) (drop l.part-index l.parts)
    ≡ list_any (λ (p : LedgerPart). covers p.ranges.items l.sighting && has_key p.issuers.items l.issuer) l.parts
