use Rattle.std.proofs.Common.{◌≤◌, ◌+◌, ◌*◌}
use Rattle.ident_core.specs.declared.bounds.TheConstants.{MAX_RANGES, MAX_ISSUERS}
use Rattle.ident_core.specs.declared.layout.TheConstants.{RANGE_BYTES}
use Rattle.ledger_core.specs.declared.encode.TheConstants.{PART, ISSUER}
use Rattle.ledger_core.proofs.encode.parts_len.Given as goal

abbrev pub invariant-loop-part : goal.invariant-loop-part
invariant-loop-part l = l.total ≤ l.part-index * (PART + RANGE_BYTES * MAX_RANGES + ISSUER * MAX_ISSUERS)
