use Rattle.std.proofs.Common.{◌≡◌, map, take, Bool}
use Rattle.ident_core.specs.declared.identity.Identity.{Identity}
use Rattle.ledger_core.specs.LedgerFields.{ids}
use Rattle.universe_core.specs.Groups.{group_fields}
use Rattle.universe_core.specs.Members.{group_with}
use Rattle.universe_core.proofs.grouping.groups.Given as goal

abbrev pub invariant-loop-issuer : goal.invariant-loop-issuer
invariant-loop-issuer l = (h : Identity → Bool) → l.revoked ≡ map h (ids l.items) → map group_fields l.out.items ≡ map (group_with h (ids l.items)) (take l.issuer-index l.issuers)
