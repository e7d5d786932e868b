use Rattle.std.proofs.Common.{◌≡◌, map, take}
use Rattle.ledger_core.specs.LedgerFields.{part_fields}
use Rattle.universe_core.proofs.following.copied_parts.Given as goal

abbrev pub invariant-loop-part : goal.invariant-loop-part
invariant-loop-part l = map part_fields l.out.items ≡ map part_fields (take l.part-index l.parts)
