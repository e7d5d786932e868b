use Rattle.std.proofs.Common.{◌≡◌, ◌++◌, take}
use Rattle.std.specs.Prelude.{flat_map, All}
use Rattle.ledger_core.specs.LedgerFields.{part_fields}
use Rattle.ledger_core.specs.LedgerText.{part_text}
use Rattle.ledger_core.specs.Fitting.{PartFits}
use Rattle.ledger_core.proofs.encode.put_parts.Given as goal

abbrev pub invariant-loop-part : goal.invariant-loop-part
invariant-loop-part l = record {
  text : l.out.items ≡ l.fn.out.items ++ flat_map (λ p. part_text (part_fields p)) (take l.part-index l.parts);
  fits : All (λ p. PartFits (part_fields p)) (take l.part-index l.parts);
}
