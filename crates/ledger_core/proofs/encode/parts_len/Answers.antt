use Rattle.ledger_core.specs.LedgerFields.{part_fields}
use Rattle.ledger_core.specs.Fitting.{IsSmall}
use Rattle.ledger_core.proofs.Small.{at-place}
use Rattle.ledger_core.proofs.encode.parts_len.Goals as goal

pub part_len-total-requires : goal.part_len-total-requires
part_len-total-requires c = at-place (λ p. IsSmall (part_fields p)) c.args.parts.now c.loop-part.part-index c.part-item.result c.loop-part-test.true c.part-item.is c.requires.small
