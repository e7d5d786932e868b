use Rattle.ledger_core.proofs.Small.{parts-small}
use Rattle.ledger_core.proofs.encode.put_head.Goals as goal

pub put_parts-requires : goal.put_parts-requires
put_parts-requires c = parts-small c.args.ledger.now c.parts-parts.result.now c.parts-parts.ensures.value c.parts-parts.ensures.facts
