use Rattle.ledger_core.proofs.Small.{parts-small}
use Rattle.ledger_core.proofs.encode.encode_body.Goals as goal

pub parts_len-requires-clause-small : goal.parts_len-requires-clause-small
parts_len-requires-clause-small c = parts-small c.args.ledger.now c.parts.result.now c.parts.ensures.value c.parts.ensures.facts
