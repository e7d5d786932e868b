use Rattle.card_core.proofs.FilterLaws.{block_unique}
use Rattle.card_core.proofs.laws.block_is_unique.Goals as goal

pub returns : goal.returns
returns c = block_unique
