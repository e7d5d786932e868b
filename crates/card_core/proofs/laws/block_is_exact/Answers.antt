use Rattle.card_core.proofs.FilterLaws.{block_exact}
use Rattle.card_core.proofs.laws.block_is_exact.Goals as goal

pub returns : goal.returns
returns c = block_exact
