use Rattle.card_core.proofs.LeafLaws.{leaf_exact}
use Rattle.card_core.proofs.laws.leaf_is_exact.Goals as goal

pub returns : goal.returns
returns c = leaf_exact
