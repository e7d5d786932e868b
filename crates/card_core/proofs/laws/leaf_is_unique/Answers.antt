use Rattle.card_core.proofs.LeafLaws.{leaf_unique}
use Rattle.card_core.proofs.laws.leaf_is_unique.Goals as goal

pub returns : goal.returns
returns c = leaf_unique
