use Rattle.card_core.proofs.LeafLaws.{refused_no_leaf}
use Rattle.card_core.proofs.laws.refused_has_no_leaf.Goals as goal

pub returns : goal.returns
returns c = refused_no_leaf
