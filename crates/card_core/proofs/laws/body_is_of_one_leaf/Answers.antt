use Rattle.card_core.proofs.FilterLaws.{body_of_one}
use Rattle.card_core.proofs.laws.body_is_of_one_leaf.Goals as goal

pub returns : goal.returns
returns c = body_of_one
