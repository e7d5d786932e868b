use Rattle.card_core.proofs.ShardLaws.{filter_unique}
use Rattle.card_core.proofs.laws.filter_is_unique.Goals as goal

pub returns : goal.returns
returns c = filter_unique
