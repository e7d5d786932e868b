use Rattle.card_core.proofs.ShardLaws.{filter_exact}
use Rattle.card_core.proofs.laws.filter_is_exact.Goals as goal

pub returns : goal.returns
returns c = filter_exact
